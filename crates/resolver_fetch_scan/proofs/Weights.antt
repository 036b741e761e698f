-- What a scan leaves of the weights with which peers are drawn.
use Rattle.std.proofs.Common.{◌≡◌, refl, ap, sym, ◌∙◌, ℕ, ◌+◌, ◌^◌, Bool, true, false, not, ◌&&◌, List, [], ◌∷◌, ◌++◌, Option, None, Some, Result, Ok, Err, if◌then◌else◌, arith}
use Rattle.std.proofs.lemmas.Bool.Decides.{nat_tests}
use Rattle.std.proofs.lemmas.Grind.{common_steps}
use Rattle.std.specs.Prelude.{nat_le, nat_lt, option_map}
use Rattle.std.specs.Map.{lookup}
use Rattle.std.specs.BTreeMap.{insert_entry, is_at}
use Rattle.std.specs.NonZero.{non_zero_u32_get}
use Rattle.std.specs.Ordering.{is_eq, nat_cmp}
use Rattle.resolver_base.specs.declared.check.Check.TheVariants.{Clear, Until}
use Rattle.resolver_base.specs.declared.fault.Fault.{Fault}
use Rattle.resolver_base.specs.declared.fault.Fault.TheVariants.{OutOfRange}
use Rattle.resolver_fetch_requests.specs.declared.requests.request.Request.{Request}
use Rattle.resolver_fetch_requests.specs.Ids.{is_held}
use Rattle.resolver_fetch_requests.specs.Loads.{is_full, load_of}
use Rattle.resolver_fetch_requests.specs.Requests.{requests_to}
use Rattle.resolver_fetch_requests.proofs.Loaded.{more_if, requests-put}
use Rattle.resolver_sampling.specs.declared.score.Averages.{Averages}
use Rattle.resolver_sampling.specs.Scores.{weight_of}
use Rattle.resolver_fetch_scan.specs.declared.scan.Answer.{Answer}
use Rattle.resolver_fetch_scan.specs.declared.scan.Answer.TheVariants.{Drawn, Checked, Sent}
use Rattle.resolver_fetch_scan.specs.declared.trail.Expected.{Expected}
use Rattle.resolver_fetch_scan.specs.declared.trail.Expected.TheVariants.{Mode, ByWeight, ByPlace, Checking, FirstId, Sending}
use Rattle.resolver_fetch_scan.specs.declared.trail.Reason.TheVariants.{Limited, Refused}
use Rattle.resolver_fetch_scan.specs.Fetcher.{AsksNewId, Fetcher, answered, asked_by, scan_taken, snapshot, turned, weight, with_sent}
use Rattle.resolver_fetch_scan.specs.FetcherLaws.{KeepsWeights, is_sent_to, weight_unless}
use Rattle.resolver_fetch_scan.specs.Known.{is_local, sampling_weight}
use Rattle.resolver_fetch_scan.specs.Orders.{Orders, is_one_of, same_peer}
use Rattle.resolver_fetch_scan.specs.Scan as scans
use Rattle.resolver_fetch_scan.specs.Scan.{Scan, Turn, asks_for, begins, by_place, by_weight, clears, draws, goes_on, goes_on_with, left, mode_of, next, question_of, sends, succeeds, takes_for}
use Rattle.resolver_fetch_scan.specs.Snapshot.{known}
use Rattle.resolver_fetch_scan.specs.Waiting.{Waiting}

-- where a peer gets a request: it is full only if it was, or is the one that gets it
zero-still : (is : Bool) → Some 0 ≡ weight_unless is (Some 0)
zero-still true = refl
zero-still false = refl

sampled : (is_local is_blocked is_sent was is_now : Bool) (w : ℕ) → (is_sent ≡ false → is_now ≡ was) → (is_now ≡ false → was ≡ false)
    → Some (if not is_local && not is_blocked && not is_now then w else 0) ≡ weight_unless (is_sent && is_now) (Some (if not is_local && not is_blocked && not was then w else 0))
sampled true is_blocked is_sent was is_now w other later = zero-still (is_sent && is_now)
sampled false true is_sent was is_now w other later = zero-still (is_sent && is_now)
sampled false false true was true w other later = refl
sampled false false true was false w other later = ap (λ b. Some (if not b then w else 0)) (sym (later refl))
sampled false false false was is_now w other later = ap (λ b. Some (if not b then w else 0)) (other refl)

module _ {K P : Type 0} (o : Orders K P) where
  full-other : (limit : Option ℕ) (id : ℕ) (r : Request K P) (asked : List (ℕ × Request K P)) (peer : P) → is_held asked id ≡ false → is_eq (o.peer r.peer peer) ≡ false
      → is_full (load_of o.peer limit (insert_entry nat_cmp asked id r)) peer ≡ is_full (load_of o.peer limit asked) peer
  full-other None id r asked peer free other = refl
  full-other (Some most) id r asked peer free other =
      ap (nat_le most) (requests-put o.peer id r asked free peer ∙ ap (λ b. more_if b (requests_to o.peer asked peer)) other)

  fewer-full : (most n m : ℕ) (b : Bool) → n ≡ more_if b m → nat_le most n ≡ false → nat_le most m ≡ false
  fewer-full most n m true e is = grind (arith, nat_tests, common_steps, e, is)
  fewer-full most n m false e is = ap (nat_le most) (sym e) ∙ is

  full-before : (limit : Option ℕ) (id : ℕ) (r : Request K P) (asked : List (ℕ × Request K P)) (peer : P) → is_held asked id ≡ false
      → is_full (load_of o.peer limit (insert_entry nat_cmp asked id r)) peer ≡ false → is_full (load_of o.peer limit asked) peer ≡ false
  full-before None id r asked peer free is = refl
  full-before (Some most) id r asked peer free is =
      fewer-full most (requests_to o.peer (insert_entry nat_cmp asked id r) peer) (requests_to o.peer asked peer) (is_eq (o.peer r.peer peer)) (requests-put o.peer id r asked free peer) is

  module _ (f : Fetcher K P) (peer : P) where
    -- what a fetcher leaves of the weight, where this peer is sent to or isn't
    abbrev Weighs : (is_sent : Bool) → Fetcher K P → Type 0
    Weighs is_sent g = weight o peer g ≡ weight_unless (is_sent && is_full (known o (snapshot o g)).load peer) (weight o peer f)

    -- no request is accepted
    unsent : (t : Turn K P) → t.sent ≡ None → weight o peer (turned o t f) ≡ weight o peer f
    unsent t none = ap (λ sent. weight o peer (with_sent o sent f)) none

    abbrev WeighsAfter : (is_sent : Bool) → Result (Turn K P) Fault → Type 0
    WeighsAfter is_sent r = Weighs is_sent (scan_taken o f r).1

    if-unsent : (b : Bool) (t : Turn K P) → t.sent ≡ None → WeighsAfter false (if b then Ok t else Err OutOfRange)
    if-unsent true t none = unsent t none
    if-unsent false t none = refl

    draws-unsent : (scan : Scan K P) (drawn : Option P) → WeighsAfter false (draws o (snapshot o f) scan drawn)
    draws-unsent scan None = refl
    draws-unsent scan (Some drawn) = refl

    goes-none : (scan : Scan K P) (w : Option (K × Waiting P)) → (goes_on_with o (snapshot o f) scan w).sent ≡ None
    goes-none scan None = refl
    goes-none scan (Some w) = refl

    clears-none : (scan : Scan K P) (to : P) (last : Option ℕ) → (clears o (snapshot o f) scan to last).sent ≡ None
    clears-none scan to None = refl
    clears-none scan to (Some last) = refl

    -- a request is accepted
    accepted : (scan : Scan K P) (w : K × Waiting P) (to : P) (id : ℕ) → is_held f.asked id ≡ false → Weighs (same_peer o to peer) (turned o (succeeds o (snapshot o f) scan w.0 to id) f)
    accepted scan w to id free = at (lookup (is_at (o.peer peer)) f.peers) where
      g : Fetcher K P
      g = turned o (succeeds o (snapshot o f) scan w.0 to id) f

      r : Request K P
      r = record { key = w.0; peer = to; start = scan.moment; deadline = scan.moment + f.configuration.fetch_timeout }

      at : (found : Option Averages) → option_map (λ averages. sampling_weight o.peer (known o (snapshot o g)) (peer, averages)) found
          ≡ weight_unless (same_peer o to peer && is_full (known o (snapshot o g)).load peer) (option_map (λ averages. sampling_weight o.peer (known o (snapshot o f)) (peer, averages)) found)
      at None = none (same_peer o to peer && is_full (known o (snapshot o g)).load peer) where
        none : (b : Bool) → None ≡ weight_unless b None
        none true = refl
        none false = refl
      at (Some averages) =
          sampled (is_local o.peer f.configuration.me peer) (is_one_of o.peer f.blocked peer) (same_peer o to peer)
          (is_full (known o (snapshot o f)).load peer) (is_full (known o (snapshot o g)).load peer) (weight_of averages)
          (full-other (option_map non_zero_u32_get f.configuration.peer_limit) id r f.asked peer free) (full-before (option_map non_zero_u32_get f.configuration.peer_limit) id r f.asked peer free)

    weighs-for : (scan : Scan K P) (w : K × Waiting P) (expected : Expected P) (answer : Answer) → AsksNewId o f (Some (scans.question_for o (snapshot o f) scan w expected))
        → WeighsAfter (is_sent_to o peer (Some (scans.question_for o (snapshot o f) scan w expected)) answer) (scans.answered o (snapshot o f) scan w expected answer)
    weighs-for scan w Mode (Drawn n) new = if-unsent (nat_lt n (w.1.retries + 4)) (asks_for o (snapshot o f) scan (mode_of n)) refl
    weighs-for scan w Mode (Checked check) new = refl
    weighs-for scan w Mode (Sent true) new = refl
    weighs-for scan w Mode (Sent false) new = refl
    weighs-for scan w ByWeight (Drawn n) new = draws-unsent scan (by_weight (left o (snapshot o f) scan.trail w) n)
    weighs-for scan w ByWeight (Checked check) new = refl
    weighs-for scan w ByWeight (Sent true) new = refl
    weighs-for scan w ByWeight (Sent false) new = refl
    weighs-for scan w ByPlace (Drawn n) new = draws-unsent scan (by_place (left o (snapshot o f) scan.trail w) n)
    weighs-for scan w ByPlace (Checked check) new = refl
    weighs-for scan w ByPlace (Sent true) new = refl
    weighs-for scan w ByPlace (Sent false) new = refl
    weighs-for scan w (Checking to) (Drawn n) new = refl
    weighs-for scan w (Checking to) (Checked Clear) new = unsent (clears o (snapshot o f) scan to f.last_id) (clears-none scan to f.last_id)
    weighs-for scan w (Checking to) (Checked (Until moment)) new =
        let more : Scan K P = record scan { trail = scan.trail ++ record { key = w.0; peer = to; reason = Limited moment } ∷ [] } in
        unsent (goes_on o (snapshot o f) more) (goes-none more (next o (snapshot o f) more))
    weighs-for scan w (Checking to) (Sent true) new = refl
    weighs-for scan w (Checking to) (Sent false) new = refl
    weighs-for scan w (FirstId to) (Drawn n) new = if-unsent (nat_lt n (2 ^ 64)) (sends o (snapshot o f) scan to n) refl
    weighs-for scan w (FirstId to) (Checked check) new = refl
    weighs-for scan w (FirstId to) (Sent true) new = refl
    weighs-for scan w (FirstId to) (Sent false) new = refl
    weighs-for scan w (Sending to id) (Drawn n) new = refl
    weighs-for scan w (Sending to id) (Checked check) new = refl
    weighs-for scan w (Sending to id) (Sent true) new = accepted scan w to id new
    weighs-for scan w (Sending to id) (Sent false) new =
        let more : Scan K P = record scan { trail = scan.trail ++ record { key = w.0; peer = to; reason = Refused } ∷ [] } in
        unsent (goes_on o (snapshot o f) more) (goes-none more (next o (snapshot o f) more))

    weighs-with : (scan : Scan K P) (w : Option (K × Waiting P)) (expected : Option (Expected P)) (answer : Answer) → AsksNewId o f (question_of o (snapshot o f) scan w expected)
        → WeighsAfter (is_sent_to o peer (question_of o (snapshot o f) scan w expected) answer) (takes_for o (snapshot o f) scan w expected answer)
    weighs-with scan None expected answer new = refl
    weighs-with scan (Some w) None answer new = refl
    weighs-with scan (Some w) (Some expected) answer new = weighs-for scan w expected answer new

    weighs-answered : (answer : Answer) (scan : Option (Scan K P)) → AsksNewId o f (asked_by o f scan)
        → Weighs (is_sent_to o peer (asked_by o f scan) answer) (answered o f answer scan).1
    weighs-answered answer None new = refl
    weighs-answered answer (Some scan) new = weighs-with scan (next o (snapshot o f) scan) scan.expects answer new

  pub keeps_weights : KeepsWeights o
  keeps_weights = record {
    begun = λ f peer now. unsent f peer (begins o (snapshot o f) now) (goes-none f peer (record { moment = now; trail = []; expects = None }) (next o (snapshot o f) (record { moment = now; trail = []; expects = None })));
    answered = λ f peer answer new. weighs-answered f peer answer f.scan new;
  }
