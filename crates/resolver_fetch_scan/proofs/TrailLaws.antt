-- The calls of a scan: what it tries, how it ends in vain, and what they leave as it was.
use Rattle.std.proofs.Common.{◌≡◌, refl, ap, ◌∙◌, subst, inl, inr, ℕ, ◌+◌, ◌<◌, ◌^◌, Bool, true, false, ◌&&◌, List, [], ◌∷◌, ◌++◌, Option, None, Some, Result, Ok, Err, if◌then◌else◌}
use Rattle.std.specs.Prelude.{IfSome, nat_lt, option_and_then, ⊤}
use Rattle.resolver_base.specs.declared.check.Check.TheVariants.{Clear, Until}
use Rattle.resolver_base.specs.declared.fault.Fault.{Fault}
use Rattle.resolver_base.specs.declared.fault.Fault.TheVariants.{OutOfRange, Unasked}
use Rattle.resolver_sampling.specs.Times.{never}
use Rattle.resolver_fetch_requests.specs.Loads.{is_full}
use Rattle.resolver_fetch_requests.specs.declared.requests.request.Request.{Request}
use Rattle.resolver_fetch_scan.specs.declared.scan.Answer.{Answer}
use Rattle.resolver_fetch_scan.specs.declared.scan.Answer.TheVariants.{Drawn, Checked, Sent}
use Rattle.resolver_fetch_scan.specs.declared.trail.Expected.{Expected}
use Rattle.resolver_fetch_scan.specs.declared.trail.Expected.TheVariants.{Mode, ByWeight, ByPlace, Checking, FirstId, Sending}
use Rattle.resolver_fetch_scan.specs.declared.trail.Reason.{Reason}
use Rattle.resolver_fetch_scan.specs.declared.trail.Reason.TheVariants.{Limited, Refused}
use Rattle.resolver_fetch_scan.specs.declared.trail.Try.{Try}
use Rattle.resolver_fetch_scan.specs.Orders.{Orders}
use Rattle.resolver_fetch_scan.specs.Waiting.{Waiting}
use Rattle.resolver_fetch_scan.specs.Snapshot.{Snapshot, known}
use Rattle.resolver_fetch_scan.specs.Scan.{Scan, Turn, answered, begins, by_place, by_weight, clears, draws, goes_on_with, is_over, left, next, sends, takes, takes_for}
use Rattle.resolver_fetch_scan.specs.Fetcher.{Fetcher, answered as answered_with, pending_deadline, question, scan_begin, scan_taken, snapshot, turned, weight}
use Rattle.resolver_fetch_scan.specs.FetcherLaws.{HasTriedAll, IsInVain, IsLaterIfAny, is_sent_to, weight_unless}
use Rattle.resolver_fetch_scan.specs.TrailLaws.{BeginsRightly, EndsInVain, IsLeft, IsTrail, ScansRightly, TrailLaw, TriesRightly, awaited, is_accepted, scan_in}
use Rattle.resolver_fetch_scan.proofs.OneOf.{IsOneOf}
use Rattle.resolver_fetch_scan.proofs.Trails.{IsFine, IsFineAfter, IsFineTurn, IsSoundAt, all-snoc, begins-fine, grows-once, takes-fine}
use Rattle.resolver_fetch_scan.proofs.TriesAll.{tries_all}
use Rattle.resolver_fetch_scan.proofs.TriesPairs.{left-pair}
use Rattle.resolver_fetch_scan.proofs.WakesLater.{wakes_later}
use Rattle.resolver_fetch_scan.proofs.Weights.{keeps_weights}

module _ {K P : Type 0} (o : Orders K P) (s : Snapshot K P) where
  -- what is kept of a scan
  abbrev Keeps : ℕ → List (Try K P) → Type 0
  Keeps moment trail = (moment < never) × IsTrail o s moment trail

  grows : (scan : Scan K P) (w : K × Waiting P) → next o s scan ≡ Some w → (peer : P) (reason : Reason) → IsOneOf peer (left o s scan.trail w)
      → Keeps scan.moment scan.trail → Keeps scan.moment (scan.trail ++ record { key = w.0; peer = peer; reason = reason } ∷ [])
  grows scan w is peer reason found kept = (
    kept.0,
    record {
      pairs = all-snoc _ scan.trail (record { key = w.0; peer = peer; reason = reason }) kept.1.pairs (left-pair o s scan w is peer reason found);
      once = grows-once o s scan.trail w peer reason found kept.1.once;
    },
  )

  sound : (scan : Scan K P) (expects : Option (Expected P)) → IfSome (awaited expects) (IsLeft o s scan) → IsSoundAt o s scan expects
  sound scan None here = tt
  sound scan (Some Mode) here = tt
  sound scan (Some ByWeight) here = tt
  sound scan (Some ByPlace) here = tt
  sound scan (Some (Checking peer)) here = here
  sound scan (Some (FirstId peer)) here = here
  sound scan (Some (Sending peer id)) here = here

  left-of : (scan : Scan K P) (expects : Option (Expected P)) → IsSoundAt o s scan expects → IfSome (awaited expects) (IsLeft o s scan)
  left-of scan None here = tt
  left-of scan (Some Mode) here = tt
  left-of scan (Some ByWeight) here = tt
  left-of scan (Some ByPlace) here = tt
  left-of scan (Some (Checking peer)) here = here
  left-of scan (Some (FirstId peer)) here = here
  left-of scan (Some (Sending peer id)) here = here

  fine : (scan : Scan K P) → TriesRightly o s scan → IsFine o s Keeps scan
  fine scan right = ((right.fits, right.tried), sound scan scan.expects right.left_still)

  -- Only an accepted request is sent.
  abbrev IsUnsent : Result (Turn K P) Fault → Type 0
  IsUnsent (Ok t) = t.sent ≡ None
  IsUnsent (Err fault) = ⊤

  goes-unsent : (scan : Scan K P) (w : Option (K × Waiting P)) → (goes_on_with o s scan w).sent ≡ None
  goes-unsent scan None = refl
  goes-unsent scan (Some w) = refl

  clears-unsent : (scan : Scan K P) (peer : P) (last : Option ℕ) → (clears o s scan peer last).sent ≡ None
  clears-unsent scan peer None = refl
  clears-unsent scan peer (Some last) = refl

  draws-unsent : (scan : Scan K P) (peer : Option P) → IsUnsent (draws o s scan peer)
  draws-unsent scan None = tt
  draws-unsent scan (Some peer) = refl

  if-unsent : (b : Bool) (t : Turn K P) → t.sent ≡ None → IsUnsent (if b then Ok t else Err OutOfRange)
  if-unsent true t unsent = unsent
  if-unsent false t unsent = tt

  answered-unsent : (scan : Scan K P) (w : K × Waiting P) (expected : Expected P) (answer : Answer) → is_accepted answer ≡ false → IsUnsent (answered o s scan w expected answer)
  answered-unsent scan w Mode (Drawn n) other = if-unsent (nat_lt n (w.1.retries + 4)) _ refl
  answered-unsent scan w Mode (Checked check) other = tt
  answered-unsent scan w Mode (Sent accepted) other = tt
  answered-unsent scan w ByWeight (Drawn n) other = draws-unsent scan (by_weight (left o s scan.trail w) n)
  answered-unsent scan w ByWeight (Checked check) other = tt
  answered-unsent scan w ByWeight (Sent accepted) other = tt
  answered-unsent scan w ByPlace (Drawn n) other = draws-unsent scan (by_place (left o s scan.trail w) n)
  answered-unsent scan w ByPlace (Checked check) other = tt
  answered-unsent scan w ByPlace (Sent accepted) other = tt
  answered-unsent scan w (Checking peer) (Drawn n) other = tt
  answered-unsent scan w (Checking peer) (Checked Clear) other = clears-unsent scan peer s.last_id
  answered-unsent scan w (Checking peer) (Checked (Until moment)) other =
      let more : Scan K P = record scan { trail = scan.trail ++ record { key = w.0; peer = peer; reason = Limited moment } ∷ [] } in
      goes-unsent more (next o s more)
  answered-unsent scan w (Checking peer) (Sent accepted) other = tt
  answered-unsent scan w (FirstId peer) (Drawn n) other = if-unsent (nat_lt n (2 ^ 64)) (sends o s scan peer n) refl
  answered-unsent scan w (FirstId peer) (Checked check) other = tt
  answered-unsent scan w (FirstId peer) (Sent accepted) other = tt
  answered-unsent scan w (Sending peer id) (Drawn n) other = tt
  answered-unsent scan w (Sending peer id) (Checked check) other = tt
  answered-unsent scan w (Sending peer id) (Sent true) other = cc
  answered-unsent scan w (Sending peer id) (Sent false) other =
      let more : Scan K P = record scan { trail = scan.trail ++ record { key = w.0; peer = peer; reason = Refused } ∷ [] } in
      goes-unsent more (next o s more)

  unsent-for : (scan : Scan K P) (w : Option (K × Waiting P)) (expects : Option (Expected P)) (answer : Answer) → is_accepted answer ≡ false
      → IsUnsent (takes_for o s scan w expects answer)
  unsent-for scan None expects answer other = tt
  unsent-for scan (Some w) None answer other = tt
  unsent-for scan (Some w) (Some expected) answer other = answered-unsent scan w expected answer other

  -- another answer sends nothing
  pub takes-unsent : (scan : Scan K P) (answer : Answer) (t : Turn K P) → takes o s scan answer ≡ Ok t → is_accepted answer ≡ false → t.sent ≡ None
  takes-unsent scan answer t is other = subst IsUnsent is (unsent-for scan (next o s scan) scan.expects answer other)

module _ {K P : Type 0} (o : Orders K P) (f : Fetcher K P) where
  abbrev read : Snapshot K P
  read = snapshot o f

  right-for : (moment : ℕ) (trail : List (Try K P)) (expects : Option (Expected P)) (last waiter : Option ℕ) (sent : Option (ℕ × Request K P))
      → let t : Turn K P = record { scan = record { moment = moment; trail = trail; expects = expects }; last_id = last; waiter = waiter; sent = sent } in
      IsFineTurn o read (Keeps o read) t → ScansRightly o (turned o t f)
  right-for moment trail None last waiter sent kept = tt
  right-for moment trail (Some expected) last waiter None kept = record {
    fits = kept.0.0.0;
    tried = record { pairs = kept.0.0.1.pairs; once = kept.0.0.1.once };
    left_still = left-of o read (record { moment = moment; trail = trail; expects = Some expected }) (Some expected) kept.0.1;
  }
  right-for moment trail (Some expected) last waiter (Some r) (kept, inl e) = cc
  right-for moment trail (Some expected) last waiter (Some r) (kept, inr e) = cc

  -- a fetcher after a turn
  turned-right : (t : Turn K P) → IsFineTurn o read (Keeps o read) t → ScansRightly o (turned o t f)
  turned-right t kept = right-for t.scan.moment t.scan.trail t.scan.expects t.last_id t.waiter t.sent kept

  over-if : {X : Type 0} (b : Bool) (x : X) → (if b then None else Some x) ≡ None → b ≡ true
  over-if true x e = refl
  over-if false x e = cc

  module _ (now : ℕ) (fits : now < never) where
    abbrev opened : Scan K P
    opened = record { moment = now; trail = []; expects = None }

    begun-vain : (w : Option (K × Waiting P)) → (turned o (goes_on_with o read opened w) f).scan ≡ None
        → IsInVain o (goes_on_with o read opened w) × (HasTriedAll o read (goes_on_with o read opened w).scan → HasTriedAll o read opened)
    begun-vain None over = ((refl, refl), λ all. all)
    begun-vain (Some w) over = cc

    pub begins-rightly : BeginsRightly o now f (scan_begin o now f)
    begins-rightly = record {
      rightly = turned-right (begins o read now) (begins-fine o read (Keeps o read) (grows o read) now (fits, record { pairs = tt; once = tt }));
      in_vain = λ over.
          let vain = begun-vain (next o read opened) over in record {
            exactly = record { all = vain.1 ((tries_all o).at_once read now vain.0); alone = record { pairs = tt; once = tt } };
            later = λ waits limits. (wakes_later o).at_once f now waits fits vain.0;
          };
      weights = λ peer. (keeps_weights o).begun f peer now;
    }

  module _ (answer : Answer) (g : Fetcher K P) where
    clash : {X : Type 0} (fault : Fault) → scan_taken o f (Err fault) ≡ (Ok tt, g) → X
    clash fault e = let not_ok : Err fault ≡ Ok tt = ap (λ x. x.0) e in cc

    right-taken : (r : Result (Turn K P) Fault) → IsFineAfter o read (Keeps o read) r → scan_taken o f r ≡ (Ok tt, g) → ScansRightly o g
    right-taken (Ok t) kept e = subst (ScansRightly o) (ap (λ x. x.1) e) (turned-right t kept)
    right-taken (Err fault) kept e = clash fault e

    right-with : (open_scan : Option (Scan K P)) → IfSome open_scan (TriesRightly o read) → answered_with o f answer open_scan ≡ (Ok tt, g) → ScansRightly o g
    right-with None right e = clash Unasked e
    right-with (Some scan) right e = right-taken (takes o read scan answer) (takes-fine o read (Keeps o read) (grows o read) scan (fine o read scan right) answer) e

    -- how a scan ends in vain by the answer
    abbrev Vain : Option (Scan K P) → Type 0
    Vain found = (scan : Scan K P) × (found ≡ Some scan) × EndsInVain o f scan g

    module _ (over : g.scan ≡ None) (other : is_accepted answer ≡ false) where
      vain-taken : (scan : Scan K P) (r : Result (Turn K P) Fault) → takes o read scan answer ≡ r → IsFineAfter o read (Keeps o read) r → scan_taken o f r ≡ (Ok tt, g) → Vain (scan_in r)
      vain-taken scan (Ok t) is kept e =
          let it : turned o t f ≡ g = ap (λ x. x.1) e in
          let shut : is_over t.scan ≡ true = over-if (is_over t.scan) t.scan (ap (λ (x : Fetcher K P). x.scan) it ∙ over) in
          let vain : IsInVain o t = (shut, takes-unsent o read scan answer t is other) in (
            t.scan,
            refl,
            record {
              exactly = record { all = (tries_all o).later read scan answer t is vain; alone = kept.0.0.1 };
              later = λ waits limits. subst (λ (x : Fetcher K P). IsLaterIfAny t.scan.moment (pending_deadline x)) it
                  ((wakes_later o).later f scan answer t is waits kept.0.0.0 limits vain);
            },
          )
      vain-taken scan (Err fault) is kept e = clash fault e

      vain-with : (open_scan : Option (Scan K P)) → IfSome open_scan (TriesRightly o read) → answered_with o f answer open_scan ≡ (Ok tt, g)
          → Vain (option_and_then (λ scan. scan_in (takes o read scan answer)) open_scan)
      vain-with None right e = clash Unasked e
      vain-with (Some scan) right e =
          vain-taken scan (takes o read scan answer) refl (takes-fine o read (Keeps o read) (grows o read) scan (fine o read scan right) answer) e

module _ {K P : Type 0} (o : Orders K P) where
  -- what a peer weighs after an answer
  abbrev Weighs : (f : Fetcher K P) → Answer → P → Fetcher K P → Type 0
  Weighs f answer peer after =
      weight o peer after ≡ weight_unless (is_sent_to o peer (question o f) answer && is_full (known o (snapshot o after)).load peer) (weight o peer f)

  pub trail_law : TrailLaw o
  trail_law = record {
    begun = λ f now fits. begins-rightly o f now fits;
    answered = λ f g answer new is. record {
      rightly = λ right. right-with o f answer g f.scan right is;
      in_vain = λ right over other. vain-with o f answer g over other f.scan right is;
      weights = λ peer. subst (Weighs f answer peer) (ap (λ x. x.1) is) ((keeps_weights o).answered f peer answer new);
    };
  }
