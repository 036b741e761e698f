-- How a scan ends in vain: no key has a peer left to try.
use Rattle.std.proofs.Common.{◌≡◌, refl, subst, ℕ, ◌+◌, ◌^◌, Bool, true, false, [], ◌∷◌, ◌++◌, Option, None, Some, Result, Ok, Err, if◌then◌else◌}
use Rattle.std.specs.Prelude.{nat_lt, ⊤}
use Rattle.resolver_base.specs.declared.check.Check.TheVariants.{Clear, Until}
use Rattle.resolver_base.specs.declared.fault.Fault.{Fault}
use Rattle.resolver_base.specs.declared.fault.Fault.TheVariants.{OutOfRange}
use Rattle.resolver_fetch_scan.specs.declared.scan.Answer.{Answer}
use Rattle.resolver_fetch_scan.specs.declared.scan.Answer.TheVariants.{Drawn, Checked, Sent}
use Rattle.resolver_fetch_scan.specs.declared.trail.Expected.{Expected}
use Rattle.resolver_fetch_scan.specs.declared.trail.Expected.TheVariants.{Mode, ByWeight, ByPlace, Checking, FirstId, Sending}
use Rattle.resolver_fetch_scan.specs.declared.trail.Reason.TheVariants.{Limited, Refused}
use Rattle.resolver_fetch_scan.specs.Orders.{Orders}
use Rattle.resolver_fetch_scan.specs.Waiting.{Waiting}
use Rattle.resolver_fetch_scan.specs.Snapshot.{Snapshot}
use Rattle.resolver_fetch_scan.specs.Scan.{Scan, Turn, mode_of, by_weight, by_place, next, left, takes, takes_for, draws, ends, goes_on_with, goes_on, clears, sends, asks_for, answered}
use Rattle.resolver_fetch_scan.specs.FetcherLaws.{IsInVain}

-- what is so of each end without a key to try is so of each end in vain
module _ {K P : Type 0} (o : Orders K P) (s : Snapshot K P) (Q : Turn K P → Type 0) (at_end : (scan : Scan K P) → next o s scan ≡ None → Q (ends o s scan)) where
  goes-on-with : (scan : Scan K P) (w : Option (K × Waiting P)) → next o s scan ≡ w → IsInVain o (goes_on_with o s scan w) → Q (goes_on_with o s scan w)
  goes-on-with scan None is vain = at_end scan is
  goes-on-with scan (Some w) is vain = cc

  pub goes-on : (scan : Scan K P) → IsInVain o (goes_on o s scan) → Q (goes_on o s scan)
  goes-on scan vain = goes-on-with scan (next o s scan) refl vain

  -- of an answer
  abbrev After : Result (Turn K P) Fault → Type 0
  After (Ok t) = IsInVain o t → Q t
  After (Err fault) = ⊤

  after-draws : (scan : Scan K P) (peer : Option P) → After (draws o s scan peer)
  after-draws scan None = tt
  after-draws scan (Some peer) = λ vain. cc

  after-if : (b : Bool) (t : Turn K P) → (IsInVain o t → Q t) → After (if b then Ok t else Err OutOfRange)
  after-if true t h = h
  after-if false t h = tt

  after-clears : (scan : Scan K P) (peer : P) (last : Option ℕ) → IsInVain o (clears o s scan peer last) → Q (clears o s scan peer last)
  after-clears scan peer None = λ vain. cc
  after-clears scan peer (Some last) = λ vain. cc

  after-answer : (scan : Scan K P) (w : K × Waiting P) (expected : Expected P) (answer : Answer) → After (answered o s scan w expected answer)
  after-answer scan w Mode (Drawn n) = after-if (nat_lt n (w.1.retries + 4)) (asks_for o s scan (mode_of n)) (λ vain. cc)
  after-answer scan w Mode (Checked check) = tt
  after-answer scan w Mode (Sent accepted) = tt
  after-answer scan w ByWeight (Drawn n) = after-draws scan (by_weight (left o s scan.trail w) n)
  after-answer scan w ByWeight (Checked check) = tt
  after-answer scan w ByWeight (Sent accepted) = tt
  after-answer scan w ByPlace (Drawn n) = after-draws scan (by_place (left o s scan.trail w) n)
  after-answer scan w ByPlace (Checked check) = tt
  after-answer scan w ByPlace (Sent accepted) = tt
  after-answer scan w (Checking peer) (Drawn n) = tt
  after-answer scan w (Checking peer) (Checked Clear) = after-clears scan peer s.last_id
  after-answer scan w (Checking peer) (Checked (Until moment)) = goes-on (record scan { trail = scan.trail ++ record { key = w.0; peer = peer; reason = Limited moment } ∷ [] })
  after-answer scan w (Checking peer) (Sent accepted) = tt
  after-answer scan w (FirstId peer) (Drawn n) = after-if (nat_lt n (2 ^ 64)) (sends o s scan peer n) (λ vain. cc)
  after-answer scan w (FirstId peer) (Checked check) = tt
  after-answer scan w (FirstId peer) (Sent accepted) = tt
  after-answer scan w (Sending peer id) (Drawn n) = tt
  after-answer scan w (Sending peer id) (Checked check) = tt
  after-answer scan w (Sending peer id) (Sent true) = λ vain. cc
  after-answer scan w (Sending peer id) (Sent false) = goes-on (record scan { trail = scan.trail ++ record { key = w.0; peer = peer; reason = Refused } ∷ [] })

  after-takes : (scan : Scan K P) (w : Option (K × Waiting P)) (expected : Option (Expected P)) (answer : Answer) → After (takes_for o s scan w expected answer)
  after-takes scan None expected answer = tt
  after-takes scan (Some w) None answer = tt
  after-takes scan (Some w) (Some expected) answer = after-answer scan w expected answer

  pub takes-in-vain : (scan : Scan K P) (answer : Answer) (t : Turn K P) → takes o s scan answer ≡ Ok t → IsInVain o t → Q t
  takes-in-vain scan answer t e = subst After e (after-takes scan (next o s scan) scan.expects answer)
