-- What an answer makes of a scan: the trail grows by peers that were left alone, and a word is expected on no other peer.
use Rattle.std.proofs.Common.{◌≡◌, refl, subst, ◌⊎◌, inl, inr, ℕ, ◌+◌, ◌^◌, Bool, true, false, not, ◌&&◌, ◌||◌, List, [], ◌∷◌, ◌++◌, Option, None, Some, Result, Ok, Err, if◌then◌else◌}
use Rattle.std.proofs.lemmas.Bool.{not-true}
use Rattle.std.specs.Prelude.{nat_lt, ⊤}
use Rattle.resolver_base.specs.declared.check.Check.TheVariants.{Clear, Until}
use Rattle.resolver_base.specs.declared.fault.Fault.{Fault}
use Rattle.resolver_base.specs.declared.fault.Fault.TheVariants.{OutOfRange}
use Rattle.resolver_fetch_scan.specs.declared.scan.Answer.{Answer}
use Rattle.resolver_fetch_scan.specs.declared.scan.Answer.TheVariants.{Drawn, Checked, Sent}
use Rattle.resolver_fetch_scan.specs.declared.trail.Expected.{Expected}
use Rattle.resolver_fetch_scan.specs.declared.trail.Expected.TheVariants.{Mode, ByWeight, ByPlace, Checking, FirstId, Sending}
use Rattle.resolver_fetch_scan.specs.declared.trail.Reason.{Reason}
use Rattle.resolver_fetch_scan.specs.declared.trail.Reason.TheVariants.{Limited, Refused}
use Rattle.resolver_fetch_scan.specs.declared.trail.Try.{Try}
use Rattle.resolver_fetch_scan.specs.Orders.{Orders, same_key, same_peer}
use Rattle.resolver_fetch_scan.specs.Waiting.{Waiting}
use Rattle.resolver_fetch_scan.specs.Snapshot.{Snapshot, eligible}
use Rattle.resolver_fetch_scan.specs.Scan.{Scan, Turn, answered, asks_for, begins, by_place, by_weight, clears, draws, fails, goes_on_with, left, next, sends, takes, takes_for, was_tried}
use Rattle.resolver_fetch_scan.specs.FetcherLaws.{AllAre, IsOnce}
use Rattle.resolver_fetch_scan.specs.TrailLaws.{IsLeft}
use Rattle.resolver_fetch_scan.proofs.OneOf.{IsOneOf, by_place-among, by_weight-among, tested}

or-left : (a b : Bool) → (a || b) ≡ false → (a || false) ≡ false
or-left true b e = cc
or-left false b e = refl

or-right : (a b : Bool) → (a || b) ≡ false → b ≡ false
or-right true b e = cc
or-right false b e = e

module _ {X : Type 0} where
  pub all-snoc : (Q : X → Type 0) (xs : List X) (x : X) → AllAre Q xs → Q x → AllAre Q (xs ++ x ∷ [])
  all-snoc Q [] x i q = (q, tt)
  all-snoc Q (y ∷ xs) x i q = (i.0, all-snoc Q xs x i.1 q)

module _ {K P : Type 0} (o : Orders K P) where
  once-more : (trail : List (Try K P)) (t : Try K P) → IsOnce o trail → was_tried o trail t.key t.peer ≡ false → IsOnce o (trail ++ t ∷ [])
  once-more [] t once new = (tt, tt)
  once-more (u ∷ trail) t once new =
      let same : Bool = same_key o t.key u.key && same_peer o t.peer u.peer in (
        all-snoc (λ later. was_tried o (u ∷ []) later.key later.peer ≡ false) trail t once.0 (or-left same (was_tried o trail t.key t.peer) new),
        once-more trail t once.1 (or-right same (was_tried o trail t.key t.peer) new),
      )

module _ {K P : Type 0} (o : Orders K P) (s : Snapshot K P) where
  -- a trail without repeats stays so
  pub grows-once : (trail : List (Try K P)) (w : K × Waiting P) (peer : P) (reason : Reason) → IsOneOf peer (left o s trail w)
      → IsOnce o trail → IsOnce o (trail ++ record { key = w.0; peer = peer; reason = reason } ∷ [])
  grows-once trail w peer reason found once =
      let test : P × _ → Bool = λ p. not (was_tried o trail w.0 p.0) in
      once-more o trail (record { key = w.0; peer = peer; reason = reason }) once
      (not-true (was_tried o trail w.0 peer) (tested test (peer, found.0) (eligible o s w.1.targets) found.1))

  abbrev pub IsSoundFor : Scan K P → Expected P → Type 0
  IsSoundFor scan (Checking peer) = IsLeft o s scan peer
  IsSoundFor scan (FirstId peer) = IsLeft o s scan peer
  IsSoundFor scan (Sending peer id) = IsLeft o s scan peer
  IsSoundFor scan expected = ⊤

  -- a word is expected only on a peer that is left
  abbrev pub IsSoundAt : Scan K P → Option (Expected P) → Type 0
  IsSoundAt scan None = ⊤
  IsSoundAt scan (Some expected) = IsSoundFor scan expected

-- What is kept of a scan's moment and its trail.
module _ {K P : Type 0} (o : Orders K P) (s : Snapshot K P) (Keeps : ℕ → List (Try K P) → Type 0) where
  abbrev pub IsFine : Scan K P → Type 0
  IsFine scan = Keeps scan.moment scan.trail × IsSoundAt o s scan scan.expects

  -- a request is on its way only where the scan is over
  abbrev pub IsFineTurn : Turn K P → Type 0
  IsFineTurn t = IsFine t.scan × ((t.sent ≡ None) ⊎ (t.scan.expects ≡ None))

  abbrev pub IsFineAfter : Result (Turn K P) Fault → Type 0
  IsFineAfter (Ok t) = IsFineTurn t
  IsFineAfter (Err fault) = ⊤

-- It is kept as the trail grows by a peer that is left.
module _ {K P : Type 0} (o : Orders K P) (s : Snapshot K P) (Keeps : ℕ → List (Try K P) → Type 0)
    (grows : (scan : Scan K P) (w : K × Waiting P) → next o s scan ≡ Some w → (peer : P) (reason : Reason) → IsOneOf peer (left o s scan.trail w)
    → Keeps scan.moment scan.trail → Keeps scan.moment (scan.trail ++ record { key = w.0; peer = peer; reason = reason } ∷ [])) where
  goes-fine : (scan : Scan K P) → Keeps scan.moment scan.trail → (w : Option (K × Waiting P)) → IsFineTurn o s Keeps (goes_on_with o s scan w)
  goes-fine scan fine None = ((fine, tt), inl refl)
  goes-fine scan fine (Some w) = ((fine, tt), inl refl)

  module _ (scan : Scan K P) (fine : Keeps scan.moment scan.trail) (w : K × Waiting P) (is : next o s scan ≡ Some w) where
    fails-fine : (peer : P) (reason : Reason) → IsLeft o s scan peer → IsFineTurn o s Keeps (fails o s scan w.0 peer reason)
    fails-fine peer reason here =
        let more : Scan K P = record scan { trail = scan.trail ++ record { key = w.0; peer = peer; reason = reason } ∷ [] } in
        goes-fine more (grows scan w is peer reason (here w is) fine) (next o s more)

    draws-fine : (peer : Option P) → ((p : P) → peer ≡ Some p → IsOneOf p (left o s scan.trail w)) → IsFineAfter o s Keeps (draws o s scan peer)
    draws-fine None found = tt
    draws-fine (Some p) found =
        ((fine, λ v same. let e : w ≡ v = cc in subst (λ (x : K × Waiting P). IsOneOf p (left o s scan.trail x)) e (found p refl)), inl refl)

    mode-fine : (b c : Bool) → IsFineAfter o s Keeps (if b then Ok (asks_for o s scan (if c then ByWeight else ByPlace)) else Err OutOfRange)
    mode-fine true true = ((fine, tt), inl refl)
    mode-fine true false = ((fine, tt), inl refl)
    mode-fine false c = tt

    first-fine : (peer : P) (b : Bool) (id : ℕ) → IsLeft o s scan peer → IsFineAfter o s Keeps (if b then Ok (sends o s scan peer id) else Err OutOfRange)
    first-fine peer true id here = ((fine, here), inl refl)
    first-fine peer false id here = tt

    clears-fine : (peer : P) (last : Option ℕ) → IsLeft o s scan peer → IsFineTurn o s Keeps (clears o s scan peer last)
    clears-fine peer None here = ((fine, here), inl refl)
    clears-fine peer (Some last) here = ((fine, here), inl refl)

    answered-fine : (expected : Expected P) → IsSoundFor o s scan expected → (answer : Answer) → IsFineAfter o s Keeps (answered o s scan w expected answer)
    answered-fine Mode here (Drawn n) = mode-fine (nat_lt n (w.1.retries + 4)) (nat_lt n 4)
    answered-fine Mode here (Checked check) = tt
    answered-fine Mode here (Sent accepted) = tt
    answered-fine ByWeight here (Drawn n) = draws-fine (by_weight (left o s scan.trail w) n) (by_weight-among (left o s scan.trail w) n)
    answered-fine ByWeight here (Checked check) = tt
    answered-fine ByWeight here (Sent accepted) = tt
    answered-fine ByPlace here (Drawn n) = draws-fine (by_place (left o s scan.trail w) n) (by_place-among (left o s scan.trail w) n)
    answered-fine ByPlace here (Checked check) = tt
    answered-fine ByPlace here (Sent accepted) = tt
    answered-fine (Checking peer) here (Drawn n) = tt
    answered-fine (Checking peer) here (Checked Clear) = clears-fine peer s.last_id here
    answered-fine (Checking peer) here (Checked (Until moment)) = fails-fine peer (Limited moment) here
    answered-fine (Checking peer) here (Sent accepted) = tt
    answered-fine (FirstId peer) here (Drawn n) = first-fine peer (nat_lt n (2 ^ 64)) n here
    answered-fine (FirstId peer) here (Checked check) = tt
    answered-fine (FirstId peer) here (Sent accepted) = tt
    answered-fine (Sending peer id) here (Drawn n) = tt
    answered-fine (Sending peer id) here (Checked check) = tt
    answered-fine (Sending peer id) here (Sent true) = ((fine, tt), inr refl)
    answered-fine (Sending peer id) here (Sent false) = fails-fine peer Refused here

  for-fine : (scan : Scan K P) → Keeps scan.moment scan.trail → (w : Option (K × Waiting P)) → next o s scan ≡ w
      → (expected : Option (Expected P)) → IsSoundAt o s scan expected → (answer : Answer) → IsFineAfter o s Keeps (takes_for o s scan w expected answer)
  for-fine scan fine None is expected here answer = tt
  for-fine scan fine (Some w) is None here answer = tt
  for-fine scan fine (Some w) is (Some expected) here answer = answered-fine scan fine w is expected here answer

  pub takes-fine : (scan : Scan K P) → IsFine o s Keeps scan → (answer : Answer) → IsFineAfter o s Keeps (takes o s scan answer)
  takes-fine scan fine answer = for-fine scan fine.0 (next o s scan) refl scan.expects fine.1 answer

  pub begins-fine : (now : ℕ) → Keeps now [] → IsFineTurn o s Keeps (begins o s now)
  begins-fine now none =
      let scan : Scan K P = record { moment = now; trail = []; expects = None } in
      goes-fine scan none (next o s scan)
