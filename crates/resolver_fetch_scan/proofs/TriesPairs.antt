-- A scan tries pairs of a due key and an eligible peer alone, and none twice.
use Rattle.std.proofs.Common.{◌≡◌, refl, subst, ℕ, Bool, true, false, not, ◌&&◌, List, [], ◌∷◌, ◌++◌, Option, Some, Result, Ok, Err}
use Rattle.resolver_base.specs.declared.fault.Fault.{Fault}
use Rattle.resolver_fetch_scan.specs.declared.scan.Answer.{Answer}
use Rattle.resolver_fetch_scan.specs.declared.trail.Reason.{Reason}
use Rattle.resolver_fetch_scan.specs.declared.trail.Try.{Try}
use Rattle.resolver_fetch_scan.specs.Orders.{Orders}
use Rattle.resolver_fetch_scan.specs.Waiting.{Waiting}
use Rattle.resolver_fetch_scan.specs.Snapshot.{Snapshot, eligible}
use Rattle.resolver_fetch_scan.specs.Scan.{Scan, Turn, begins, can_be_tried, left, next, takes, was_tried}
use Rattle.resolver_fetch_scan.specs.FetcherLaws.{AllAre, IsOnce, IsPair, TriesPairs, after_answers, unless_refused}
use Rattle.resolver_fetch_scan.proofs.OneOf.{IsOneOf, among-filter, found-among, found-passes}
use Rattle.resolver_fetch_scan.proofs.Trails.{IsFine, IsFineAfter, all-snoc, begins-fine, grows-once, takes-fine}

and-first : (a b : Bool) → (a && b) ≡ true → a ≡ true
and-first true b e = refl
and-first false b e = cc

module _ {K P : Type 0} (o : Orders K P) (s : Snapshot K P) where
  -- a peer that is left for the key that a scan tries makes a pair of a due key and an eligible peer
  pub left-pair : (scan : Scan K P) (w : K × Waiting P) → next o s scan ≡ Some w → (peer : P) (reason : Reason) → IsOneOf peer (left o s scan.trail w)
      → IsPair o s scan.moment (record { key = w.0; peer = peer; reason = reason })
  left-pair scan w is peer reason found = (
    w,
    found-among (can_be_tried o s scan) s.waiting w is,
    refl,
    and-first _ _ (found-passes (can_be_tried o s scan) s.waiting w is),
    (found.0, among-filter (λ p. not (was_tried o scan.trail w.0 p.0)) (peer, found.0) (eligible o s w.1.targets) found.1),
  )

module _ {K P : Type 0} (o : Orders K P) (s : Snapshot K P) (now : ℕ) where
  -- what a scan of this moment tried
  abbrev IsTrail : ℕ → List (Try K P) → Type 0
  IsTrail moment trail = (moment ≡ now) × IsOnce o trail × AllAre (IsPair o s now) trail

  -- the last id says nothing of this
  abbrev at_last : Option ℕ → Snapshot K P
  at_last last = record s { last_id = last }

  grows : (last : Option ℕ) (scan : Scan K P) (w : K × Waiting P) → next o (at_last last) scan ≡ Some w → (peer : P) (reason : Reason) → IsOneOf peer (left o (at_last last) scan.trail w)
      → IsTrail scan.moment scan.trail → IsTrail scan.moment (scan.trail ++ record { key = w.0; peer = peer; reason = reason } ∷ [])
  grows last scan w is peer reason found fine =
      let t : Try K P = record { key = w.0; peer = peer; reason = reason } in
      let pair : IsPair o s now t = subst (λ m. IsPair o s m t) fine.0 (left-pair o s scan w is peer reason found) in
      (fine.0, grows-once o s scan.trail w peer reason found fine.1, all-snoc (IsPair o s now) scan.trail t fine.2 pair)

  abbrev IsKept : Scan K P → Type 0
  IsKept scan = IsFine o s IsTrail scan

  unless-fine : (t : Turn K P) (r : Result (Turn K P) Fault) → IsKept t.scan → IsFineAfter o s IsTrail r → IsKept (unless_refused t r).scan
  unless-fine t (Ok next) fine after = after.0
  unless-fine t (Err fault) fine after = fine

  after-fine : (t : Turn K P) (answers : List Answer) → IsKept t.scan → IsKept (after_answers o s t answers).scan
  after-fine t [] fine = fine
  after-fine t (answer ∷ answers) fine =
      let r : Result (Turn K P) Fault = takes o (at_last t.last_id) t.scan answer in
      after-fine (unless_refused t r) answers (unless-fine t r fine (takes-fine o (at_last t.last_id) IsTrail (grows t.last_id) t.scan fine answer))

  tried : (answers : List Answer) → IsKept (after_answers o s (begins o s now) answers).scan
  tried answers = after-fine (begins o s now) answers (begins-fine o s IsTrail (grows s.last_id) now (refl, tt, tt)).0

module _ {K P : Type 0} (o : Orders K P) where
  pub tries_pairs : TriesPairs o
  tries_pairs = record {
    eligible_alone = λ s now answers. (tried o s now answers).0.2;
    none_twice = λ s now answers. (tried o s now answers).0.1;
  }
