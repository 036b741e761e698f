-- How many peers may be asked at all.
use Rattle.std.proofs.Common.{◌≡◌, refl, ap, ◌∙◌, ℕ, Bool, true, false, not, ◌&&◌, List, [], ◌∷◌, length, filter, None, option_map, arith}
use Rattle.std.proofs.lemmas.Grind.{common_steps}
use Rattle.std.specs.Prelude.{find, nat_lt}
use Rattle.std.specs.Map.{set_value}
use Rattle.resolver_sampling.specs.declared.score.Averages.{Averages}
use Rattle.resolver_fetch_scan.specs.declared.trail.Try.{Try}
use Rattle.resolver_fetch_scan.specs.Fetcher.{Fetcher, snapshot}
use Rattle.resolver_fetch_scan.specs.Known.{askable, is_target, may_be_asked}
use Rattle.resolver_fetch_scan.specs.Orders.{Orders}
use Rattle.resolver_fetch_scan.specs.Scan.{can_be_tried, is_due, left, was_tried}
use Rattle.resolver_fetch.specs.Seeking.{scan_at, tried_next}
use Rattle.resolver_fetch_scan.specs.Snapshot.{known}
use Rattle.resolver_fetch_scan.specs.Trying.{trying_for}
use Rattle.resolver_fetch_scan.specs.Waiting.{Waiting}

module _ {X : Type 0} (test more : X → Bool) where
  -- where none passes, none passes a further test
  none-pass : (xs : List X) → length (filter test xs) ≡ 0 → filter (λ x. test x && more x) xs ≡ []
  none-pass [] none = refl
  none-pass (x ∷ xs) none = let rest = none-pass xs in grind (arith, common_steps, rest, none)

module _ {X : Type 0} (test : X → Bool) (fails : (x : X) → test x ≡ false) where
  -- what passes nothing finds nothing
  finds-none : (xs : List X) → find test xs ≡ None
  finds-none [] = refl
  finds-none (x ∷ xs) = rw (fails x) (finds-none xs)

module _ {P : Type 0} where
  -- what a peer is like changes nothing in who is counted
  pub counts-same : (keep at : P → Bool) (set : List (P × Averages)) (v : Averages)
      → length (filter (λ p. keep p.0) (set_value at set v)) ≡ length (filter (λ p. keep p.0) set)
  counts-same keep at [] v = refl
  counts-same keep at (p ∷ set) v = let rest = counts-same keep at set v in grind (arith, common_steps, rest)

module _ {K P : Type 0} (o : Orders K P) (f : Fetcher K P) (none : askable o.peer (known o (snapshot o f)) ≡ 0) where
  none-left : (trail : List (Try K P)) (w : K × Waiting P) → left o (snapshot o f) trail w ≡ []
  none-left trail w =
      ap (filter (λ p. not (was_tried o trail w.0 p.0)))
      (none-pass (λ p. may_be_asked o.peer (known o (snapshot o f)) p.0) (λ p. is_target o.peer w.1.targets p.0) f.peers none)

  and-false : (b : Bool) → (b && false) ≡ false
  and-false true = refl
  and-false false = refl

  never-tried : (moment : ℕ) (trail : List (Try K P)) (w : K × Waiting P) → can_be_tried o (snapshot o f) (scan_at moment trail) w ≡ false
  never-tried moment trail w = ap (λ ps. is_due moment w && nat_lt 0 (length ps)) (none-left trail w) ∙ and-false (is_due moment w)

  -- where no peer may be asked no key is tried
  pub tries-none : (moment : ℕ) (trail : List (Try K P)) → tried_next o f moment trail ≡ None
  tries-none moment trail =
      ap (option_map (trying_for o (snapshot o f) trail))
      (finds-none (can_be_tried o (snapshot o f) (scan_at moment trail)) (never-tried moment trail) (snapshot o f).waiting)
