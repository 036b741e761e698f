-- Ids that are tried one after another.
use Rattle.std.proofs.Common.{◌≡◌, refl, ℕ, zero, suc, ◌<◌, ◌≤◌, true, false, List, [], ◌∷◌, length, drop, arith}
use Rattle.resolver_fetch_requests.specs.declared.requests.request.Request.{Request}
use Rattle.resolver_fetch_requests.specs.Ids.{following, is_held, next_free}

drop-nil : {X : Type 0} (i : ℕ) → drop {A = X} i [] ≡ []
drop-nil zero = refl
drop-nil (suc i) = refl

module _ {K P : Type 0} where
  -- an id that no request holds is the next one
  pub free-here : (asked more : List (ℕ × Request K P)) (i last : ℕ) → i < length more → is_held asked (following last) ≡ false
      → next_free asked (drop i more) last ≡ following last
  free-here asked [] i last within held = absurd (omega (arith, within))
  free-here asked (r ∷ more) zero last within held = rw held refl
  free-here asked (r ∷ more) (suc i) last within held = free-here asked more i last (omega (arith, within)) held

  -- where as many were tried as there are requests, it is the one that follows
  pub free-last : (asked more : List (ℕ × Request K P)) (i last : ℕ) → length more ≤ i → next_free asked (drop i more) last ≡ following last
  free-last asked [] i last past = rw (drop-nil i) refl
  free-last asked (r ∷ more) zero last past = absurd (omega (arith, past))
  free-last asked (r ∷ more) (suc i) last past = free-last asked more i last (omega (arith, past))

  -- one that a request holds is passed
  pub free-past : (asked more : List (ℕ × Request K P)) (i last : ℕ) → i < length more → is_held asked (following last) ≡ true
      → next_free asked (drop i more) last ≡ next_free asked (drop (suc i) more) (following last)
  free-past asked [] i last within held = absurd (omega (arith, within))
  free-past asked (r ∷ more) zero last within held = rw held refl
  free-past asked (r ∷ more) (suc i) last within held = free-past asked more i last (omega (arith, within)) held
