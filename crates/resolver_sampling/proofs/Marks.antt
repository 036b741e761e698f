-- A one for each positive weight.
use Rattle.std.proofs.Common.{◌≡◌, sym, ap, ℕ, suc, zero, ◌^◌, ◌<◌, ◌≤◌, List, [], ◌∷◌, length, slice_index, slice_set, map, refl, inl, inr, arith}
use Rattle.std.proofs.lemmas.Bool.{lt-ltb, le-ltb, cases_lt}
use Rattle.resolver_sampling.specs.SumTrees.{AreWeights, mark}

-- a positive weight, and one that is zero
pub some-mark : (w : ℕ) → 0 < w → mark w ≡ 1
some-mark w some = rw (lt-ltb 0 w some) refl

pub no-mark : (w : ℕ) → w ≤ 0 → mark w ≡ 0
no-mark w none = rw (le-ltb 0 w none) refl

mark-small : (w : ℕ) → mark w < 2 ^ 64
mark-small w =
    elim (cases_lt 0 w) [
      | inl some ↦ omega (arith, some-mark w some)
      | inr none ↦ omega (arith, no-mark w none)
    ]

pub marks-small : (ws : List ℕ) → AreWeights (map mark ws)
marks-small [] place = omega arith
marks-small (w ∷ ws) zero = mark-small w
marks-small (w ∷ ws) (suc place) = marks-small ws place

-- the mark of a place changes with its weight
pub marks-set : (ws : List ℕ) (place weight : ℕ) → map mark (slice_set ws place weight) ≡ slice_set (map mark ws) place (mark weight)
marks-set [] place weight = refl
marks-set (w ∷ ws) zero weight = refl
marks-set (w ∷ ws) (suc place) weight = ap (λ (ms : List ℕ). mark w ∷ ms) (marks-set ws place weight)

pub marks-stay : (ws : List ℕ) (place weight : ℕ) → place < length ws → mark (slice_index ws place) ≡ mark weight
    → map mark (slice_set ws place weight) ≡ map mark ws
marks-stay [] place weight within same = refl
marks-stay (w ∷ ws) zero weight within same = ap (λ (m : ℕ). m ∷ map mark ws) (sym same)
marks-stay (w ∷ ws) (suc place) weight within same = ap (λ (ms : List ℕ). mark w ∷ ms) (marks-stay ws place weight (omega (arith, within)) same)
