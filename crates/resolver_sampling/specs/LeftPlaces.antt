-- What holds of the places left, and of those taken, in every draw.
use Rattle.std.specs.Prelude.{◌≡◌, ℕ, ◌+◌, ◌<◌, ◌≤◌, List, [], ◌∷◌, length, slice_index, slice_set, All}
use Rattle.resolver_sampling.specs.Selections.{positive_places}

-- places of positive weight in ascending order, none before the first
abbrev pub AreAscending : (weights : List ℕ) → (first : ℕ) → List ℕ → Type 0
AreAscending weights first [] = Unit {0}
AreAscending weights first (place ∷ places) =
    (first ≤ place) × (0 < slice_index weights place) × AreAscending weights (place + 1) places

-- the weights as they were before these places were taken, each with what it weighed
abbrev pub restored : (weights : List ℕ) → (taken : List (ℕ × ℕ)) → List ℕ
restored weights [] = weights
restored weights (one ∷ taken) = slice_set (restored weights taken) one.0 one.1

-- a place that is taken weighs nothing, and there is room for the places left
pub record IsTaken (weights : List ℕ) (taken : List (ℕ × ℕ)) (room : ℕ) : Type 0 where
  pub within : All (λ one. one.0 < length weights) taken
  pub weightless : All (λ one. slice_index weights one.0 ≡ 0) taken
  pub fits : length taken + length (positive_places weights) ≤ room
