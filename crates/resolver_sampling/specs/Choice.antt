-- Lists of weights, and what a drawn number chooses.
use Rattle.std.specs.Prelude.{ℕ, ◌+◌, ◌-◌, ◌<◌, ◌≤◌, Bool, nat_lt, List, [], ◌∷◌, take, sum, count_by, fold, slice_index, slice_set, if◌then◌else◌}
use Rattle.std.specs.List.{range_with_len}

-- the weights after some changes, each a place and its new weight, in order
abbrev pub changed : List ℕ → List (ℕ × ℕ) → List ℕ
changed weights changes = fold (λ ws change. slice_set ws change.0 change.1) weights changes

-- The weights are intervals, one after another. Here the interval of a place begins.
abbrev pub prefix : List ℕ → (place : ℕ) → ℕ
prefix weights place = sum (take place weights)

-- the number lies in the interval of the place
pub record IsIn (weights : List ℕ) (place number : ℕ) : Type 0 where
  pub from : prefix weights place ≤ number
  pub below : number < prefix weights place + slice_index weights place

-- the place in whose interval the number lies
abbrev pub chosen : (weights : List ℕ) → (number : ℕ) → ℕ
chosen [] number = 0
chosen (weight ∷ weights) number =
    if nat_lt number weight then 0 else chosen weights (number - weight) + 1

-- how many of the numbers below the bound pass
abbrev pub count_below : (bound : ℕ) → (ℕ → Bool) → ℕ
count_below bound passes = count_by passes (range_with_len 0 bound)
