-- What holds of choices among every list of weights.
use Rattle.std.specs.Prelude.{◌≡◌, ℕ, ◌<◌, ◌==◌, List, length, sum, slice_index}
use Rattle.resolver_sampling.specs.Choice.{IsIn, chosen, count_below}

-- A number below the total lies in the interval of the place that it chooses, and of no other.
pub record ChoosesOne : Type 0 where
  pub in_interval : (weights : List ℕ) (number : ℕ) → number < sum weights
      → IsIn weights (chosen weights number) number
  pub in_no_other : (weights : List ℕ) (place number : ℕ) → IsIn weights place number
      → place ≡ chosen weights number

-- Of the numbers below the total, as many as its weight choose each place.
abbrev pub ChoosesByWeight : Type 0
ChoosesByWeight = (weights : List ℕ) (place : ℕ) → place < length weights
    → count_below (sum weights) (λ n. chosen weights n == place) ≡ slice_index weights place
