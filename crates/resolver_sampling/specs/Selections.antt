-- Draws without replacement.
use Rattle.std.specs.Prelude.{◌≡◌, ℕ, ◌+◌, ◌<◌, not, ◌==◌, nat_lt, List, map, filter, length, sum, slice_index, Contains}
use Rattle.std.specs.List.{enumerate_from}
use Rattle.resolver_sampling.specs.Choice.{chosen, count_below}

-- some weights, and those of their places that are left to draw
pub record Remaining : Type 0 where
  -- as they were when it began
  pub weights : List ℕ
  -- the places that are left, in order
  pub left : List ℕ

-- the places of positive weight, in order, where the first place has this number
abbrev pub positive_from : (first : ℕ) → List ℕ → List ℕ
positive_from first weights =
    map (λ entry. entry.0) (filter (λ entry. nat_lt 0 entry.1) (enumerate_from first weights))

-- the places of positive weight, in order
abbrev pub positive_places : List ℕ → List ℕ
positive_places weights = positive_from 0 weights

-- none is taken yet
abbrev pub begun : List ℕ → Remaining
begun weights = record { weights = weights; left = positive_places weights }

-- the weights of the places left, in their order
abbrev pub weights_left : Remaining → List ℕ
weights_left selection = map (slice_index selection.weights) selection.left

-- the place that a weighted number takes, and the one that a uniform number takes
abbrev pub by_weight : Remaining → (number : ℕ) → ℕ
by_weight selection number = slice_index selection.left (chosen (weights_left selection) number)

abbrev pub by_count : Remaining → (number : ℕ) → ℕ
by_count selection number = slice_index selection.left number

-- the place is no longer left
abbrev pub without : Remaining → (place : ℕ) → Remaining
without selection place =
    record selection { left = filter (λ other. not (other == place)) selection.left }

-- a draw took a place that was left
pub record Takes (old new : Remaining) (place : ℕ) : Type 0 where
  pub was_left : Contains old.left place
  pub within : place < length old.weights
  pub positive : 0 < slice_index old.weights place
  pub left : new ≡ without old place
  pub fewer : length new.left + 1 ≡ length old.left
  pub lighter : sum (weights_left new) + slice_index old.weights place ≡ sum (weights_left old)

-- Of the numbers below the weight left, as many as its weight take each place left.
abbrev pub DrawsByWeight : Remaining → Type 0
DrawsByWeight selection = (place : ℕ) → Contains selection.left place
    → count_below (sum (weights_left selection)) (λ n. by_weight selection n == place)
    ≡ slice_index selection.weights place

-- Of the numbers below the count left, one takes each place left.
abbrev pub DrawsEachOnce : Remaining → Type 0
DrawsEachOnce selection = (place : ℕ) → Contains selection.left place
    → count_below (length selection.left) (λ n. by_count selection n == place) ≡ 1
