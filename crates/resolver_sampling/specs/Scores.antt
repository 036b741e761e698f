-- A peer's score: halving averages of its bytes and of its time, and the weight that they give.
use Rattle.std.specs.Prelude.{ℕ, ◌+◌, ◌-◌, ◌*◌, ◌/◌, ◌^◌, List, min, max, fold}
use Rattle.resolver_sampling.specs.declared.score.Averages.{Averages}
use Rattle.resolver_sampling.specs.declared.score.Averages.TheVariants.{Unobserved, Observed}
use Rattle.resolver_sampling.specs.Times.{longest}

-- what a request took, and the useful bytes that it gave
pub record Observation : Type 0 where
  -- in nanoseconds
  pub elapsed : ℕ
  pub bytes : ℕ

-- as a pair has them
abbrev pub observation : ℕ × ℕ → Observation
observation pair = record { elapsed = pair.0; bytes = pair.1 }

-- bytes in units of 2^-32
abbrev pub scaled : (bytes : ℕ) → ℕ
scaled bytes = bytes * 2 ^ 32

-- time that is at least a nanosecond, and no more than counts
abbrev pub counted : (elapsed : ℕ) → ℕ
counted elapsed = max 1 (min elapsed longest)

-- The first observation sets both averages. A later one moves them half the way, rounded down.
abbrev pub averaged : Averages → Observation → Averages
averaged Unobserved o = Observed (scaled o.bytes) (counted o.elapsed)
averaged (Observed bytes elapsed) o =
    Observed ((bytes + scaled o.bytes) / 2) ((elapsed + counted o.elapsed) / 2)

-- the averages of some observations, in the order in which they were made
abbrev pub averages_of : List Observation → Averages
averages_of os = fold averaged Unobserved os

-- bytes a second, and one more
abbrev pub weight_of : Averages → ℕ
weight_of Unobserved = 1
weight_of (Observed bytes elapsed) =
    min (2 ^ 64 - 1) ((bytes * 10 ^ 9) / (elapsed * 2 ^ 32) + 1)
