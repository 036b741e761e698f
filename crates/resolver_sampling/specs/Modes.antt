-- Which draws go by weight.
use Rattle.std.specs.Prelude.{◌≡◌, ℕ, ◌+◌, Bool, nat_lt}
use Rattle.resolver_sampling.specs.Choice.{count_below}

-- whether a number below four and a key's retries means a weighted draw; else a uniform one
abbrev pub means_weighted : (number : ℕ) → Bool
means_weighted number = nat_lt number 4

-- Of the numbers below four and the retries, four mean a weighted draw.
abbrev pub FourMeanWeighted : Type 0
FourMeanWeighted = (retries : ℕ) → count_below (retries + 4) means_weighted ≡ 4
