-- What holds of the score of every list of observations.
use Rattle.std.specs.Prelude.{◌≡◌, ◌^◌, ◌<◌, ◌≤◌, List, ◌++◌, length, All}
use Rattle.resolver_sampling.specs.Scores.{Observation, averages_of, weight_of}

-- After ninety-six observations in a row without bytes, or more, the weight is 1.
abbrev pub FadesIn96 : Type 0
FadesIn96 = (earlier idle : List Observation) → All (λ o. o.bytes < 2 ^ 64) earlier
    → All (λ o. o.bytes ≡ 0) idle → 96 ≤ length idle → weight_of (averages_of (earlier ++ idle)) ≡ 1
