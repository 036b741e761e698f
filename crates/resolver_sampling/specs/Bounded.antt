-- What holds of the averages of every score.
use Rattle.std.specs.Prelude.{◌^◌, ◌<◌, ◌≤◌}
use Rattle.resolver_sampling.specs.declared.score.Averages.{Averages}
use Rattle.resolver_sampling.specs.declared.score.Averages.TheVariants.{Unobserved, Observed}
use Rattle.resolver_sampling.specs.Times.{longest}

-- averages of numbers of bytes below 2^64, and of times that count
abbrev pub IsBounded : Averages → Type 0
IsBounded Unobserved = Unit {0}
IsBounded (Observed bytes elapsed) = (bytes < 2 ^ 96) × (0 < elapsed) × (elapsed ≤ longest)
