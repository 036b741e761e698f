use Rattle.std.proofs.Common.{◌≡◌, map, take}
use Rattle.resolver_sampling.specs.Scores.{averages_of, observation}
use Rattle.resolver_sampling.proofs.laws.recorded.Given as goal

abbrev pub invariant-loop-elapsed : goal.invariant-loop-elapsed
invariant-loop-elapsed l =
    l.score ≡ averages_of (map observation (take l.elapsed-index l.observations))
