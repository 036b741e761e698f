use Rattle.std.proofs.Common.{◌<◌}
use Rattle.std.specs.Prelude.{sum}
use Rattle.resolver_sampling.proofs.Choices.{chosen-within, in_interval}
use Rattle.resolver_sampling.proofs.sampling.weighted_index.WeightedIndex.pick_counted.Goals as goal

pub returns-clause-interval : goal.returns-clause-interval
returns-clause-interval c =
    let below : c.args.number < sum c.self.inside.sums = rw c.self.view_is c.requires in
    rw (← c.self.view_is, c.choose.ensures.place) (in_interval c.self.inside.sums c.args.number below)

pub returns-clause-within : goal.returns-clause-within
returns-clause-within c =
    let below : c.args.number < sum c.self.inside.sums = rw c.self.view_is c.requires in
    rw (← c.self.view_is, c.choose.ensures.place) (chosen-within c.self.inside.sums c.args.number below)
