use Rattle.std.proofs.Common.{◌<◌, ◌^◌, length, arith}
use Rattle.resolver_sampling.proofs.Restored.{restored-length}
use Rattle.resolver_sampling.proofs.sampling.selection.Selection.take_uniform_counted.Goals as goal

pub returns-clause-visits : goal.returns-clause-visits
returns-clause-visits c digits below =
    let few : length c.self.inside.index < 2 ^ digits = rw (← c.self.view_is, restored-length c.self.inside.index c.self.inside.taken.items) at below in
    omega (arith, c.take.ensures.visits digits below, c.pick_positive_counted-place.ensures.visits digits few)
