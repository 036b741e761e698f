use Rattle.resolver_sampling.proofs.Draws.{draws-each-once}
use Rattle.resolver_sampling.proofs.Restored.{left-ascending, remaining}
use Rattle.resolver_sampling.proofs.sampling.selection.Selection.left_count.Goals as goal

pub returns-clause-draws : goal.returns-clause-draws
returns-clause-draws c =
    rw (← c.self.view_is)
    (draws-each-once (remaining c.self.inside.index c.self.inside.taken.items) (left-ascending c.self.inside.index c.self.inside.taken.items _ c.self.invariant))
