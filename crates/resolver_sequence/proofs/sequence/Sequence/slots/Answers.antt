use Rattle.resolver_sequence.proofs.Slots.{entries-sorted}
use Rattle.resolver_sequence.proofs.sequence.Sequence.slots.Goals as goal

pub returns-clause-ordered : goal.returns-clause-ordered
returns-clause-ordered g c = rw (← c.self.view_is) (entries-sorted c.self.inside.slots.items c.self.invariant.rising)
