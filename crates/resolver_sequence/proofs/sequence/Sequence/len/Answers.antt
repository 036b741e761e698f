use Rattle.std.proofs.Common.{arith}
use Rattle.resolver_sequence.proofs.Slots.{entries-fewer, entries-sorted}
use Rattle.resolver_sequence.proofs.sequence.Sequence.len.Goals as goal

pub returns-clause-few : goal.returns-clause-few
returns-clause-few g c =
    let slots = c.self.inside.slots in
    omega (arith, c.self.invariant.counted, entries-fewer slots.items, slots.ok.0, slots.small.0, slots.small.1)

pub returns-clause-ordered : goal.returns-clause-ordered
returns-clause-ordered g c = rw (← c.self.view_is) (entries-sorted c.self.inside.slots.items c.self.invariant.rising)
