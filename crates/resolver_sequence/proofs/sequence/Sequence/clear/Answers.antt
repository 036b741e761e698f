use Rattle.resolver_sequence.proofs.Slots.{kept-none}
use Rattle.resolver_sequence.proofs.sequence.Sequence.clear.Goals as goal

pub invariant_of-self : goal.invariant_of-self
invariant_of-self g c = kept-none c.clear.new.self.items c.clear.ensures.items
