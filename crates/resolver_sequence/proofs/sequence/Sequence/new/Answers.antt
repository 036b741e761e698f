use Rattle.resolver_sequence.proofs.Slots.{kept-none}
use Rattle.resolver_sequence.proofs.sequence.Sequence.new.Goals as goal

pub invariant_of-result : goal.invariant_of-result
invariant_of-result g c = kept-none c.new.result.items c.new.ensures.items
