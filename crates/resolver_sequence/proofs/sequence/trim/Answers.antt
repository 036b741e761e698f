use Rattle.std.proofs.Common.{◌∙◌, rules}
use Rattle.resolver_sequence.proofs.Slots.{at-most-one, past-empty}
use Rattle.resolver_sequence.proofs.sequence.trim.Goals as goal

pub loop-slots-preserved-in-loop-slots-2 : goal.loop-slots-preserved-in-loop-slots-2
loop-slots-preserved-in-loop-slots-2 g c =
    let past = past-empty _ c.loop-slots.slots.items c.pop_front.new.self.items c.pop_front.ensures.items (search rules) (at-most-one c.pop_front.result) c.loop-slots.invariant.1 in
    (past.0 ∙ c.loop-slots.invariant.0, past.1)
