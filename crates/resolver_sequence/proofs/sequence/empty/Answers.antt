use Rattle.std.proofs.Common.{◌∙◌, ap, None, slice_set}
use Rattle.resolver_sequence.proofs.Slots.{set-here, value-here}
use Rattle.resolver_sequence.proofs.sequence.empty.Goals as goal

pub returns-clause-had : goal.returns-clause-had
returns-clause-had g c =
    c.take.ensures.had ∙ value-here c.args.slots.now.items c.args.at c.index_mut.result.now c.requires c.index_mut.ensures.value

pub returns-clause-after : goal.returns-clause-after
returns-clause-after g c =
    ap (slice_set c.args.slots.now.items c.args.at) c.take.ensures.after
    ∙ set-here c.args.slots.now.items c.args.at c.index_mut.result.now None c.requires c.index_mut.ensures.value
