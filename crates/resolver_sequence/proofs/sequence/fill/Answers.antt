use Rattle.std.proofs.Common.{◌∙◌, ap, Some, slice_set}
use Rattle.resolver_sequence.proofs.Slots.{set-here, value-here}
use Rattle.resolver_sequence.proofs.sequence.fill.Goals.{in-Some, in-None}
use Rattle.resolver_sequence.proofs.sequence.fill.Goals as goal

pub returns-clause-more : goal.returns-clause-more
returns-clause-more g c =
    let had = c.replace.ensures.had ∙ value-here c.args.slots.now.items c.args.at c.index_mut.result.now c.requires c.index_mut.ensures.value in
    elim c.match-replace.branch [ in-Some w ↦ rw (← had, w.in-Some.is) w.result-is | in-None w ↦ rw (← had, w.in-None.is) w.result-is ]

pub returns-clause-after : goal.returns-clause-after
returns-clause-after g c =
    ap (slice_set c.args.slots.now.items c.args.at) c.replace.ensures.after
    ∙ set-here c.args.slots.now.items c.args.at c.index_mut.result.now (Some c.args.value) c.requires c.index_mut.ensures.value
