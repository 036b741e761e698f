use Rattle.std.proofs.Common.{rules}
use Rattle.resolver_flat.proofs.Lists.{written_more}
use Rattle.resolver_flat_machine.specs.Effects.{row_spelled}
use Rattle.resolver_flat_machine.proofs.effects.put_rows.Goals as goal

pub loop-row-preserved : goal.loop-row-preserved
loop-row-preserved g c = written_more (row_spelled g.K.Span.bytes_of) _ _ _ _ _ _ c.loop-row-test.true c.in_ok-put_row.ensures c.loop-row.invariant (search rules)
