use Rattle.std.proofs.Common.{rules}
use Rattle.resolver_flat.proofs.Lists.{written_more}
use Rattle.resolver_flat_machine.specs.Effects.{spelled}
use Rattle.resolver_flat_machine.proofs.effects.put_all.Goals as goal

pub loop-effect-preserved : goal.loop-effect-preserved
loop-effect-preserved g c = written_more (spelled g.K.Span.bytes_of) _ _ _ _ _ _ c.loop-effect-test.true c.in_ok-put_effect.ensures c.loop-effect.invariant (search rules)
