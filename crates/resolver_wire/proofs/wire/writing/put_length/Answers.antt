use Rattle.std.proofs.Common.{◌∙◌, arith}
use Rattle.resolver_wire.proofs.Lengths.{puts_last, puts_more, puts_room}
use Rattle.resolver_wire.proofs.wire.writing.put_length.Goals as goal

pub extend_reserved-requires : goal.extend_reserved-requires
extend_reserved-requires c = puts_room _ _ _ _ _ _ c.loop-rest.invariant.1

pub loop-rest-preserved : goal.loop-rest-preserved
loop-rest-preserved c =
    puts_more _ _ _ _ _ _ _ _ c.loop-rest-test.true c.loop-rest.invariant.1 c.extend_reserved.ensures.spare c.extend_reserved.ensures.items

pub extend_reserved-requires-2 : goal.extend_reserved-requires-2
extend_reserved-requires-2 c = puts_room _ _ _ _ _ _ c.loop-rest.invariant.1

pub returns-clause-items : goal.returns-clause-items
returns-clause-items c = c.extend_reserved-2.ensures.items ∙ (puts_last _ _ _ _ _ _ c.loop-rest-test.false c.loop-rest.invariant.1).0

pub returns-clause-spare : goal.returns-clause-spare
returns-clause-spare c = omega (arith, c.requires, c.extend_reserved-2.ensures.spare, (puts_last _ _ _ _ _ _ c.loop-rest-test.false c.loop-rest.invariant.1).1)
