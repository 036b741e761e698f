use Rattle.std.proofs.Common.{[]}
use Rattle.std.proofs.lemmas.Result.{err_from_is_err_and}
use Rattle.resolver_flat.proofs.Lists.{no_more, one_more, refused_more}
use Rattle.resolver_flat.proofs.reading.many.Goals as goal

pub returns-in_err-one : goal.returns-in_err-one
returns-in_err-one g c =
    let refused = err_from_is_err_and c.from_residual.result c.from_residual.ensures.1 in
    rw (refused.1, refused.2) (refused_more _ _ [] _ _ _ _ c.loop-left-test.true c.in_err-one.ensures c.loop-left.invariant)

pub loop-left-preserved : goal.loop-left-preserved
loop-left-preserved g c = one_more _ _ _ _ _ _ _ _ c.loop-left-test.true c.in_ok-one.ensures c.in_ok-push.ensures.items c.loop-left.invariant

pub returns : goal.returns
returns g c = no_more _ _ [] _ _ _ c.loop-left-test.false c.loop-left.invariant
