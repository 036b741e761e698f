use Rattle.std.proofs.Common.{arith}
use Rattle.resolver_demand.proofs.Placed.{sorted-from-adjacent}
use Rattle.resolver_demand.proofs.subscribers.few.ascends.Goals as goal

pub returns : goal.returns
returns g c = λ _. sorted-from-adjacent g.S.Ord.cmp g.met.S.Ord.total c.args.list.now (λ k d h. c.loop-i.invariant k d (omega (arith, h, c.loop-i-test.false)))
