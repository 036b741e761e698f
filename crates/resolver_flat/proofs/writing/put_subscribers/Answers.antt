use Rattle.std.proofs.Common.{rules}
use Rattle.resolver_flat.specs.Spelling.{subscriber}
use Rattle.resolver_flat.proofs.Lists.{written_more}
use Rattle.resolver_flat.proofs.writing.put_subscribers.Goals as goal

pub loop-one-preserved : goal.loop-one-preserved
loop-one-preserved c = written_more subscriber _ _ _ _ _ _ c.loop-one-test.true c.in_ok-put_subscriber.ensures c.loop-one.invariant (search rules)
