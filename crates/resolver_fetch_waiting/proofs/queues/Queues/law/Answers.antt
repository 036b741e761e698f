use Rattle.resolver_fetch_waiting.proofs.Joined.{sorted-joined}
use Rattle.resolver_fetch_waiting.proofs.queues.Queues.law.Goals as goal

pub returns : goal.returns
returns g c =
    rw (← c.self.view_is)
    (sorted-joined g.K.Ord.cmp c.self.inside.fresh c.self.inside.retry c.len-fresh.ensures.ordered c.len-retry.ensures.ordered)
