use Rattle.std.proofs.Common.{sym, ap, ◌∙◌}
use Rattle.resolver_fetch_waiting.specs.Queues.{fresh_queue}
use Rattle.resolver_fetch_waiting.proofs.Joined.{fresh-joined, queued-joined}
use Rattle.resolver_fetch_waiting.proofs.queues.Queues.fresh.Goals as goal

pub returns-clause-keys : goal.returns-clause-keys
returns-clause-keys g c = sym (fresh-joined c.self.inside.fresh c.self.inside.retry) ∙ ap fresh_queue c.self.view_is

pub returns-clause-whole : goal.returns-clause-whole
returns-clause-whole g c = rw (← c.self.view_is) (queued-joined c.self.inside.fresh c.self.inside.retry)
