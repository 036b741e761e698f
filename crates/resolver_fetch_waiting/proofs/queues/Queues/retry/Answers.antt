use Rattle.std.proofs.Common.{sym, ap, ◌∙◌}
use Rattle.resolver_fetch_waiting.specs.Queues.{retry_queue}
use Rattle.resolver_fetch_waiting.proofs.Joined.{queued-joined, retry-joined}
use Rattle.resolver_fetch_waiting.proofs.queues.Queues.retry.Goals as goal

pub returns-clause-keys : goal.returns-clause-keys
returns-clause-keys g c = sym (retry-joined c.self.inside.fresh c.self.inside.retry) ∙ ap retry_queue c.self.view_is

pub returns-clause-whole : goal.returns-clause-whole
returns-clause-whole g c = rw (← c.self.view_is) (queued-joined c.self.inside.fresh c.self.inside.retry)
