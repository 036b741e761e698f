use Rattle.std.proofs.Common.{◌∙◌, ap, length}
use Rattle.resolver_demand.proofs.subscribers.Tracker.len.Goals as goal

pub returns : goal.returns
returns g c = c.len.ensures.len ∙ ap length c.self.view_is
