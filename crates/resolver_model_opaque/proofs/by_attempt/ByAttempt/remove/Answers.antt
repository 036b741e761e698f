use Rattle.std.proofs.Common.{None}
use Rattle.resolver_model_opaque.proofs.Hashed.{hashed-put}
use Rattle.resolver_model_opaque.proofs.by_attempt.ByAttempt.remove.Goals as goal

pub returns : goal.returns
returns g c = rw (← c.self.view_is) (hashed-put c.args.attempt None c.self.inside.table.entries c.remove.new.self.entries c.remove.ensures.updates.0)
