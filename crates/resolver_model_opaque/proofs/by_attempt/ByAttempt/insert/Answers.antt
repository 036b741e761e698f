use Rattle.std.proofs.Common.{Some}
use Rattle.resolver_model_opaque.proofs.Hashed.{hashed-put}
use Rattle.resolver_model_opaque.proofs.by_attempt.ByAttempt.insert.Goals as goal

pub returns-clause-ok : goal.returns-clause-ok
returns-clause-ok g c = rw (← c.self.view_is) (hashed-put c.args.attempt (Some c.args.key) c.self.inside.table.entries c.insert.new.self.entries c.in_ok-insert.ensures.updates.0)
