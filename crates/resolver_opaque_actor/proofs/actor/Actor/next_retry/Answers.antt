use Rattle.std.proofs.Common.{sym}
use Rattle.resolver_model_opaque.proofs.ByDue.{next_retry-first}
use Rattle.resolver_opaque_actor.proofs.actor.Actor.next_retry.Goals as goal

pub returns-clause-value : goal.returns-clause-value
returns-clause-value g c =
    rw (c.next_retry.ensures.value, ← c.self.view_is) (sym (next_retry-first c.self.inside.demand c.self.inside.stages.entries.keys c.self.invariant.agree.same))
