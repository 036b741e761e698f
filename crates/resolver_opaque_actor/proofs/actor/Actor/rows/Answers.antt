use Rattle.resolver_model_opaque.proofs.Agrees.{listed-distinct, listed-ordered}
use Rattle.resolver_opaque_actor.proofs.actor.Actor.rows.Goals as goal

pub returns-clause-once : goal.returns-clause-once
returns-clause-once g c = listed-distinct g.K.Ord.cmp c.self.inside.demand c.self.inside.stages.entries.keys c.self.invariant.agree c.listed.result (rw c.entries.ensures at c.listed.ensures.rows)

pub returns-clause-ordered : goal.returns-clause-ordered
returns-clause-ordered g c = listed-ordered g.K.Ord.cmp c.self.inside.demand c.self.inside.stages.entries.keys c.self.invariant.agree c.listed.result c.listed.ensures.ordered (rw c.entries.ensures at c.listed.ensures.rows)
