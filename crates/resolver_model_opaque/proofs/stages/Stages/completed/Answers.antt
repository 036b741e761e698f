use Rattle.std.proofs.lemmas.Cmp.{eq_by_cmp_equiv}
use Rattle.resolver_model_opaque.proofs.Led.{led-completed}
use Rattle.resolver_model_opaque.proofs.Dues.{due-completed, asked-completed}
use Rattle.resolver_model_opaque.proofs.stages.Stages.completed.Goals as goal

pub invariant_of-self : goal.invariant_of-self
invariant_of-self g c = (
  led-completed g.met.K.Ord.total (eq_by_cmp_equiv g.met.K.Ord.total) c.self.inside.attempts c.self.inside.asked c.self.inside.entries c.self.invariant.0 c.args.number c.args.verdict c.completed.new.self c.completed.result c.completed.ensures,
  due-completed g.met.K.Ord.total (eq_by_cmp_equiv g.met.K.Ord.total) c.self.inside.retries c.self.inside.entries c.self.invariant.1 c.args.number c.args.verdict c.completed.new.self c.completed.result c.completed.ensures,
)

pub returns-clause-asked : goal.returns-clause-asked
returns-clause-asked g c = asked-completed g.met.K.Ord.total (eq_by_cmp_equiv g.met.K.Ord.total) c.self.inside.retries c.self.inside.entries c.self.invariant.1 c.args.number c.args.verdict c.completed.new.self c.completed.result c.completed.ensures
