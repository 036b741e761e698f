use Rattle.std.proofs.lemmas.Cmp.{eq_by_cmp_equiv}
use Rattle.resolver_model_opaque.proofs.Led.{led-delivered}
use Rattle.resolver_model_opaque.proofs.Dues.{due-delivered}
use Rattle.resolver_model_opaque.proofs.stages.Stages.deliver.Goals as goal

pub invariant_of-self : goal.invariant_of-self
invariant_of-self g c = (
  led-delivered g.met.K.Ord.total (eq_by_cmp_equiv g.met.K.Ord.total) c.self.inside.attempts c.self.inside.asked c.self.inside.entries c.self.invariant.0 c.args.delivery c.args.value c.deliver.new.self c.deliver.result c.deliver.ensures.ok c.deliver.ensures.err,
  due-delivered g.met.K.Ord.total (eq_by_cmp_equiv g.met.K.Ord.total) c.self.inside.retries c.self.inside.entries c.self.invariant.1 c.args.delivery c.args.value c.deliver.new.self c.deliver.result (rw (← c.self.view_is) at c.requires.asked) c.deliver.ensures.ok c.deliver.ensures.err,
)
