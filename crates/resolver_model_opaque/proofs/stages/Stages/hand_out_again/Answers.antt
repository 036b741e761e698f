use Rattle.std.proofs.lemmas.Cmp.{eq_by_cmp_equiv}
use Rattle.resolver_model_opaque.proofs.Led.{led-handed}
use Rattle.resolver_model_opaque.proofs.Dues.{due-handed}
use Rattle.resolver_model_opaque.proofs.stages.Stages.hand_out_again.Goals as goal

pub invariant_of-self : goal.invariant_of-self
invariant_of-self g c = (
  led-handed g.met.K.Ord.total (eq_by_cmp_equiv g.met.K.Ord.total) c.self.inside.attempts c.self.inside.asked c.self.inside.entries c.self.invariant.0 c.args.delivery c.args.accepted c.hand_out_again.new.self c.hand_out_again.result c.hand_out_again.ensures.ok c.hand_out_again.ensures.err,
  due-handed g.met.K.Ord.total (eq_by_cmp_equiv g.met.K.Ord.total) c.self.inside.retries c.self.inside.entries c.self.invariant.1 c.args.delivery c.args.accepted c.hand_out_again.new.self c.hand_out_again.result (rw (← c.self.view_is) at c.requires.asked) (rw (← c.self.view_is) at c.requires.cached) c.hand_out_again.ensures.ok c.hand_out_again.ensures.err,
)
