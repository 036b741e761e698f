use Rattle.resolver_model_opaque.proofs.Led.{led-none}
use Rattle.resolver_model_opaque.proofs.Dues.{due-none}
use Rattle.resolver_model_opaque.proofs.stages.Stages.clear.Goals as goal

pub invariant_of-self : goal.invariant_of-self
invariant_of-self g c = rw (c.clear.ensures, c.clear-2.ensures, c.new.ensures) (led-none g.K.Ord.cmp c.self.inside.attempts, due-none g.K.Ord.cmp)
