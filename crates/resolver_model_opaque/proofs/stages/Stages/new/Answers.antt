use Rattle.resolver_model_opaque.proofs.Led.{led-none}
use Rattle.resolver_model_opaque.proofs.Dues.{due-none}
use Rattle.resolver_model_opaque.proofs.stages.Stages.new.Goals as goal

pub invariant_of-result : goal.invariant_of-result
invariant_of-result g c = rw (c.new-2.ensures, c.new.ensures, c.new-3.ensures) (led-none g.K.Ord.cmp c.args.attempts, due-none g.K.Ord.cmp)
