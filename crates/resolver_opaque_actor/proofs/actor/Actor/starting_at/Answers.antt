use Rattle.resolver_model_opaque.proofs.Agrees.{agree-none}
use Rattle.resolver_opaque_actor.proofs.actor.Actor.starting_at.Goals as goal

pub invariant_of-result : goal.invariant_of-result
invariant_of-result g c = record { delay = c.requires; agree = rw (c.new.ensures, c.new-2.ensures) (agree-none g.K.Ord.cmp) }
