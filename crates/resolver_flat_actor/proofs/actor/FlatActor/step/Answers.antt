use Rattle.std.proofs.Common.{rules}
use Rattle.resolver_flat_actor.proofs.Steps.{took}
use Rattle.resolver_flat_actor.proofs.actor.FlatActor.step.Goals as goal

pub returns-in-Ok : goal.returns-in-Ok
returns-in-Ok g c = took _ _ _ _ _ _ _ c.self.view_is c.in_ok-input.ensures c.in-Ok.ensures

pub returns-in-Err : goal.returns-in-Err
returns-in-Err g c = (took _ _ _ _ _ _ _ c.self.view_is c.in_ok-input.ensures c.in-Err.ensures, search rules)
