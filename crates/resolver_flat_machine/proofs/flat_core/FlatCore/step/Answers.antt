use Rattle.std.proofs.Common.{rules}
use Rattle.resolver_flat_machine.proofs.Steps.{took}
use Rattle.resolver_flat_machine.proofs.flat_core.FlatCore.step.Goals as goal

pub returns-in-Ok : goal.returns-in-Ok
returns-in-Ok g c = took _ _ _ _ _ _ _ c.self.view_is c.in_ok-input.ensures c.in-Ok.ensures.takes

pub returns-in-Err : goal.returns-in-Err
returns-in-Err g c = (took _ _ _ _ _ _ _ c.self.view_is c.in_ok-input.ensures c.in-Err.ensures.takes, search rules)
