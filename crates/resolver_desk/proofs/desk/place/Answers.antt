use Rattle.std.proofs.Common.{rules}
use Rattle.resolver_desk.proofs.desk.place.Goals as goal

pub returns-clause-pending : goal.returns-clause-pending
returns-clause-pending g c = search rules
