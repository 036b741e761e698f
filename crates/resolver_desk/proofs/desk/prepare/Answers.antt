use Rattle.std.proofs.Common.{rules}
use Rattle.resolver_desk.proofs.desk.prepare.Goals as goal

pub returns-clause-copy : goal.returns-clause-copy
returns-clause-copy g c = search rules
