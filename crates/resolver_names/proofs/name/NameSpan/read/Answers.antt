use Rattle.std.proofs.Common.{sym, ap, ◌∙◌}
use Rattle.resolver_names.specs.Naming.{read_from, read_is}
use Rattle.resolver_names.proofs.name.NameSpan.read.Goals as goal

pub returns-in-Ok : goal.returns-in-Ok
returns-in-Ok g c = sym (read_is c.in-Ok.bytes _) ∙ ap read_from c.in-Ok.ensures.1.same
