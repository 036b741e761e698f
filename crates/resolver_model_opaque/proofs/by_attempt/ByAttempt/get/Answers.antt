use Rattle.std.proofs.Common.{◌∙◌, ap}
use Rattle.std.specs.Map.{lookup}
use Rattle.std.specs.BTreeMap.{is_at}
use Rattle.std.specs.Ordering.{nat_cmp}
use Rattle.resolver_model_opaque.proofs.Hashed.{hashed}
use Rattle.resolver_model_opaque.proofs.by_attempt.ByAttempt.get.Goals as goal

pub returns : goal.returns
returns g c = c.get.ensures.value ∙ (hashed c.args.attempt.now c.self.inside.table.entries ∙ ap (lookup (is_at (nat_cmp c.args.attempt.now))) c.self.view_is)
