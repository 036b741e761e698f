use Rattle.resolver_types.specs.Names.{names}
use Rattle.resolver_model_opaque.proofs.Dead.{dead_verdicts_pass}
use Rattle.resolver_model_opaque.proofs.laws.dead_verdicts_pass.Goals as goal

pub returns : goal.returns
returns g c = dead_verdicts_pass (names g.K.Ord.cmp g.S.Ord.cmp)
