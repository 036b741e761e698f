use Rattle.resolver_types.specs.Names.{names}
use Rattle.resolver_model.specs.declared.status.Status.TheVariants.{Failed}
use Rattle.resolver_model_opaque.specs.OpaqueSteps.{MayWant, step_on}
use Rattle.std.proofs.Common.{◌≡◌}
use Rattle.resolver_model.proofs.Runs.{runs-join}
use Rattle.resolver_model_opaque.proofs.laws.opaque_runs_join.Goals as goal

pub returns : goal.returns
returns g c = runs-join (step_on (names g.K.Ord.cmp g.S.Ord.cmp)) MayWant (λ m. m.status ≡ Failed)
