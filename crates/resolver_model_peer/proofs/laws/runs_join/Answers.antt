use Rattle.std.proofs.Common.{◌≡◌}
use Rattle.resolver_model.proofs.Runs.{runs-join}
use Rattle.resolver_model_peer.specs.Parties.{parties}
use Rattle.resolver_model.specs.declared.status.Status.TheVariants.{Failed}
use Rattle.resolver_model_peer.specs.PeerSteps.{MayWant, step_on}
use Rattle.resolver_model_peer.proofs.laws.runs_join.Goals as goal

pub returns : goal.returns
returns g c =
    let a = parties g.K.Ord.cmp g.S.Ord.cmp g.P.Ord.cmp in
    runs-join (step_on a) (MayWant a) (λ m. m.status ≡ Failed)
