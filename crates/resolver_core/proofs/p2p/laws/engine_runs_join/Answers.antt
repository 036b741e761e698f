use Rattle.std.proofs.Common.{◌≡◌}
use Rattle.resolver_model.proofs.Runs.{runs-join}
use Rattle.resolver_model_peer.specs.Parties.{parties}
use Rattle.resolver_model.specs.declared.status.Status.TheVariants.{Failed}
use Rattle.resolver_model_peer.specs.PeerSteps.{MayWant}
use Rattle.resolver_peer_step.specs.EngineSteps.{step_written}
use Rattle.resolver_peer_step.specs.Said.{codec}
use Rattle.resolver_core.proofs.p2p.laws.engine_runs_join.Goals as goal

pub returns : goal.returns
returns g c =
    let a = parties g.K.Ord.cmp g.S.Ord.cmp g.P.Ord.cmp in
    runs-join (step_written a (codec g.K.Span.SIZE g.K.Span.bytes_of g.K.Span.read_from)) (MayWant a) (λ m. m.status ≡ Failed)
