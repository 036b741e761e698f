use Rattle.resolver_model_peer.specs.Parties.{parties}
use Rattle.resolver_model_peer.proofs.PeerPoints.{dead_verdicts_pass}
use Rattle.resolver_model_peer.proofs.laws.dead_verdicts_pass.Goals as goal

pub returns : goal.returns
returns g c = dead_verdicts_pass (parties g.K.Ord.cmp g.S.Ord.cmp g.P.Ord.cmp)
