use Rattle.resolver_model_peer.specs.Parties.{parties}
use Rattle.resolver_model_peer.proofs.PeerPoints.{passed_over_pass}
use Rattle.resolver_model_peer.proofs.laws.passed_over_pass.Goals as goal

pub returns : goal.returns
returns g c = passed_over_pass (parties g.K.Ord.cmp g.S.Ord.cmp g.P.Ord.cmp)
