use Rattle.resolver_model_peer.specs.Parties.{parties}
use Rattle.resolver_model_peer.proofs.PeerPoints.{replies_once}
use Rattle.resolver_model_peer.proofs.laws.replies_once.Goals as goal

pub returns : goal.returns
returns g c = replies_once (parties g.K.Ord.cmp g.S.Ord.cmp g.P.Ord.cmp)
