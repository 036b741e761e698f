use Rattle.resolver_model_peer.specs.Parties.{parties}
use Rattle.resolver_model_peer.proofs.PeerPoints.{responses_are_delivered}
use Rattle.resolver_model_peer.proofs.laws.responses_are_delivered.Goals as goal

pub returns : goal.returns
returns g c = responses_are_delivered (parties g.K.Ord.cmp g.S.Ord.cmp g.P.Ord.cmp)
