use Rattle.resolver_model_peer.specs.Parties.{parties}
use Rattle.resolver_model_peer.proofs.TriesOnce.{tries_once}
use Rattle.resolver_model_peer.proofs.laws.tries_once.Goals as goal

pub returns : goal.returns
returns g c = tries_once (parties g.K.Ord.cmp g.S.Ord.cmp g.P.Ord.cmp)
