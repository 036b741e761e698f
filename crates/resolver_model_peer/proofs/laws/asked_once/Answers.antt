use Rattle.resolver_model_peer.specs.Parties.{parties}
use Rattle.resolver_model_peer.proofs.AskedOnce.{asked_once}
use Rattle.resolver_model_peer.proofs.laws.asked_once.Goals as goal

pub returns : goal.returns
returns g c = asked_once (parties g.K.Ord.cmp g.S.Ord.cmp g.P.Ord.cmp) g.met.K.Ord.total
