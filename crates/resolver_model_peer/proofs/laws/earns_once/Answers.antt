use Rattle.resolver_model_peer.specs.Parties.{parties}
use Rattle.resolver_model_peer.proofs.EarnsOnce.{earns_once}
use Rattle.resolver_model_peer.proofs.laws.earns_once.Goals as goal

pub returns : goal.returns
returns g c = earns_once (parties g.K.Ord.cmp g.S.Ord.cmp g.P.Ord.cmp)
