use Rattle.resolver_model_peer.specs.Parties.{parties}
use Rattle.resolver_model_peer.proofs.AsksWell.{asks_well}
use Rattle.resolver_model_peer.proofs.laws.asks_well.Goals as goal

pub returns : goal.returns
returns g c = asks_well (parties g.K.Ord.cmp g.S.Ord.cmp g.P.Ord.cmp)
