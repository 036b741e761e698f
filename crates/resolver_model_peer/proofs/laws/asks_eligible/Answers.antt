use Rattle.resolver_model_peer.specs.Parties.{parties}
use Rattle.resolver_model_peer.proofs.AsksEligible.{asks_eligible}
use Rattle.resolver_model_peer.proofs.laws.asks_eligible.Goals as goal

pub returns : goal.returns
returns g c = asks_eligible (parties g.K.Ord.cmp g.S.Ord.cmp g.P.Ord.cmp)
