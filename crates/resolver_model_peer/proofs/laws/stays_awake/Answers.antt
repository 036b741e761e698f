use Rattle.resolver_model_peer.specs.Parties.{parties}
use Rattle.resolver_model_peer.proofs.StaysAwake.{stays_awake}
use Rattle.resolver_model_peer.proofs.laws.stays_awake.Goals as goal

pub returns : goal.returns
returns g c = stays_awake (parties g.K.Ord.cmp g.S.Ord.cmp g.P.Ord.cmp) g.met.K.Ord.total
