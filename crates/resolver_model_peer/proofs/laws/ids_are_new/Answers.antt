use Rattle.resolver_model_peer.specs.Parties.{parties}
use Rattle.resolver_model_peer.proofs.IdsAreNew.{ids_are_new}
use Rattle.resolver_model_peer.proofs.laws.ids_are_new.Goals as goal

pub returns : goal.returns
returns g c = ids_are_new (parties g.K.Ord.cmp g.S.Ord.cmp g.P.Ord.cmp)
