use Rattle.resolver_model_peer.specs.Parties.{parties}
use Rattle.resolver_model_peer.proofs.PaysOnce.{is_paid_once}
use Rattle.resolver_model_peer.proofs.laws.pays_once.Goals as goal

pub returns : goal.returns
returns g c = is_paid_once (parties g.K.Ord.cmp g.S.Ord.cmp g.P.Ord.cmp)
