use Rattle.resolver_model_peer.specs.Parties.{parties}
use Rattle.resolver_model_peer.proofs.PaysSenders.{is_paid_to_senders}
use Rattle.resolver_model_peer.proofs.laws.pays_senders.Goals as goal

pub returns : goal.returns
returns g c = is_paid_to_senders (parties g.K.Ord.cmp g.S.Ord.cmp g.P.Ord.cmp)
