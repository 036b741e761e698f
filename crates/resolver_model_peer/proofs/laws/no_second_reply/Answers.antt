use Rattle.resolver_model_peer.specs.Parties.{parties}
use Rattle.resolver_model_peer.proofs.PeerReplies.{no_second_reply}
use Rattle.resolver_model_peer.proofs.laws.no_second_reply.Goals as goal

pub returns : goal.returns
returns g c = no_second_reply (parties g.K.Ord.cmp g.S.Ord.cmp g.P.Ord.cmp)
