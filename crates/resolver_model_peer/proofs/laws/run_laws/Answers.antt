use Rattle.resolver_model_peer.specs.Parties.{parties}
use Rattle.resolver_model_peer.proofs.PeerRunLaws.{run_laws}
use Rattle.resolver_model_peer.proofs.laws.run_laws.Goals as goal

pub returns : goal.returns
returns g c = run_laws (parties g.K.Ord.cmp g.S.Ord.cmp g.P.Ord.cmp) g.met.K.Ord.total
