use Rattle.resolver_model_peer.specs.Parties.{parties}
use Rattle.resolver_model_peer.proofs.RestsAfterScans.{rests_after_scans}
use Rattle.resolver_model_peer.proofs.laws.rests_after_scans.Goals as goal

pub returns : goal.returns
returns g c = rests_after_scans (parties g.K.Ord.cmp g.S.Ord.cmp g.P.Ord.cmp)
