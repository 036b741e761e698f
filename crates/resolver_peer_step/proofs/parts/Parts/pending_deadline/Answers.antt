use Rattle.std.proofs.Common.{◌∙◌}
use Rattle.resolver_model_peer.specs.Parties.{parties}
use Rattle.resolver_peer_step.proofs.Scanned.{wakes-same}
use Rattle.resolver_peer_step.proofs.parts.Parts.pending_deadline.Goals as goal

pub returns : goal.returns
returns g c = λ m is. c.get_pending_deadline.ensures ∙ wakes-same (parties g.K.Ord.cmp g.S.Ord.cmp g.P.Ord.cmp) g.met.K.Ord.total c.args.self.now m is
