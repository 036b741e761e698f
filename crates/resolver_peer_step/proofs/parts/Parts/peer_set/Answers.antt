use Rattle.std.proofs.Common.{◌≡◌, refl, true}
use Rattle.resolver_model_peer.specs.Parties.{parties}
use Rattle.resolver_model_peer.specs.Peer.{is_newer}
use Rattle.resolver_peer_step.proofs.Supplied.{newer-first, newer-set, newer-than}
use Rattle.resolver_peer_step.proofs.parts.Parts.peer_set.Goals as goal
use Rattle.resolver_peer_step.proofs.parts.Parts.peer_set.Goals.{in-Some+else-index-last, in_default}

pub returns-clause-ok : goal.returns-clause-ok
returns-clause-ok g c = λ m is.
    let newer : is_newer c.args.self.now.last_index c.args.index ≡ true =
    elim c.match-self.branch [ in-Some+else-index-last w ↦ newer-than _ w.in-Some.last c.args.index w.in-Some.is w.if-index-last.false | in_default w ↦ newer-first _ c.args.index w.in_default.is ] in
    newer-set (parties g.K.Ord.cmp g.S.Ord.cmp g.P.Ord.cmp) c.args.self.now _ m c.args.index c.args.peers.items is c.requires.closed newer refl c.in_ok-reconcile.ensures.ok
