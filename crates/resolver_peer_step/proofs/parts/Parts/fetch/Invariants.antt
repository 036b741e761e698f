use Rattle.std.proofs.Common.{map}
use Rattle.std.specs.Vec.Iter.{into_iter_items}
use Rattle.resolver_model_peer.specs.Parties.{parties}
use Rattle.resolver_model_peer.specs.Peer.{Machine}
use Rattle.resolver_peer_step.specs.Said.{item_of}
use Rattle.resolver_peer_step.specs.Tied.{Agrees}
use Rattle.resolver_peer_step.proofs.Wanted.{Fetches}
use Rattle.resolver_peer_step.proofs.parts.Parts.fetch.Given as goal

-- what is left of the items makes what all of them made
abbrev pub invariant-loop-item : goal.invariant-loop-item
invariant-loop-item g l =
    let a = parties g.K.Ord.cmp g.S.Ord.cmp g.P.Ord.cmp in
    (m : Machine g.row.K.Denot g.row.S.Denot g.row.P.Denot) → Agrees a l.fn.self m
    → Fetches a m l.fn.now (map item_of l.fn.items.items) (map item_of (into_iter_items l.item-iterator)) l.self
