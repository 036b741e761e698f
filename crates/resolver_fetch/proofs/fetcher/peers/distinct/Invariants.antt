use Rattle.std.proofs.Common.{◌≡◌, fold}
use Rattle.std.specs.BTreeSet.{insert_key}
use Rattle.std.specs.Vec.Iter.{into_iter_items}
use Rattle.resolver_fetch_scan.specs.Peers.{set_of}
use Rattle.resolver_fetch.proofs.fetcher.peers.distinct.Given as goal

-- the set, with the peers that are left, is what all of them make
abbrev pub invariant-loop-peer : goal.invariant-loop-peer
invariant-loop-peer g l =
    fold (insert_key g.P.Ord.cmp) l.set.keys (into_iter_items l.peer-iterator) ≡ set_of g.P.Ord.cmp l.fn.peers.items
