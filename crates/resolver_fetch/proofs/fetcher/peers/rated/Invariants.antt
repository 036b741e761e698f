use Rattle.std.proofs.Common.{◌≡◌, fold}
use Rattle.std.specs.BTreeMap.{insert_entry}
use Rattle.std.specs.Vec.Iter.{into_iter_items}
use Rattle.resolver_fetch_scan.specs.Peers.{averages_in, replaced}
use Rattle.resolver_fetch.proofs.fetcher.peers.rated.Given as goal

-- the set, with the peers that are left, is what all of them make
abbrev pub invariant-loop-peer : goal.invariant-loop-peer
invariant-loop-peer g l =
    fold (λ set peer. insert_entry g.P.Ord.cmp set peer (averages_in g.P.Ord.cmp l.old.entries peer)) l.set.entries (into_iter_items l.peer-iterator)
    ≡ replaced g.P.Ord.cmp l.old.entries l.fn.peers.items
