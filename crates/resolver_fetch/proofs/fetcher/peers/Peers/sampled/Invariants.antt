use Rattle.std.proofs.Common.{◌≡◌, ◌++◌}
use Rattle.resolver_fetch_scan.specs.Known.{known_by, may_be_asked}
use Rattle.resolver_fetch_scan.specs.Trying.{sampled}
use Rattle.resolver_fetch.proofs.Refitting.{samples}
use Rattle.resolver_fetch.proofs.fetcher.peers.Peers.sampled.Given as goal

-- The peers so far, with those of the rest, are those of all.
abbrev pub invariant-loop-peer : goal.invariant-loop-peer
invariant-loop-peer g l =
    l.peers.items ++ samples (may_be_asked g.P.Ord.cmp (known_by g.P.Ord.cmp l.fn.self)) l.peer-iterator
    ≡ sampled g.P.Ord.cmp (known_by g.P.Ord.cmp l.fn.self)
