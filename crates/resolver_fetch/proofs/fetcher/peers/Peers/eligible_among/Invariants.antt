use Rattle.std.proofs.Common.{◌≡◌, ◌++◌, Some}
use Rattle.resolver_fetch_scan.specs.Known.{eligible, known_by}
use Rattle.resolver_fetch_scan.specs.Trying.{weighed}
use Rattle.resolver_fetch.proofs.Among.{among}
use Rattle.resolver_fetch.proofs.fetcher.peers.Peers.eligible_among.Given as goal

-- The peers so far, with those of the names that are left, are those of all.
abbrev pub invariant-loop-name : goal.invariant-loop-name
invariant-loop-name g l =
    l.peers.items ++ weighed (among g.P.Ord.cmp (known_by g.P.Ord.cmp l.fn.self) l.name-iterator)
    ≡ weighed (eligible g.P.Ord.cmp (known_by g.P.Ord.cmp l.fn.self) (Some l.fn.targets))
