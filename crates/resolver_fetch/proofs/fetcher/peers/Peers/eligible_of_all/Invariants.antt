use Rattle.std.proofs.Common.{◌≡◌, ◌++◌}
use Rattle.std.specs.Option.{option_copied}
use Rattle.resolver_fetch_scan.specs.Known.{eligible, known_by}
use Rattle.resolver_fetch_scan.specs.Trying.{weighed}
use Rattle.resolver_fetch.proofs.fetcher.peers.Peers.eligible_of_all.Given as goal

-- The peers so far, with those of the rest, are those of all.
abbrev pub invariant-loop-peer : goal.invariant-loop-peer
invariant-loop-peer g l =
    l.peers.items ++ weighed (eligible g.P.Ord.cmp (record (known_by g.P.Ord.cmp l.fn.self) { set = l.peer-iterator }) (option_copied l.fn.targets))
    ≡ weighed (eligible g.P.Ord.cmp (known_by g.P.Ord.cmp l.fn.self) (option_copied l.fn.targets))
