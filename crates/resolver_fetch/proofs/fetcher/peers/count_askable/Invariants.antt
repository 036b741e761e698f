use Rattle.std.proofs.Common.{◌≡◌, ◌+◌, ◌<◌, ◌^◌, length}
use Rattle.resolver_fetch_scan.specs.Known.{askable, known_by}
use Rattle.resolver_fetch.proofs.fetcher.peers.count_askable.Given as goal

-- The count, with the peers that are left, is that of all.
abbrev pub invariant-loop-peer : goal.invariant-loop-peer
invariant-loop-peer g l = record {
  fits : l.count + length l.peer-iterator < 2 ^ 63;
  counts : l.count + askable g.P.Ord.cmp (known_by g.P.Ord.cmp (record { local = l.local; set = l.peer-iterator; blocked = l.blocked.keys; counts = l.load }))
      ≡ askable g.P.Ord.cmp (known_by g.P.Ord.cmp (record { local = l.local; set = l.set.entries; blocked = l.blocked.keys; counts = l.load }));
}
