use Rattle.std.proofs.Common.{◌≡◌}
use Rattle.std.specs.Vec.Iter.{into_iter_items}
use Rattle.resolver_fetch_scan.specs.Peers.{with_targets}
use Rattle.resolver_fetch_scan.proofs.targets.Targets.join.Given as goal

-- Joining those that are left makes what all made.
abbrev pub invariant-loop-peer : goal.invariant-loop-peer
invariant-loop-peer g l = with_targets g.P.Ord.cmp l.all (into_iter_items l.peer-iterator) ≡ with_targets g.P.Ord.cmp l.fn.self l.fn.peers.items
