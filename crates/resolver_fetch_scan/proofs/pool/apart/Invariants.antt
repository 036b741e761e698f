use Rattle.std.proofs.Common.{◌≡◌, ◌++◌}
use Rattle.std.specs.Map.{keys_of}
use Rattle.std.specs.Vec.Iter.{into_iter_items}
use Rattle.resolver_fetch_scan.specs.Trying.{weights_of}
use Rattle.resolver_fetch_scan.proofs.pool.apart.Given as goal

-- The names and the weights so far, with those of the peers that are left, are those of all.
abbrev pub invariant-loop-peer : goal.invariant-loop-peer
invariant-loop-peer g l = record {
  names : l.names.items ++ keys_of (into_iter_items l.peer-iterator) ≡ keys_of l.fn.peers.items;
  weights : l.weights.items ++ weights_of (into_iter_items l.peer-iterator) ≡ weights_of l.fn.peers.items;
}
