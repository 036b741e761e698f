use Rattle.std.proofs.Common.{◌≡◌, ◌+◌, ◌≤◌, replicate}
use Rattle.std.specs.Vec.{vec_capacity}
use Rattle.resolver_sampling.proofs.tree.inner_nodes.Given as goal

abbrev pub invariant-loop-node : goal.invariant-loop-node
invariant-loop-node l = record {
  zeros : l.nodes.items ≡ replicate l._node 0;
  room : l.fn.shape.leaves + l.fn.count ≤ vec_capacity l.nodes;
}
