use Rattle.std.proofs.Common.{◌≡◌, ◌+◌, ◌≤◌, ◌++◌, length, replicate, take}
use Rattle.std.specs.Vec.{vec_len, vec_capacity}
use Rattle.resolver_sampling.proofs.tree.Tree.of_weights.Given as goal

abbrev pub invariant-loop-weight : goal.invariant-loop-weight
invariant-loop-weight l = record {
  so_far : l.nodes.items ≡ replicate l.shape.leaves 0 ++ take l.weight-index l.weights;
  room : vec_len l.nodes + length l.weights ≤ vec_capacity l.nodes + l.weight-index;
}
