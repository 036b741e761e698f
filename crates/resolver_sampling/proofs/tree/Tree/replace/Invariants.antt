use Rattle.std.proofs.Common.{◌≡◌, ◌+◌, ◌-◌, ◌*◌, ◌^◌, ◌<◌, ◌≤◌, slice_set}
use Rattle.resolver_sampling.proofs.SumSteps.{Ascends}
use Rattle.resolver_sampling.proofs.tree.Tree.replace.Given as goal

-- the nodes were these before the leaf changed
abbrev pub invariant-loop-level : goal.invariant-loop-level
invariant-loop-level l = record {
  ascends : Ascends l.initial.self-inside.shape.leaves l.place l.less l.more
      (slice_set l.initial.self-inside.nodes l.initial.node l.less) l.self-inside.nodes l.node;
  from : 2 ^ (l._level-end - l._level) ≤ l.node;
  below : l.node < 2 * 2 ^ (l._level-end - l._level);
  visits : l.visits ≤ l.fn.visits + l._level + 1;
  shape : l.self-inside.shape ≡ l.initial.self-inside.shape;
  total : l.self-inside.total ≡ l.initial.self-inside.total;
}
