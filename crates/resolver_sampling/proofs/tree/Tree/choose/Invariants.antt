use Rattle.std.proofs.Common.{◌+◌, ◌^◌, ◌≤◌}
use Rattle.resolver_sampling.proofs.SumSteps.{Descends}
use Rattle.resolver_sampling.proofs.tree.Tree.choose.Given as goal

abbrev pub invariant-loop-level : goal.invariant-loop-level
invariant-loop-level l = record {
  descends : Descends l.self-inside.nodes (2 ^ l._level) l.node l.rest l.number;
  visits : l.visits ≤ l.fn.visits + l._level;
}
