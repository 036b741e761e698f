use Rattle.resolver_sampling.proofs.SumTrees.{IsSummedFrom}
use Rattle.resolver_sampling.proofs.tree.sum_up.Given as goal

abbrev pub decreases-loop-node : goal.decreases-loop-node
decreases-loop-node l = l.node

abbrev pub invariant-loop-node : goal.invariant-loop-node
invariant-loop-node l = IsSummedFrom l.node l.leaves l.initial.nodes.items l.nodes.items
