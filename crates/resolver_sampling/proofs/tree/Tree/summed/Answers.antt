use Rattle.std.proofs.Common.{◌≤◌, ◌^◌, length, drop, arith}
use Rattle.std.proofs.lemmas.List.{length-drop}
use Rattle.resolver_sampling.proofs.SumSteps.{weights-fit}
use Rattle.resolver_sampling.proofs.tree.Tree.summed.Goals as goal

pub sum_up-requires-clause-fits : goal.sum_up-requires-clause-fits
sum_up-requires-clause-fits c =
    let few : length (drop c.args.shape.leaves c.args.nodes.items) ≤ 2 ^ 63 =
    omega (arith, length-drop c.args.shape.leaves c.args.nodes.items, c.requires.shape.room, c.requires.shape.small) in
    omega (arith, few, weights-fit (drop c.args.shape.leaves c.args.nodes.items) c.requires.weights)
