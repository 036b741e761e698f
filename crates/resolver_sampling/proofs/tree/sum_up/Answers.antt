use Rattle.std.proofs.Common.{◌≡◌, ◌+◌, ◌-◌, ◌*◌, ◌≤◌, ℕ, drop, slice_index, arith}
use Rattle.std.specs.Prelude.{sum}
use Rattle.resolver_sampling.proofs.SumTrees.{IsSummedFrom, frontier-fits, summed-more}
use Rattle.resolver_sampling.proofs.tree.sum_up.Goals as goal

pub overflow_add-sum : goal.overflow_add-sum
overflow_add-sum c =
    let q : ℕ = c.loop-node.node - 1 in
    let back : c.loop-node.node ≡ q + 1 = omega (arith, c.loop-node-test.true) in
    let so : IsSummedFrom (q + 1) c.args.leaves c.args.nodes.now.items c.loop-node.nodes.items = rw (← back) c.loop-node.invariant in
    let fits : slice_index c.loop-node.nodes.items (2 * q) + slice_index c.loop-node.nodes.items (2 * q + 1) ≤ sum (drop c.args.leaves c.args.nodes.now.items) =
    frontier-fits c.args.leaves q c.args.nodes.now.items c.loop-node.nodes.items so (omega (arith, c.loop-node-test.true)) in
    omega (arith, fits, c.requires.fits, rw c.deref.ensures.value at c.number_at.ensures, rw c.deref-in-loop-node.ensures.value at c.number_at-in-loop-node.ensures)

pub loop-node-preserved : goal.loop-node-preserved
loop-node-preserved c =
    let q : ℕ = c.loop-node.node - 1 in
    let back : c.loop-node.node ≡ q + 1 = omega (arith, c.loop-node-test.true) in
    let so : IsSummedFrom (q + 1) c.args.leaves c.args.nodes.now.items c.loop-node.nodes.items = rw (← back) c.loop-node.invariant in
    summed-more c.args.leaves q (c.number_at.result + c.number_at-in-loop-node.result) c.args.nodes.now.items c.loop-node.nodes.items so (omega (arith, c.loop-node-test.true)) c.requires.stored
    (omega (arith, rw c.deref.ensures.value at c.number_at.ensures, rw c.deref-in-loop-node.ensures.value at c.number_at-in-loop-node.ensures))
