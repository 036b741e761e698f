use Rattle.std.proofs.Common.{◌+◌, ◌^◌, ◌<◌, arith}
use Rattle.resolver_sampling.proofs.Powers.{power-below, power-least, power-next}
use Rattle.resolver_sampling.proofs.tree.shape_of.Goals as goal

pub overflow_add-depth : goal.overflow_add-depth
overflow_add-depth c = omega (arith, c.loop-leaves.invariant.low 63 (omega (arith, c.if-count.false)))

pub loop-leaves-preserved : goal.loop-leaves-preserved
loop-leaves-preserved c =
    let less : 2 ^ c.loop-leaves.depth < 2 ^ 63 =
    omega (arith, c.loop-leaves.invariant.power, c.loop-leaves-test.true, c.if-count.false) in
    record {
      power = omega (arith, c.loop-leaves.invariant.power, power-next c.loop-leaves.depth);
      small = omega (arith, c.loop-leaves.invariant.power, power-next c.loop-leaves.depth, power-least (c.loop-leaves.depth + 1) 63 (omega (arith, power-below c.loop-leaves.depth 63 less)));
      low = λ digits below.
          let above : 2 ^ c.loop-leaves.depth < 2 ^ digits = omega (arith, below, c.loop-leaves.invariant.power, c.loop-leaves-test.true) in
          omega (arith, power-below c.loop-leaves.depth digits above);
    }
