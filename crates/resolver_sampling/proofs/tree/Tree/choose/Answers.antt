use Rattle.std.proofs.Common.{◌≡◌, ◌+◌, ◌*◌, ◌^◌, ◌≤◌, slice_index, arith, sym}
use Rattle.resolver_sampling.proofs.Powers.{power-next, power-within}
use Rattle.resolver_sampling.proofs.SumSteps.{Descends, descends-root, descends-left, descends-right, descends-chosen, left-stored}
use Rattle.resolver_sampling.proofs.tree.Tree.choose.Goals as goal
use Rattle.resolver_sampling.proofs.tree.Tree.choose.Goals.{then-rest-left, else-rest-left}

pub loop-level-init : goal.loop-level-init
loop-level-init c = record {
  descends = descends-root c.self.inside.shape.depth c.self.inside.shape.leaves c.self.inside.nodes c.args.number
      c.self.invariant.summed c.self.invariant.shape.power c.self.invariant.shape.room (rw c.self.view_is c.requires);
  visits = omega arith;
}

pub overflow_mul-node : goal.overflow_mul-node
overflow_mul-node c =
    let within : 2 ^ c.loop-level._level + 2 ^ c.loop-level._level ≤ c.self.inside.shape.leaves =
    rw c.self.invariant.shape.power (power-within c.loop-level._level c.self.inside.shape.depth c.loop-level-test.true) in
    omega (arith, within, c.loop-level.invariant.descends.below, c.self.invariant.shape.small)

pub read-left-requires : goal.read-left-requires
read-left-requires c =
    let within : 2 ^ c.loop-level._level + 2 ^ c.loop-level._level ≤ c.self.inside.shape.leaves =
    rw c.self.invariant.shape.power (power-within c.loop-level._level c.self.inside.shape.depth c.loop-level-test.true) in
    omega (arith, left-stored c.self.inside.shape.leaves c.self.inside.nodes (2 ^ c.loop-level._level) c.loop-level.node c.loop-level.rest c.args.number c.self.invariant.summed c.loop-level.invariant.descends within)

pub overflow_add-node : goal.overflow_add-node
overflow_add-node c =
    let within : 2 ^ c.loop-level._level + 2 ^ c.loop-level._level ≤ c.self.inside.shape.leaves =
    rw c.self.invariant.shape.power (power-within c.loop-level._level c.self.inside.shape.depth c.loop-level-test.true) in
    omega (arith, within, c.loop-level.invariant.descends.below, c.self.invariant.shape.small)

pub loop-level-preserved : goal.loop-level-preserved
loop-level-preserved c =
    let within : 2 ^ c.loop-level._level + 2 ^ c.loop-level._level ≤ c.self.inside.shape.leaves =
    rw c.self.invariant.shape.power (power-within c.loop-level._level c.self.inside.shape.depth c.loop-level-test.true) in
    let twice : 2 ^ (c.loop-level._level + 1) ≡ 2 * 2 ^ c.loop-level._level = omega (arith, power-next c.loop-level._level) in
    let double : c.loop-level.node * 2 ≡ 2 * c.loop-level.node = omega arith in
    let read : c.read-left.result ≡ slice_index c.self.inside.nodes (2 * c.loop-level.node) = rw (← double) c.read-left.ensures.value in
    record {
      descends = elim c.if-rest-left.branch [
        | then-rest-left w ↦
            rw (twice, w.node-is, w.rest-is, double, read)
            (descends-right c.self.inside.shape.leaves c.self.inside.nodes (2 ^ c.loop-level._level) c.loop-level.node c.loop-level.rest c.args.number c.self.invariant.summed c.loop-level.invariant.descends within (omega (arith, read, w.if-rest-left.true)))
        | else-rest-left w ↦
            rw (twice, w.node-is, w.rest-is, double)
            (descends-left c.self.inside.shape.leaves c.self.inside.nodes (2 ^ c.loop-level._level) c.loop-level.node c.loop-level.rest c.args.number c.self.invariant.summed c.loop-level.invariant.descends within (omega (arith, read, w.if-rest-left.false)))
      ];
      visits = omega (arith, c.loop-level.invariant.visits, c.read-left.ensures.visit);
    }

pub returns-clause-place : goal.returns-clause-place
returns-clause-place c =
    let last : c.loop-level._level ≡ c.self.inside.shape.depth = omega arith in
    let first : 2 ^ c.loop-level._level ≡ c.self.inside.shape.leaves = rw last (sym c.self.invariant.shape.power) in
    let so : Descends c.self.inside.nodes c.self.inside.shape.leaves c.loop-level.node c.loop-level.rest c.args.number = rw first at c.loop-level.invariant.descends in
    rw (← c.self.view_is) (descends-chosen c.self.inside.shape.leaves c.self.inside.nodes c.loop-level.node c.loop-level.rest c.args.number so)
