use Rattle.std.proofs.Common.{◌≡◌, ◌∙◌, sym, ap, ◌+◌, ◌*◌, ◌/◌, ◌^◌, ◌<◌, ◌≤◌, ◌-◌, ℕ, List, length, drop, slice_index, slice_set, arith, refl}
use Rattle.std.proofs.lemmas.List.{set-set, set-get_or, get_or-drop, length-drop}
use Rattle.resolver_sampling.specs.SumTrees.{IsTree}
use Rattle.std.proofs.Math.Nat.{one-le-pow}
use Rattle.resolver_sampling.proofs.Powers.{power-next}
use Rattle.resolver_sampling.proofs.SumSteps.{Ascends, ascends-leaf, ascends-more, ascends-summed, parent-fits, parent-holds, root-fits, weights-set}
use Rattle.resolver_sampling.proofs.tree.Tree.replace.Goals as goal

-- a leaf set, and set back
set-back : (xs new : List ℕ) (i more less : ℕ) → new ≡ slice_set xs i more → less ≡ slice_index xs i → slice_set new i less ≡ xs
set-back xs new i more less is was = rw (is, was, set-set xs i more (slice_index xs i)) (set-get_or xs i 0)

pub loop-level-init : goal.loop-level-init
loop-level-init c =
    let asked : c.args.place < length (drop c.self.inside.shape.leaves c.self.inside.nodes) = rw c.self.view_is c.requires in
    let within : c.self.inside.shape.leaves + c.args.place < length c.self.inside.nodes =
    omega (arith, asked, length-drop c.self.inside.shape.leaves c.self.inside.nodes) in
    let back : slice_set c.replace-less.new.self (c.self.inside.shape.leaves + c.args.place) c.replace-less.result ≡ c.self.inside.nodes =
    set-back c.self.inside.nodes c.replace-less.new.self (c.self.inside.shape.leaves + c.args.place) c.from-more.result c.replace-less.result c.replace-less.ensures.set c.replace-less.ensures.was in
    let some : 0 < c.self.inside.shape.leaves = rw c.self.invariant.shape.power (one-le-pow c.self.inside.shape.depth 2 (omega arith)) in
    let fits : slice_index c.self.inside.nodes 1 - c.replace-less.result + c.from-more.result < 2 ^ 128 =
    rw c.replace-less.ensures.was
    (root-fits c.self.inside.shape.depth c.self.inside.shape.leaves c.args.place c.from-more.result c.self.inside.nodes c.self.invariant.summed c.self.invariant.shape.power c.self.invariant.shape.room within c.self.invariant.shape.small c.self.invariant.weights (omega arith)) in
    let whole : c.self.inside.shape.depth - 0 ≡ c.self.inside.shape.depth = omega arith in
    record {
      ascends = rw (back, c.replace-less.ensures.set)
          (ascends-leaf c.self.inside.shape.leaves c.args.place c.replace-less.result c.from-more.result c.self.inside.nodes c.self.invariant.summed some c.self.invariant.shape.room within fits c.replace-less.ensures.was);
      from = rw (whole, ← c.self.invariant.shape.power) (omega arith);
      below = rw (whole, ← c.self.invariant.shape.power) (omega (arith, c.self.invariant.shape.room, within));
      visits = omega (arith, c.replace-less.ensures.visit);
      shape = refl;
      total = refl;
    }

-- above a node that is not at the top
half-positive : (depth t node : ℕ) → t < depth → 2 ^ (depth - t) ≤ node → 0 < node / 2
half-positive depth t node below from =
    let more : depth - t ≡ depth - (t + 1) + 1 = omega (arith, below) in
    let twice : 2 ^ (depth - t) ≡ 2 ^ (depth - (t + 1)) * 2 = rw more (power-next (depth - (t + 1))) in
    omega (arith, from, twice, one-le-pow (depth - (t + 1)) 2 (omega arith))

half-within : (depth t node : ℕ) → t < depth → 2 ^ (depth - t) ≤ node → node < 2 * 2 ^ (depth - t)
    → (2 ^ (depth - (t + 1)) ≤ node / 2) × (node / 2 < 2 * 2 ^ (depth - (t + 1)))
half-within depth t node below from less =
    let more : depth - t ≡ depth - (t + 1) + 1 = omega (arith, below) in
    let twice : 2 ^ (depth - t) ≡ 2 ^ (depth - (t + 1)) * 2 = rw more (power-next (depth - (t + 1))) in
    (omega (arith, from, twice), omega (arith, less, twice))

pub shift-requires-clause-holds : goal.shift-requires-clause-holds
shift-requires-clause-holds c =
    let some : 0 < c.loop-level.node / 2 = half-positive c.self.inside.shape.depth c.loop-level._level c.loop-level.node c.loop-level-test.true c.loop-level.invariant.from in
    omega (arith, parent-holds _ _ _ _ _ _ _ c.loop-level.invariant.ascends some, c.loop-level.invariant.ascends.upper (c.loop-level.node / 2) (omega (arith, some)))

pub shift-requires-clause-fits : goal.shift-requires-clause-fits
shift-requires-clause-fits c =
    let some : 0 < c.loop-level.node / 2 = half-positive c.self.inside.shape.depth c.loop-level._level c.loop-level.node c.loop-level-test.true c.loop-level.invariant.from in
    parent-fits _ _ _ _ _ _ _ c.loop-level.invariant.ascends some

pub loop-level-preserved : goal.loop-level-preserved
loop-level-preserved c =
    let some : 0 < c.loop-level.node / 2 = half-positive c.self.inside.shape.depth c.loop-level._level c.loop-level.node c.loop-level-test.true c.loop-level.invariant.from in
    let within : (2 ^ (c.self.inside.shape.depth - (c.loop-level._level + 1)) ≤ c.loop-level.node / 2) × (c.loop-level.node / 2 < 2 * 2 ^ (c.self.inside.shape.depth - (c.loop-level._level + 1))) =
    half-within c.self.inside.shape.depth c.loop-level._level c.loop-level.node c.loop-level-test.true c.loop-level.invariant.from c.loop-level.invariant.below in
    record {
      ascends = rw c.shift.ensures.set (ascends-more _ _ _ _ _ _ _ _ c.loop-level.invariant.ascends some refl);
      from = within.0;
      below = within.1;
      visits = omega (arith, c.loop-level.invariant.visits, c.shift.ensures.visit);
      shape = c.loop-level.invariant.shape;
      total = c.loop-level.invariant.total;
    }

pub shift-requires-clause-within : goal.shift-requires-clause-within
shift-requires-clause-within c = omega (arith, c.loop-level.invariant.ascends.within, c.loop-level.invariant.ascends.stored, c.loop-level.invariant.ascends.same_length)

-- once all levels are through, the node is the top one
at-top : (c : goal.After-loop-level) → c.loop-level.node ≡ 1
at-top c =
    let none : c.self.inside.shape.depth - c.loop-level._level ≡ 0 = omega (arith, c.loop-level-test.false) in
    omega (arith, rw none at c.loop-level.invariant.from, rw none at c.loop-level.invariant.below)

-- the change has risen to this node, over the numbers that were there
risen : (c : goal.After-loop-level) → Ascends c.self.inside.shape.leaves c.args.place c.replace-less.result c.from-more.result c.self.inside.nodes c.loop-level.self-inside.nodes c.loop-level.node
risen c =
    let back : slice_set c.replace-less.new.self (c.self.inside.shape.leaves + c.args.place) c.replace-less.result ≡ c.self.inside.nodes =
    set-back c.self.inside.nodes c.replace-less.new.self (c.self.inside.shape.leaves + c.args.place) c.from-more.result c.replace-less.result c.replace-less.ensures.set c.replace-less.ensures.was in
    rw back at c.loop-level.invariant.ascends

pub overflow_sub-self : goal.overflow_sub-self
overflow_sub-self c = omega (arith, c.self.invariant.root, c.loop-level.invariant.total, rw (at-top c) at (risen c).held)

pub overflow_add-self : goal.overflow_add-self
overflow_add-self c = omega (arith, c.self.invariant.root, c.loop-level.invariant.total, (risen c).fits)

pub returns-clause-was : goal.returns-clause-was
returns-clause-was c =
    rw (← c.self.view_is) (c.replace-less.ensures.was ∙ sym (get_or-drop c.self.inside.shape.leaves c.self.inside.nodes c.args.place 0))

pub returns-clause-visits : goal.returns-clause-visits
returns-clause-visits c = λ digits few.
    let stored : length (drop c.self.inside.shape.leaves c.self.inside.nodes) < 2 ^ digits = rw c.self.view_is few in
    let low : c.self.inside.shape.depth ≤ digits =
    c.self.invariant.shape.low digits (omega (arith, stored, length-drop c.self.inside.shape.leaves c.self.inside.nodes)) in
    omega (arith, low, c.loop-level.invariant.visits, c.loop-level.auto._level-end)

pub overflow_cast-result : goal.overflow_cast-result
overflow_cast-result c =
    let was : slice_index (drop c.self.inside.shape.leaves c.self.inside.nodes) c.args.place ≡ c.replace-less.result =
    get_or-drop c.self.inside.shape.leaves c.self.inside.nodes c.args.place 0 ∙ sym c.replace-less.ensures.was in
    omega (arith, was, c.self.invariant.weights c.args.place)

-- the tree once the change is at the top
tree-after : (depth m place less more : ℕ) (old ns : List ℕ) (node was total : ℕ) → IsTree depth m old was → Ascends m place less more old ns node
    → node ≡ 1 → place < length (drop m old) → more < 2 ^ 64 → total ≡ was - less + more → IsTree depth m ns total
tree-after depth m place less more old ns node was total tree so top within fits is = record {
  shape = rw so.same_length tree.shape;
  summed = ascends-summed m place less more old ns node top so;
  weights = rw so.leaves (weights-set (drop m old) place more tree.weights within fits);
  root = omega (arith, is, tree.root, rw top at so.here, rw top at so.held);
}

pub invariant_of-self : goal.invariant_of-self
invariant_of-self c =
    let asked : c.args.place < length (drop c.self.inside.shape.leaves c.self.inside.nodes) = rw c.self.view_is c.requires in
    let last : c.loop-level._level ≡ c.self.inside.shape.depth = omega arith in
    let none : c.self.inside.shape.depth - c.loop-level._level ≡ 0 = omega (arith, last) in
    let top : c.loop-level.node ≡ 1 = omega (arith, rw none at c.loop-level.invariant.from, rw none at c.loop-level.invariant.below) in
    let back : slice_set c.replace-less.new.self (c.self.inside.shape.leaves + c.args.place) c.replace-less.result ≡ c.self.inside.nodes =
    set-back c.self.inside.nodes c.replace-less.new.self (c.self.inside.shape.leaves + c.args.place) c.from-more.result c.replace-less.result c.replace-less.ensures.set c.replace-less.ensures.was in
    let so : Ascends c.self.inside.shape.leaves c.args.place c.replace-less.result c.from-more.result c.self.inside.nodes c.loop-level.self-inside.nodes c.loop-level.node =
    rw back at c.loop-level.invariant.ascends in
    rw c.loop-level.invariant.shape
    (tree-after c.self.inside.shape.depth c.self.inside.shape.leaves c.args.place c.replace-less.result c.from-more.result c.self.inside.nodes c.loop-level.self-inside.nodes c.loop-level.node c.self.inside.total (c.loop-level.self-inside.total - c.replace-less.result + c.from-more.result) c.self.invariant so top asked (omega arith) (omega (arith, c.loop-level.invariant.total)))

pub returns-clause-set : goal.returns-clause-set
returns-clause-set c =
    let back : slice_set c.replace-less.new.self (c.self.inside.shape.leaves + c.args.place) c.replace-less.result ≡ c.self.inside.nodes =
    set-back c.self.inside.nodes c.replace-less.new.self (c.self.inside.shape.leaves + c.args.place) c.from-more.result c.replace-less.result c.replace-less.ensures.set c.replace-less.ensures.was in
    let so : Ascends c.self.inside.shape.leaves c.args.place c.replace-less.result c.from-more.result c.self.inside.nodes c.loop-level.self-inside.nodes c.loop-level.node =
    rw back at c.loop-level.invariant.ascends in
    rw (c.loop-level.invariant.shape, ← c.self.view_is) (so.leaves ∙ ap (slice_set (drop c.self.inside.shape.leaves c.self.inside.nodes) c.args.place) c.from-more.ensures)
