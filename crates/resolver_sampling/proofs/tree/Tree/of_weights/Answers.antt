use Rattle.std.proofs.Common.{◌≡◌, ◌∙◌, ap, sym, ℕ, ◌+◌, ◌++◌, length, length-append, replicate, take, arith}
use Rattle.std.proofs.lemmas.List.{append-nil, length-replicate, take_all}
use Rattle.resolver_sampling.proofs.Leaves.{leaves-all, weight-more}
use Rattle.resolver_sampling.proofs.tree.Tree.of_weights.Goals as goal

pub loop-weight-init : goal.loop-weight-init
loop-weight-init c = record {
  so_far = c.in_ok-nodes.ensures.ok ∙ sym (append-nil (replicate c.in_ok-shape.shape.leaves 0));
  room = omega (arith, c.in_ok-nodes.ensures.room);
}

pub push_reserved-requires : goal.push_reserved-requires
push_reserved-requires c = omega (arith, c.loop-weight.invariant.room, c.loop-weight-test.true)

pub loop-weight-preserved : goal.loop-weight-preserved
loop-weight-preserved c = record {
  so_far = weight-more (replicate c.in_ok-shape.shape.leaves 0) c.loop-weight.nodes.items c.push_reserved.new.self.items c.args.weights.now c.loop-weight.weight-index c.from.result
      c.loop-weight-test.true c.from.ensures c.push_reserved.ensures.items c.loop-weight.invariant.so_far;
  room = omega (arith, c.loop-weight.invariant.room, c.push_reserved.ensures.len, c.push_reserved.ensures.capacity);
}

pub summed-requires-clause-shape : goal.summed-requires-clause-shape
summed-requires-clause-shape c =
    let are = c.loop-weight.invariant.so_far ∙ ap (λ leaves. replicate c.in_ok-shape.shape.leaves 0 ++ leaves) (take_all c.loop-weight.weight-index c.args.weights.now c.loop-weight-test.false) in
    let count : length c.loop-weight.nodes.items ≡ c.in_ok-shape.shape.leaves + length c.args.weights.now
    = omega (arith, ap length are, length-append (replicate c.in_ok-shape.shape.leaves 0) c.args.weights.now, length-replicate {A = ℕ} c.in_ok-shape.shape.leaves 0) in
    rw count c.in_ok-shape.ensures.ok

pub summed-requires-clause-weights : goal.summed-requires-clause-weights
summed-requires-clause-weights c =
    let are =
    leaves-all c.in_ok-shape.shape.leaves c.loop-weight.nodes.items (take c.loop-weight.weight-index c.args.weights.now) c.loop-weight.invariant.so_far
    ∙ take_all c.loop-weight.weight-index c.args.weights.now c.loop-weight-test.false in
    rw are (λ place. omega (arith, c.type_inv.weights place))

pub returns : goal.returns
returns c =
    c.summed.ensures
    ∙ leaves-all c.in_ok-shape.shape.leaves c.loop-weight.nodes.items (take c.loop-weight.weight-index c.args.weights.now) c.loop-weight.invariant.so_far
    ∙ take_all c.loop-weight.weight-index c.args.weights.now c.loop-weight-test.false
