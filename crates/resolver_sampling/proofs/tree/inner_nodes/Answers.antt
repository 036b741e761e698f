use Rattle.std.proofs.Common.{◌≡◌, ◌∙◌, ℕ, ap, ◌∷◌, ◌++◌, [], length, replicate, arith}
use Rattle.std.proofs.lemmas.List.{length-replicate, replicate_more}
use Rattle.resolver_sampling.proofs.tree.inner_nodes.Goals as goal

pub loop-node-init : goal.loop-node-init
loop-node-init c = record { zeros = c.in_ok-nodes.ensures.items; room = c.in_ok-nodes.ensures.capacity }

pub push_reserved-requires : goal.push_reserved-requires
push_reserved-requires c =
    omega (arith, c.loop-node-test.true, c.loop-node.invariant.room, c.loop-node.nodes.ok.0, ap length c.loop-node.invariant.zeros, length-replicate {A = ℕ} c.loop-node._node 0)

pub loop-node-preserved : goal.loop-node-preserved
loop-node-preserved c = record {
  zeros = c.push_reserved.ensures.items ∙ ap (λ nodes. nodes ++ 0 ∷ []) c.loop-node.invariant.zeros ∙ replicate_more c.loop-node._node 0;
  room = omega (arith, c.loop-node.invariant.room, c.push_reserved.ensures.capacity);
}

pub returns : goal.returns
returns c =
    let all : c.loop-node._node ≡ c.args.shape.leaves = omega arith in
    record {
      ok = c.loop-node.invariant.zeros ∙ ap (λ count. replicate count 0) all;
      room = omega (arith, c.loop-node.invariant.room, all, c.loop-node.nodes.ok.0, ap length c.loop-node.invariant.zeros, length-replicate {A = ℕ} c.loop-node._node 0);
    }
