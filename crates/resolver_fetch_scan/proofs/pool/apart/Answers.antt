use Rattle.std.proofs.Common.{◌≡◌, ◌++◌, ◌∙◌, [], ◌∷◌, ap, sym, append_assoc, append-nil, arith, List, ℕ}
use Rattle.std.proofs.lemmas.List.{nil_from_length}
use Rattle.std.specs.Map.{keys_of}
use Rattle.std.specs.Vec.Iter.{into_iter_items}
use Rattle.resolver_fetch_scan.specs.Trying.{weights_of}
use Rattle.resolver_fetch_scan.proofs.pool.apart.Goals as goal

pub loop-peer-init : goal.loop-peer-init
loop-peer-init g c =
    let given : into_iter_items c.into_iter-peer-iterator.result ≡ c.args.peers.items = c.into_iter-peer-iterator.ensures.into_iter_gives.0 in
    record {
      names = rw c.in_ok-names.ensures.items (ap (λ (ps : List (g.row.P.Denot × ℕ)). keys_of ps) given);
      weights = rw c.in_ok-weights.ensures.items (ap (λ (ps : List (g.row.P.Denot × ℕ)). weights_of ps) given);
    }

pub loop-peer-preserved : goal.loop-peer-preserved
loop-peer-preserved g c =
    let rest = into_iter_items c.next.new.self in
    let steps = c.in-Some.ensures.steps.0 in
    record {
      names =
          rw c.in_ok-push.ensures.items
          (append_assoc c.loop-peer.names.items (c.in-Some.peer ∷ []) (keys_of rest)
          ∙ ap (λ (ps : List (g.row.P.Denot × ℕ)). c.loop-peer.names.items ++ keys_of ps) (sym steps)
          ∙ c.loop-peer.invariant.names);
      weights =
          rw c.in_ok-push-2.ensures.items
          (append_assoc c.loop-peer.weights.items (c.in-Some.weight ∷ []) (weights_of rest)
          ∙ ap (λ (ps : List (g.row.P.Denot × ℕ)). c.loop-peer.weights.items ++ weights_of ps) (sym steps)
          ∙ c.loop-peer.invariant.weights);
    }

pub returns-clause-names : goal.returns-clause-names
returns-clause-names g c =
    let none : into_iter_items c.loop-peer.peer-iterator ≡ [] = nil_from_length _ (omega (arith, c.in-None.ensures.steps)) in
    sym (append-nil c.loop-peer.names.items) ∙ rw none at c.loop-peer.invariant.names

pub returns-clause-weights : goal.returns-clause-weights
returns-clause-weights g c =
    let none : into_iter_items c.loop-peer.peer-iterator ≡ [] = nil_from_length _ (omega (arith, c.in-None.ensures.steps)) in
    sym (append-nil c.loop-peer.weights.items) ∙ rw none at c.loop-peer.invariant.weights
