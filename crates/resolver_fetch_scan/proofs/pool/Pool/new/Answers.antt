use Rattle.std.proofs.Common.{◌<◌, ◌∙◌, ap, sym, length, ℕ}
use Rattle.std.proofs.lemmas.List.{length-map}
use Rattle.std.proofs.lemmas.List.Elements.{All-nil}
use Rattle.resolver_fetch_scan.specs.Trying.{weights_of}
use Rattle.resolver_fetch_scan.specs.Pools.{whole}
use Rattle.resolver_fetch_scan.proofs.Pools.{weighted-apart}
use Rattle.resolver_fetch_scan.proofs.pool.Pool.new.Goals as goal

pub invariant_of-result : goal.invariant_of-result
invariant_of-result g c =
    let weights = c.in_ok-weights.ensures.ok ∙ c.deref.ensures.value ∙ c.in_ok-names.ensures.weights in
    rw (c.in_ok-new.ensures.ok, c.in_ok-names.ensures.names, weights, c.new-2.ensures.items) (record {
      ordered = c.requires.ordered;
      many = length-map c.args.peers.items (λ p. p.0) ∙ sym (length-map c.args.peers.items (λ p. p.1));
      within = All-nil (λ (one : ℕ × ℕ). one.0 < length (weights_of c.args.peers.items));
    })

pub returns-clause-ok : goal.returns-clause-ok
returns-clause-ok g c =
    let weights = c.in_ok-weights.ensures.ok ∙ c.deref.ensures.value ∙ c.in_ok-names.ensures.weights in
    rw (c.in_ok-new.ensures.ok, c.in_ok-names.ensures.names, weights, c.new-2.ensures.items) (ap whole (weighted-apart c.args.peers.items))
