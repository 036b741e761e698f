use Rattle.std.proofs.Common.{◌≡◌, ◌∙◌, sym, ap, true, rules}
use Rattle.std.proofs.lemmas.Fn.{filter_same}
use Rattle.resolver_types.specs.Subscribers.{keeps_any, all_kept}
use Rattle.resolver_types.proofs.KeepsAny.{some-left}
use Rattle.resolver_types.proofs.non_empty_vec.NonEmptyVec+tuple2+S+u64.retain_kept.Goals as goal

pub invariant_of-self : goal.invariant_of-self
invariant_of-self g c =
    let keep = g.Q.Predicate.keeps c.args.keep.now c.args.key.now in
    let is : c.retain.new.self.items ≡ all_kept keep c.self.inside.items.items = filter_same _ _ _ (λ x b f' t. search rules) _ _ c.retain.ensures.filtered in
    let some : keeps_any keep c.self.inside.items.items ≡ true = ap (keeps_any keep) c.self.view_is ∙ sym c.keeps_any-is_left.ensures ∙ c.if-is_left.true in
    rw is (some-left keep c.self.inside.items.items some)

pub returns-then-is_left-clause-after : goal.returns-then-is_left-clause-after
returns-then-is_left-clause-after g c =
    let keep = g.Q.Predicate.keeps c.args.keep.now c.args.key.now in
    let is : c.retain.new.self.items ≡ all_kept keep c.self.inside.items.items = filter_same _ _ _ (λ x b f' t. search rules) _ _ c.retain.ensures.filtered in
    rw c.if-is_left.true (is ∙ ap (all_kept keep) c.self.view_is)
