use Rattle.std.proofs.Common.{◌≡◌, ◌∙◌, ◌+◌, sym, ap, cond, not, ◌∷◌, ◌++◌, drop, rules}
use Rattle.std.proofs.lemmas.List.{drop_more}
use Rattle.resolver_types.specs.Subscribers.{without}
use Rattle.resolver_demand.proofs.Copied.{one-more}
use Rattle.resolver_demand.proofs.subscribers.few.without.Goals as goal
use Rattle.resolver_demand.proofs.subscribers.few.without.Goals.{then-not-has+in_ok-clone+in_ok-push, else-not-has}

pub loop-one-preserved : goal.loop-one-preserved
loop-one-preserved g c =
    let named = c.args.named.now.list.now in
    let one = c.one-item.result in
    let left = without g.S.Ord.cmp named (drop (c.loop-one.one-index + 1) c.args.list.now) in
    let next : drop c.loop-one.one-index c.args.list.now ≡ one ∷ drop (c.loop-one.one-index + 1) c.args.list.now
    = drop_more c.args.list.now c.loop-one.one-index one c.loop-one-test.true ∙ ap (λ x. x ∷ drop (c.loop-one.one-index + 1) c.args.list.now) (sym c.one-item.is) in
    let steps = ap (without g.S.Ord.cmp named) next in
    elim c.if-not-has.branch [
      | then-not-has+in_ok-clone+in_ok-push w ↦
          let same : w.in_ok-clone.field-0 ≡ one = search rules in
          one-more c.loop-one.rest.items c.if-not-has.rest.items (without g.S.Ord.cmp named (drop c.loop-one.one-index c.args.list.now)) left (without g.S.Ord.cmp named c.args.list.now)
          one w.in_ok-clone.field-0 (ap (λ rest. rest.items) w.rest-is ∙ w.in_ok-push.ensures.items) same
          (steps ∙ ap (λ among. cond (not among) (one ∷ left) left) (sym c.has.ensures ∙ w.if-not-has.true)) c.loop-one.invariant
      | else-not-has w ↦
          ap (λ rest. rest.items ++ left) w.rest-is
          ∙ ap (λ left. c.loop-one.rest.items ++ left) (sym (steps ∙ ap (λ among. cond (not among) (one ∷ left) left) (sym c.has.ensures ∙ w.if-not-has.false)))
          ∙ c.loop-one.invariant
    ]
