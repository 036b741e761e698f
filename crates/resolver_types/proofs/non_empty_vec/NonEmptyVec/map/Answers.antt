use Rattle.std.proofs.Common.{rules, of_calls, arith, slice_index_or, ◌≡◌, ◌∙◌, sym, ap, subst, refl, ◌∷◌, ◌<◌, ◌≤◌, ◌+◌, List, [], drop, length}
use Rattle.std.proofs.lemmas.List.{drop_more}
use Rattle.std.proofs.Math.ListN.{drop_of_length-le}
use Rattle.resolver_types.specs.Mapped.{lending}
use Rattle.resolver_types.proofs.MappedInPart.{Completes, Completes-more, Completes-end}
use Rattle.resolver_types.proofs.non_empty_vec.NonEmptyVec.map.Goals as goal

pub loop-item-preserved : goal.loop-item-preserved
loop-item-preserved g c =
    let items = c.args.self.now in
    let i = c.loop-item.item-index in
    let same : c.deref-item-items.result.now ≡ items = c.deref-item-items.ensures.value ∙ c.self.view_is in
    let below : i < length items = subst (λ l. i < length l) same c.loop-item-test.true in
    let item = c.item-item.result in
    let step : drop i items ≡ item ∷ drop (i + 1) items = drop_more items i item below ∙ ap (λ one. one ∷ drop (i + 1) items) (sym (subst (λ l. item ≡ slice_index_or l i item) same c.item-item.is)) in
    record {
      callable = search (rules, of_calls);
      count = search rules;
      room = search rules;
      completes =
          let before : Completes (lending (goal.F-step g)) c.args.f items c.loop-item.f (item ∷ drop (i + 1) items) c.loop-item.answers.items = subst (λ l. Completes (lending (goal.F-step g)) c.args.f items c.loop-item.f l c.loop-item.answers.items) step c.loop-item.invariant.completes in
          rw c.push_reserved.ensures.items (Completes-more (lending (goal.F-step g)) _ _ _ c.f.new.self _ _ _ c.f.result before (_, refl, c.f.ensures));
    }

pub returns-clause-ok : goal.returns-clause-ok
returns-clause-ok g c =
    let items = c.args.self.now in
    let same : c.deref-item-items.result.now ≡ items = c.deref-item-items.ensures.value ∙ c.self.view_is in
    let over : length items ≤ c.loop-item.item-index = subst (λ l. length l ≤ c.loop-item.item-index) same c.loop-item-test.false in
    let none : length (drop c.loop-item.item-index items) ≡ 0 = ap length (drop_of_length-le items over) in
    Completes-end (lending (goal.F-step g)) _ _ _ _ _ none c.loop-item.invariant.completes
