use Rattle.std.proofs.Common.{◌≡◌, ◌∙◌, true, false, ap, sym, length, rules, arith}
use Rattle.std.specs.List.{list_any}
use Rattle.std.specs.Vec.Iter.{into_iter_items}
use Rattle.resolver_types.proofs.Joins.{grows-more, joined-end, joined-new, joined-there}
use Rattle.resolver_types.proofs.joining.join_few.Goals as goal

pub loop-item-preserved-then-not-has : goal.loop-item-preserved-then-not-has
loop-item-preserved-then-not-has g c =
    let pushed = c.push_reserved.ensures.items in
    let steps = c.in-Some.ensures.steps.0 in
    let before = c.loop-item.invariant in
    let new : list_any (λ other. g.T.PartialEq.eq other c.in-Some.item) c.loop-item.list.items ≡ false
    = ap (list_any (λ other. g.T.PartialEq.eq other c.in-Some.item)) (sym c.deref.ensures.value) ∙ sym c.has.ensures ∙ c.if-not-has.true in
    record {
      room = omega (arith, ap length steps, before.room, c.push_reserved.ensures.len, c.push_reserved.ensures.capacity);
      makes = joined-new g.T.PartialEq.eq _ _ _ _ _ c.in-Some.item steps new pushed before.makes;
      grows = grows-more _ _ _ c.in-Some.item pushed before.grows;
    }

pub loop-item-preserved : goal.loop-item-preserved
loop-item-preserved g c =
    let steps = c.in-Some.ensures.steps.0 in
    let before = c.loop-item.invariant in
    let there : list_any (λ other. g.T.PartialEq.eq other c.in-Some.item) c.loop-item.list.items ≡ true = search rules in
    record {
      room = omega (arith, ap length steps, before.room);
      makes = joined-there g.T.PartialEq.eq _ _ _ _ c.in-Some.item steps there before.makes;
      grows = before.grows;
    }

pub returns : goal.returns
returns g c =
    let none : length (into_iter_items c.loop-item.item-iterator) ≡ 0 = search rules in
    record { joined = joined-end g.T.PartialEq.eq _ _ _ none c.loop-item.invariant.makes; grows = c.loop-item.invariant.grows }
