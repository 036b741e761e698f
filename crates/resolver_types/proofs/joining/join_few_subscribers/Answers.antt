use Rattle.std.proofs.Common.{◌≡◌, ◌∙◌, true, false, ap, sym, length, rules, arith}
use Rattle.std.specs.List.{list_any}
use Rattle.std.specs.Ordering.{is_eq}
use Rattle.std.specs.Vec.Iter.{into_iter_items}
use Rattle.resolver_types.proofs.Joins.{grows-more, joined-end, joined-new, joined-there}
use Rattle.resolver_types.proofs.joining.join_few_subscribers.Goals as goal

pub loop-one-preserved-then-not-is_listed : goal.loop-one-preserved-then-not-is_listed
loop-one-preserved-then-not-is_listed g c =
    let pushed = c.push_reserved.ensures.items in
    let steps = c.in-Some.ensures.steps.0 in
    let before = c.loop-one.invariant in
    let new : list_any (λ other. is_eq (g.S.Ord.cmp c.in-Some.one.0 other.0)) c.loop-one.list.items ≡ false
    = ap (list_any (λ other. is_eq (g.S.Ord.cmp c.in-Some.one.0 other.0))) (sym c.deref.ensures.value) ∙ sym c.is_listed.ensures ∙ c.if-not-is_listed.true in
    record {
      room = omega (arith, ap length steps, before.room, c.push_reserved.ensures.len, c.push_reserved.ensures.capacity);
      makes = joined-new (λ other one. is_eq (g.S.Ord.cmp one.0 other.0)) _ _ _ _ _ c.in-Some.one steps new pushed before.makes;
      grows = grows-more _ _ _ c.in-Some.one pushed before.grows;
    }

pub loop-one-preserved : goal.loop-one-preserved
loop-one-preserved g c =
    let steps = c.in-Some.ensures.steps.0 in
    let before = c.loop-one.invariant in
    let there : list_any (λ other. is_eq (g.S.Ord.cmp c.in-Some.one.0 other.0)) c.loop-one.list.items ≡ true = search rules in
    record {
      room = omega (arith, ap length steps, before.room);
      makes = joined-there (λ other one. is_eq (g.S.Ord.cmp one.0 other.0)) _ _ _ _ c.in-Some.one steps there before.makes;
      grows = before.grows;
    }

pub returns : goal.returns
returns g c =
    let none : length (into_iter_items c.loop-one.one-iterator) ≡ 0 = search rules in
    record { joined = joined-end (λ other one. is_eq (g.S.Ord.cmp one.0 other.0)) _ _ _ none c.loop-one.invariant.makes; grows = c.loop-one.invariant.grows }
