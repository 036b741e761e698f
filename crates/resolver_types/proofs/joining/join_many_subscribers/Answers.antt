use Rattle.std.proofs.Common.{◌≡◌, ◌∙◌, ap, sym, refl, length, rules, arith}
use Rattle.std.specs.Cmp.{Equal-is}
use Rattle.std.specs.Ordering.{is_eq}
use Rattle.std.specs.Vec.Iter.{into_iter_items}
use Rattle.resolver_types.proofs.Joins.{first-more, grows-more, indexed-new, indexed-there, joined-end, joined-new, joined-there, was, wasnt}
use Rattle.resolver_types.proofs.joining.join_many_subscribers.Goals as goal

pub loop-one-preserved-in-Ok-true : goal.loop-one-preserved-in-Ok-true
loop-one-preserved-in-Ok-true g c =
    let pushed = c.push_reserved.ensures.items in
    let steps = c.in-Some.ensures.steps.0 in
    let before = c.loop-one.invariant in
    let new = sym (before.indexed c.in-Some.one.0) ∙ wasnt _ _ c.in-Ok-true.ensures.new c.in-Ok-true.field-0-test in
    record {
      room = omega (arith, ap length steps, before.room, c.push_reserved.ensures.len, c.push_reserved.ensures.capacity);
      makes = joined-new (λ other one. is_eq (g.S.Ord.cmp one.0 other.0)) _ _ _ _ _ c.in-Some.one steps new pushed before.makes;
      indexed = λ s. indexed-new (λ other. is_eq (g.S.Ord.cmp s other.0)) _ _ c.in-Some.one _ _ (is_eq (g.S.Ord.cmp s c.in-Some.one.0)) pushed refl
          (before.indexed s) (c.in-Ok-true.ensures.after s);
      first = first-more _ _ _ _ c.in-Some.one pushed before.counted before.grows before.first;
      counted = before.counted;
      grows = grows-more _ _ _ c.in-Some.one pushed before.grows;
    }

pub loop-one-preserved : goal.loop-one-preserved
loop-one-preserved g c =
    let steps = c.in-Some.ensures.steps.0 in
    let before = c.loop-one.invariant in
    let there = sym (before.indexed c.in-Some.one.0) ∙ was _ _ c.in-Ok-false.ensures.new c.in-Ok-false.field-0-test in
    record {
      room = omega (arith, ap length steps, before.room);
      makes = joined-there (λ other one. is_eq (g.S.Ord.cmp one.0 other.0)) _ _ _ _ c.in-Some.one steps there before.makes;
      indexed = λ s. indexed-there (λ other. is_eq (g.S.Ord.cmp s other.0)) (λ other. is_eq (g.S.Ord.cmp c.in-Some.one.0 other.0)) _ _ _ (is_eq (g.S.Ord.cmp s c.in-Some.one.0))
          (λ is other. ap is_eq (g.met.S.Ord.total.congr s c.in-Some.one.0 other.0 ((Equal-is (g.S.Ord.cmp s c.in-Some.one.0)).0 is)))
          there (before.indexed s) (c.in-Ok-false.ensures.after s);
      first = before.first;
      counted = before.counted;
      grows = before.grows;
    }

pub returns : goal.returns
returns g c =
    let none : length (into_iter_items c.loop-one.one-iterator) ≡ 0 = search rules in
    record {
      ok = joined-end (λ other one. is_eq (g.S.Ord.cmp one.0 other.0)) _ _ _ none c.loop-one.invariant.makes;
      err = tt;
      grows = c.loop-one.invariant.grows;
    }

pub returns-in-Err : goal.returns-in-Err
returns-in-Err g c =
    let back = c.truncate.ensures.items ∙ c.loop-one.invariant.first in
    record { ok = tt; err = back; grows = omega (arith, ap length back) }
