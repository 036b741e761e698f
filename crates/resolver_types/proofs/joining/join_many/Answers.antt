use Rattle.std.proofs.Common.{◌≡◌, ◌∙◌, ap, sym, length, rules, arith}
use Rattle.std.proofs.lemmas.Cmp.{alike_right, eq_by_cmp_equiv}
use Rattle.std.specs.Cmp.{Equal-is}
use Rattle.std.specs.Ordering.{is_eq}
use Rattle.std.specs.Vec.Iter.{into_iter_items}
use Rattle.resolver_types.proofs.Joins.{first-more, grows-more, indexed-new, indexed-there, joined-end, joined-new, joined-there, was, wasnt}
use Rattle.resolver_types.proofs.joining.join_many.Goals as goal

pub loop-item-preserved-in-Ok-true : goal.loop-item-preserved-in-Ok-true
loop-item-preserved-in-Ok-true g c =
    let pushed = c.push_reserved.ensures.items in
    let steps = c.in-Some.ensures.steps.0 in
    let before = c.loop-item.invariant in
    let new = sym (before.indexed c.in-Some.item) ∙ wasnt _ _ c.in-Ok-true.ensures.new c.in-Ok-true.field-0-test in
    record {
      room = omega (arith, ap length steps, before.room, c.push_reserved.ensures.len, c.push_reserved.ensures.capacity);
      makes = joined-new g.T.PartialEq.eq _ _ _ _ _ c.in-Some.item steps new pushed before.makes;
      indexed = λ x. indexed-new (λ other. g.T.PartialEq.eq other x) _ _ c.in-Some.item _ _ _ pushed
          (g.met.T.Ord.matches_eq c.in-Some.item x ∙ (eq_by_cmp_equiv g.met.T.Ord.total).symm c.in-Some.item x)
          (before.indexed x) (c.in-Ok-true.ensures.after x);
      first = first-more _ _ _ _ c.in-Some.item pushed before.counted before.grows before.first;
      counted = before.counted;
      grows = grows-more _ _ _ c.in-Some.item pushed before.grows;
    }

pub loop-item-preserved : goal.loop-item-preserved
loop-item-preserved g c =
    let steps = c.in-Some.ensures.steps.0 in
    let before = c.loop-item.invariant in
    let there = sym (before.indexed c.in-Some.item) ∙ was _ _ c.in-Ok-false.ensures.new c.in-Ok-false.field-0-test in
    record {
      room = omega (arith, ap length steps, before.room);
      makes = joined-there g.T.PartialEq.eq _ _ _ _ c.in-Some.item steps there before.makes;
      indexed = λ x. indexed-there (λ other. g.T.PartialEq.eq other x) (λ other. g.T.PartialEq.eq other c.in-Some.item) _ _ _ (is_eq (g.T.Ord.cmp x c.in-Some.item))
          (λ is other. g.met.T.Ord.matches_eq other x
          ∙ ap is_eq (alike_right g.met.T.Ord.total x c.in-Some.item other ((Equal-is (g.T.Ord.cmp x c.in-Some.item)).0 is))
          ∙ sym (g.met.T.Ord.matches_eq other c.in-Some.item))
          there (before.indexed x) (c.in-Ok-false.ensures.after x);
      first = before.first;
      counted = before.counted;
      grows = before.grows;
    }

pub returns : goal.returns
returns g c =
    let none : length (into_iter_items c.loop-item.item-iterator) ≡ 0 = search rules in
    record {
      ok = joined-end g.T.PartialEq.eq _ _ _ none c.loop-item.invariant.makes;
      err = tt;
      grows = c.loop-item.invariant.grows;
    }

pub returns-in-Err : goal.returns-in-Err
returns-in-Err g c =
    let back = c.truncate.ensures.items ∙ c.loop-item.invariant.first in
    record { ok = tt; err = back; grows = omega (arith, ap length back) }
