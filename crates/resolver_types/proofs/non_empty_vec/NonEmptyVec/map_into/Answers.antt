use Rattle.std.proofs.Common.{rules, of_calls, ◌≡◌, ◌∷◌, length, arith, ap}
use Rattle.std.specs.Vec.Iter.{into_iter_items}
use Rattle.resolver_types.proofs.MappedInPart.{Completes, Completes-more, Completes-end}
use Rattle.resolver_types.proofs.non_empty_vec.NonEmptyVec.map_into.Goals as goal

pub loop-item-preserved : goal.loop-item-preserved
loop-item-preserved g c = record {
  next = tt;
  finite = tt;
  callable = search (rules, of_calls);
  room = search rules;
  completes =
      let before : Completes (goal.F-step g) c.args.f c.args.self c.loop-item.f (c.in-Some.item ∷ into_iter_items c.next.new.self) c.loop-item.mapped.items = rw (← c.in-Some.ensures.steps.0) c.loop-item.invariant.completes in
      rw c.push_reserved.ensures.items (Completes-more (goal.F-step g) _ _ _ c.f.new.self _ _ _ c.f.result before c.f.ensures);
}

pub returns-clause-ok : goal.returns-clause-ok
returns-clause-ok g c =
    let none : length (into_iter_items c.loop-item.item-iterator) ≡ 0 = search rules in
    Completes-end (goal.F-step g) _ _ _ _ _ none c.loop-item.invariant.completes

pub invariant_of-result : goal.invariant_of-result
invariant_of-result g c =
    let none : length (into_iter_items c.loop-item.item-iterator) ≡ 0 = search rules in
    let mapped : length c.loop-item.mapped.items ≡ length c.args.self = (Completes-end (goal.F-step g) _ _ _ _ _ none c.loop-item.invariant.completes).0 in
    omega (arith, mapped, ap length c.self.view_is, c.self.invariant)
