use Rattle.std.proofs.Common.{◌≡◌, ◌∙◌, ◌+◌, sym, ap, arith, rules, insert, length}
use Rattle.std.specs.Vec.{vec_len}
use Rattle.std.specs.Vec.Iter.{into_iter_items}
use Rattle.resolver_types.specs.Subscribers.{attached_all}
use Rattle.resolver_demand.proofs.subscribers.few.attach_all.Goals as goal

pub loop-one-preserved : goal.loop-one-preserved
loop-one-preserved g c = record {
  room = let one-less = ap length c.in-Some.ensures.steps.0 in omega (arith, one-less, c.loop-one.invariant.room);
  makes = let stays = rw c.as_slice.ensures.value at c.in_default.ensures in
      ap (λ ts. attached_all g.S.Ord.cmp ts (into_iter_items c.next.new.self)) (sym stays)
      ∙ ap (attached_all g.S.Ord.cmp c.loop-one.list.items) (sym c.in-Some.ensures.steps.0)
      ∙ c.loop-one.invariant.makes;
}

pub loop-one-preserved-in-Some-place_of : goal.loop-one-preserved-in-Some-place_of
loop-one-preserved-in-Some-place_of g c =
    let one-less = ap length c.in-Some.ensures.steps.0 in
    let put : c.insert.new.self.items ≡ insert c.loop-one.list.items c.in-Some-place_of.place c.in-Some.one = search rules in
    let longer : vec_len c.insert.new.self ≡ vec_len c.loop-one.list + 1 = search rules in
    let placed = rw c.as_slice.ensures.value at c.in-Some-place_of.ensures.1 in
    record {
      room = omega (arith, one-less, longer, c.loop-one.invariant.room, c.insert.ensures.capacity);
      makes = ap (λ ts. attached_all g.S.Ord.cmp ts (into_iter_items c.next.new.self)) (put ∙ sym placed)
          ∙ ap (attached_all g.S.Ord.cmp c.loop-one.list.items) (sym c.in-Some.ensures.steps.0)
          ∙ c.loop-one.invariant.makes;
    }
