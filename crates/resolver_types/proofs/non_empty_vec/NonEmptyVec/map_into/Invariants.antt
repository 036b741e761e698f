use Rattle.std.proofs.Common.{◌+◌, ◌≤◌, length}
use denote.Param.Always.{always_mut}
use Rattle.std.specs.Vec.{vec_len, vec_capacity}
use Rattle.std.specs.Vec.Iter.{into_iter_items}
use Rattle.resolver_types.proofs.MappedInPart.{Completes}
use Rattle.resolver_types.proofs.non_empty_vec.NonEmptyVec.map_into.Given as goal

abbrev pub invariant-loop-item : goal.invariant-loop-item
invariant-loop-item g l = record {
  next : (goal.iterator-loop-item g).can_next l.item-iterator;
  finite : (goal.iterator-loop-item g).is_finite l.item-iterator;
  callable : always_mut g.F.FnMut l.f;
  room : vec_len l.mapped + length (into_iter_items l.item-iterator) ≤ vec_capacity l.mapped;
  completes : Completes (goal.F-step g) l.initial.f l.fn.self l.f (into_iter_items l.item-iterator) l.mapped.items;
}
