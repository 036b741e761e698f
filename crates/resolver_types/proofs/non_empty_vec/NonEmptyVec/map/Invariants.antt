use Rattle.std.proofs.Common.{◌≤◌, ◌≡◌, drop, length}
use denote.Param.Always.{always_mut}
use Rattle.std.specs.Vec.{vec_len, vec_capacity}
use Rattle.resolver_types.specs.Mapped.{lending}
use Rattle.resolver_types.proofs.MappedInPart.{Completes}
use Rattle.resolver_types.proofs.non_empty_vec.NonEmptyVec.map.Given as goal

abbrev pub invariant-loop-item : goal.invariant-loop-item
invariant-loop-item g l = record {
  callable : always_mut g.F.FnMut l.f;
  count : vec_len l.answers ≡ l.item-index;
  room : length l.self ≤ vec_capacity l.answers;
  completes : Completes (lending (goal.F-step g)) l.initial.f l.self l.f (drop l.item-index l.self) l.answers.items;
}
