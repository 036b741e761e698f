use Rattle.std.proofs.Common.{◌≡◌, ◌+◌, ◌≤◌, length}
use Rattle.std.specs.Vec.{vec_len, vec_capacity}
use Rattle.std.specs.Vec.Iter.{into_iter_items}
use Rattle.resolver_types.specs.Joined.{joined}
use Rattle.resolver_types.proofs.joining.join_few.Given as goal

-- There is room for those that are left, and joining them makes what all made, and none is lost.
abbrev pub invariant-loop-item : goal.invariant-loop-item
invariant-loop-item g l = record {
  room : vec_len l.list + length (into_iter_items l.item-iterator) ≤ vec_capacity l.list;
  makes : joined g.T.PartialEq.eq l.list.items (into_iter_items l.item-iterator) ≡ joined g.T.PartialEq.eq l.fn.list.items l.fn.more.items;
  grows : length l.fn.list.items ≤ length l.list.items;
}
