use Rattle.std.proofs.Common.{◌≡◌, ◌+◌, ◌≤◌, length}
use Rattle.std.specs.Vec.{vec_len, vec_capacity}
use Rattle.std.specs.Vec.Iter.{into_iter_items}
use Rattle.resolver_types.specs.Subscribers.{joined_subscribers}
use Rattle.resolver_types.proofs.joining.join_few_subscribers.Given as goal

-- There is room for those that are left, and joining them makes what all made, and none is lost.
abbrev pub invariant-loop-one : goal.invariant-loop-one
invariant-loop-one g l = record {
  room : vec_len l.list + length (into_iter_items l.one-iterator) ≤ vec_capacity l.list;
  makes : joined_subscribers g.S.Ord.cmp l.list.items (into_iter_items l.one-iterator) ≡ joined_subscribers g.S.Ord.cmp l.fn.list.items l.fn.more.items;
  grows : length l.fn.list.items ≤ length l.list.items;
}
