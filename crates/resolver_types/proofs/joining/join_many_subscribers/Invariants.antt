use Rattle.std.proofs.Common.{◌≡◌, ◌+◌, ◌≤◌, length, take}
use Rattle.std.specs.BTreeSet.{contains}
use Rattle.std.specs.Vec.{vec_len, vec_capacity}
use Rattle.std.specs.Vec.Iter.{into_iter_items}
use Rattle.resolver_types.specs.Subscribers.{is_among, joined_subscribers}
use Rattle.resolver_types.proofs.joining.join_many_subscribers.Given as goal

-- There is room for those that are left, joining them makes what all made, the index has those
-- that are there, and those that were there first come first.
abbrev pub invariant-loop-one : goal.invariant-loop-one
invariant-loop-one g l = record {
  room : vec_len l.list + length (into_iter_items l.one-iterator) ≤ vec_capacity l.list;
  makes : joined_subscribers g.S.Ord.cmp l.list.items (into_iter_items l.one-iterator) ≡ joined_subscribers g.S.Ord.cmp l.fn.list.items l.fn.more.items;
  indexed : (s : _) → contains g.S.Ord.cmp l.index s ≡ is_among g.S.Ord.cmp l.list.items s;
  first : take l.count l.list.items ≡ l.fn.list.items;
  counted : l.count ≡ length l.fn.list.items;
  grows : length l.fn.list.items ≤ length l.list.items;
}
