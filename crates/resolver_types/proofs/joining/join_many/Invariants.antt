use Rattle.std.proofs.Common.{◌≡◌, ◌+◌, ◌≤◌, length, take}
use Rattle.std.specs.BTreeSet.{contains}
use Rattle.std.specs.List.{list_any}
use Rattle.std.specs.Vec.{vec_len, vec_capacity}
use Rattle.std.specs.Vec.Iter.{into_iter_items}
use Rattle.resolver_types.specs.Joined.{joined}
use Rattle.resolver_types.proofs.joining.join_many.Given as goal

-- There is room for those that are left, joining them makes what all made, the index has those
-- that are there, and those that were there first come first.
abbrev pub invariant-loop-item : goal.invariant-loop-item
invariant-loop-item g l = record {
  room : vec_len l.list + length (into_iter_items l.item-iterator) ≤ vec_capacity l.list;
  makes : joined g.T.PartialEq.eq l.list.items (into_iter_items l.item-iterator) ≡ joined g.T.PartialEq.eq l.fn.list.items l.fn.more.items;
  indexed : (x : _) → contains g.T.Ord.cmp l.index x ≡ list_any (λ other. g.T.PartialEq.eq other x) l.list.items;
  first : take l.count l.list.items ≡ l.fn.list.items;
  counted : l.count ≡ length l.fn.list.items;
  grows : length l.fn.list.items ≤ length l.list.items;
}
