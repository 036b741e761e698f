use Rattle.std.proofs.Common.{◌≡◌, ◌+◌, ◌≤◌, length}
use Rattle.std.specs.Vec.{vec_len, vec_capacity}
use Rattle.std.specs.Vec.Iter.{into_iter_items}
use Rattle.std.specs.List.Sorted.{IsStrictlySortedBy}
use Rattle.std.specs.Map.{keys_of}
use Rattle.resolver_types.specs.Subscribers.{attached_all}
use Rattle.resolver_types.specs.Undone.{without_each}
use Rattle.resolver_demand.proofs.subscribers.many.attach_all.Given as goal

-- There is room for those that are left, attaching them makes what all made, and without those
-- that were added the map is as it was.
abbrev pub invariant-loop-one : goal.invariant-loop-one
invariant-loop-one g l = record {
  room : vec_len l.added + length (into_iter_items l.one-iterator) ≤ vec_capacity l.added;
  makes : attached_all g.S.Ord.cmp l.map.entries (into_iter_items l.one-iterator) ≡ attached_all g.S.Ord.cmp l.fn.map.entries l.fn.more.items;
  ordered : IsStrictlySortedBy g.S.Ord.cmp (keys_of l.map.entries);
  undone : without_each g.S.Ord.cmp l.added.items l.map.entries ≡ l.fn.map.entries;
}
