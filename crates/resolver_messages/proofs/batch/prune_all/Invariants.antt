use Rattle.std.proofs.Common.{◌≡◌, ◌+◌, ◌≤◌, ◌++◌, length, map}
use Rattle.std.specs.Vec.{vec_len, vec_capacity}
use Rattle.std.specs.Vec.Iter.{into_iter_items}
use Rattle.resolver_messages.specs.Waiting.{item_of, kept}
use Rattle.resolver_messages.proofs.batch.prune_all.Given as goal

-- There is room for those that are left, and what is kept of them comes behind.
abbrev pub invariant-loop-item : goal.invariant-loop-item
invariant-loop-item g l = record {
  room : vec_len l.room + length (into_iter_items l.item-iterator) ≤ vec_capacity l.room;
  makes : map item_of l.room.items ++ kept (g.Q.Predicate.keeps l.keep) (map item_of (into_iter_items l.item-iterator)) ≡ kept (g.Q.Predicate.keeps l.keep) (map item_of l.fn.batch.items);
}
