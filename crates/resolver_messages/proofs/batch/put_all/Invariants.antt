use Rattle.std.proofs.Common.{◌≡◌, ◌+◌, ◌≤◌, length, map}
use Rattle.std.specs.Vec.{vec_len, vec_capacity}
use Rattle.std.specs.Vec.Iter.{into_iter_items}
use Rattle.resolver_types.specs.Names.{names}
use Rattle.resolver_messages.specs.Waiting.{item_of, keys_of_items, queued_all, undone_all}
use Rattle.resolver_messages.specs.Places.{Grows, IsPlaced}
use Rattle.resolver_messages.proofs.batch.put_all.Given as goal

-- Putting those that are left makes what all made, and taking back what was put makes the start.
abbrev pub invariant-loop-item : goal.invariant-loop-item
invariant-loop-item g l = record {
  room : vec_len l.changes + length (into_iter_items l.item-iterator) ≤ vec_capacity l.changes;
  makes : queued_all (names g.K.Ord.cmp g.S.Ord.cmp) g.M.Metadata.merged (map item_of l.batch.items) (map item_of (into_iter_items l.item-iterator))
      ≡ queued_all (names g.K.Ord.cmp g.S.Ord.cmp) g.M.Metadata.merged (map item_of l.fn.batch.items) (map item_of l.fn.items.items);
  back : undone_all l.changes.items l.batch.items ≡ l.fn.batch.items;
  placed : IsPlaced g.K.Ord.cmp l.places (keys_of_items l.batch.items);
  grown : Grows g.K.Ord.cmp (keys_of_items l.fn.batch.items) l.fn.places (keys_of_items l.batch.items) l.places;
  counted : l.count ≡ length l.fn.batch.items;
}
