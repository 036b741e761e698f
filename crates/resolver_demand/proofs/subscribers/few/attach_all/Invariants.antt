use Rattle.std.proofs.Common.{◌≡◌, ◌+◌, ◌≤◌, length}
use Rattle.std.specs.Vec.{vec_len, vec_capacity}
use Rattle.std.specs.Vec.Iter.{into_iter_items}
use Rattle.resolver_types.specs.Subscribers.{attached_all}
use Rattle.resolver_demand.proofs.subscribers.few.attach_all.Given as goal

-- There is room for those that are left, and attaching them makes what all made.
abbrev pub invariant-loop-one : goal.invariant-loop-one
invariant-loop-one g l = record {
  room : vec_len l.list + length (into_iter_items l.one-iterator) ≤ vec_capacity l.list;
  makes : attached_all g.S.Ord.cmp l.list.items (into_iter_items l.one-iterator) ≡ attached_all g.S.Ord.cmp l.fn.list.items l.fn.more.items;
}
