use Rattle.std.proofs.Common.{◌≡◌, ◌++◌, map}
use Rattle.std.specs.Vec.Iter.{into_iter_items}
use Rattle.resolver_messages.specs.Waiting.{item_of}
use Rattle.resolver_handles.proofs.put.each.Given as goal

-- What was made, and then what is left as it will stand, is all of it.
abbrev pub invariant-loop-one : goal.invariant-loop-one
invariant-loop-one g l = map item_of l.fetches.items ++ map g.T.Asked.item (into_iter_items l.one-iterator) ≡ map g.T.Asked.item l.fn.asked.items
