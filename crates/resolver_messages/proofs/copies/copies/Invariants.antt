use Rattle.std.proofs.Common.{◌≡◌, map, take}
use Rattle.resolver_messages.specs.Waiting.{item_of}
use Rattle.resolver_messages.proofs.copies.copies.Given as goal

-- The first ones are there again.
abbrev pub invariant-loop-item : goal.invariant-loop-item
invariant-loop-item g l = map item_of l.copies.items ≡ map item_of (take l.item-index l.items)
