use Rattle.std.proofs.Common.{◌≡◌, map, take}
use Rattle.resolver_messages.specs.Waiting.{item_of}
use Rattle.resolver_mailbox.proofs.mailbox.agreeing.are_same_items.Given as goal

-- The first ones are the same.
abbrev pub invariant-loop-place : goal.invariant-loop-place
invariant-loop-place g l = map item_of (take l.place l.these) ≡ map item_of (take l.place l.those)
