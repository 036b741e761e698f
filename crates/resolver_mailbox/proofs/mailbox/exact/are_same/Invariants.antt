use Rattle.std.proofs.Common.{◌≡◌, take}
use Rattle.resolver_mailbox.proofs.mailbox.exact.are_same.Given as goal

-- The first ones are the same.
abbrev pub invariant-loop-place : goal.invariant-loop-place
invariant-loop-place g l = take l.place l.these ≡ take l.place l.those
