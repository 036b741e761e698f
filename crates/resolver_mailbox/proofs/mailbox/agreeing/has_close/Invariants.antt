use Rattle.std.proofs.Common.{◌≡◌, map, take}
use Rattle.resolver_desk.specs.Book.{call_of, closes}
use Rattle.resolver_mailbox.proofs.mailbox.agreeing.has_close.Given as goal

-- The first calls are no close.
abbrev pub invariant-loop-entry : goal.invariant-loop-entry
invariant-loop-entry g l = closes (map call_of (take l.entry-index l.book)) ≡ 0
