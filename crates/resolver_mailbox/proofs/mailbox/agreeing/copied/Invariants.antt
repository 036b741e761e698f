use Rattle.std.proofs.Common.{◌≡◌, map, take}
use Rattle.resolver_desk.specs.Book.{call_of}
use Rattle.resolver_mailbox.proofs.mailbox.agreeing.copied.Given as goal

-- The first calls are there again.
abbrev pub invariant-loop-entry : goal.invariant-loop-entry
invariant-loop-entry g l = map call_of l.copy.items ≡ map call_of (take l.entry-index l.book)
