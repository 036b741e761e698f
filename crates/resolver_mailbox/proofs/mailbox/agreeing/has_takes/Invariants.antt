use Rattle.std.proofs.Common.{◌≡◌, ◌≤◌, length, map, take}
use Rattle.resolver_messages.specs.Waiting.{told_of}
use Rattle.resolver_desk.specs.Book.{call_of, takes}
use Rattle.resolver_mailbox.proofs.mailbox.agreeing.has_takes.Given as goal

-- The takes so far are the first messages.
abbrev pub invariant-loop-entry : goal.invariant-loop-entry
invariant-loop-entry g l = (takes (map call_of (take l.entry-index l.book)) ≡ map told_of (take l.next l.taken)) × (l.next ≤ length l.taken)
