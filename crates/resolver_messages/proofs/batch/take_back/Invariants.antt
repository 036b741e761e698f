use Rattle.std.proofs.Common.{◌≡◌, length}
use Rattle.resolver_messages.specs.Waiting.{undone_all}
use Rattle.resolver_messages.proofs.batch.take_back.Given as goal

-- Taking back what is left makes what all made.
abbrev pub invariant-loop-change : goal.invariant-loop-change
invariant-loop-change g l = undone_all l.changes.items l.batch.items ≡ undone_all l.fn.changes.items l.fn.batch.items

abbrev pub decreases-loop-change : goal.decreases-loop-change
decreases-loop-change g l = length l.changes.items
