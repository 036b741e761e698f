use Rattle.futures.specs.Task.{Keeps}
use Rattle.resolver_runtime.proofs.tracker.verdicts.Verdicts.poll.Given as goal

-- What was so of the poll before stays so.
abbrev pub invariant-loop-number : goal.invariant-loop-number
invariant-loop-number g l = Keeps l.initial.cx l.cx
