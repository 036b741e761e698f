use Rattle.std.proofs.Common.{◌≡◌, ◌++◌}
use Rattle.resolver_backfill.proofs.plan.list.Given as goal

-- those that were put, and then those that are left, are all
abbrev pub invariant-loop-key : goal.invariant-loop-key
invariant-loop-key g l = l.keys.items ++ l.key-iterator ≡ l.fn.set.keys
