use Rattle.std.proofs.Common.{◌≡◌, ◌++◌}
use Rattle.resolver_demand.proofs.subscribers.many.copied.Given as goal

-- the clones so far, with those that are left
abbrev pub invariant-loop-one : goal.invariant-loop-one
invariant-loop-one g l = l.list.items ++ l.one-iterator ≡ l.map.entries
