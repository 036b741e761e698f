use Rattle.std.proofs.Common.{◌≡◌, ◌++◌, drop}
use Rattle.resolver_demand.proofs.subscribers.many.of_list.Given as goal

-- the map so far, with those that are left
abbrev pub invariant-loop-one : goal.invariant-loop-one
invariant-loop-one g l = l.map.entries ++ drop l.one-index l.list ≡ l.list
