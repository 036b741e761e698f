use Rattle.std.proofs.Common.{◌≡◌, ◌++◌, drop}
use Rattle.resolver_types.specs.Subscribers.{without}
use Rattle.resolver_demand.proofs.subscribers.few.without.Given as goal

-- the rest so far, with what is kept of those that are left
abbrev pub invariant-loop-one : goal.invariant-loop-one
invariant-loop-one g l = l.rest.items ++ without g.S.Ord.cmp l.named.list.now (drop l.one-index l.list) ≡ without g.S.Ord.cmp l.named.list.now l.list
