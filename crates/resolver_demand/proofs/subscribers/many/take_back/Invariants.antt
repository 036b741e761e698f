use Rattle.std.proofs.Common.{◌≡◌, length}
use Rattle.resolver_types.specs.Undone.{without_each}
use Rattle.resolver_demand.proofs.subscribers.many.take_back.Given as goal

-- without those that are left, it is what it is without all
abbrev pub invariant-loop-one : goal.invariant-loop-one
invariant-loop-one g l = without_each g.S.Ord.cmp l.added.items l.map.entries ≡ without_each g.S.Ord.cmp l.fn.added.items l.fn.map.entries

abbrev pub decreases-loop-one : goal.decreases-loop-one
decreases-loop-one g l = length l.added.items
