use Rattle.std.proofs.Common.{◌≡◌, length}
use Rattle.std.specs.List.Sorted.{IsStrictlySortedBy}
use Rattle.resolver_backfill.specs.Plans.{from_bound}
use Rattle.resolver_backfill.proofs.plan.remove_below.Given as goal

-- what is from the bound on is still there, in order
abbrev pub invariant-loop-set : goal.invariant-loop-set
invariant-loop-set g l = record {
  left : from_bound g.K.Ord.cmp l.set.keys l.bound ≡ from_bound g.K.Ord.cmp l.fn.set.keys l.bound;
  ordered : IsStrictlySortedBy g.K.Ord.cmp l.set.keys;
}

abbrev pub decreases-loop-set : goal.decreases-loop-set
decreases-loop-set g l = length l.set.keys
