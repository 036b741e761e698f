use Rattle.std.proofs.Common.{◌≡◌, take}
use Rattle.std.specs.List.Sorted.{IsStrictlySortedBy}
use Rattle.resolver_backfill.specs.Plans.{unmet}
use Rattle.resolver_backfill.proofs.plan.remove_all.Given as goal

-- what isn't among the first keys is left, in order
abbrev pub invariant-loop-key : goal.invariant-loop-key
invariant-loop-key g l = record {
  left : l.set.keys ≡ unmet g.K.Ord.cmp l.fn.set.keys (take l.key-index l.keys);
  ordered : IsStrictlySortedBy g.K.Ord.cmp l.set.keys;
}
