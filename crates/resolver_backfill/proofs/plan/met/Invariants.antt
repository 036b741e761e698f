use Rattle.std.proofs.Common.{◌≡◌, take}
use Rattle.resolver_backfill.specs.Plans.{met}
use Rattle.resolver_backfill.proofs.plan.met.Given as goal

-- what is among the first keys was found
abbrev pub invariant-loop-key : goal.invariant-loop-key
invariant-loop-key g l = l.found.keys ≡ met g.K.Ord.cmp l.set.keys (take l.key-index l.keys)
