use Rattle.std.proofs.Common.{◌≡◌, take}
use Rattle.resolver_backfill.specs.Plans.{with_keys}
use Rattle.resolver_backfill.proofs.plan.Plan.add.Given as goal

-- the first keys were put
abbrev pub invariant-loop-i : goal.invariant-loop-i
invariant-loop-i g l = l.self ≡ record l.fn.self { wanted = with_keys g.K.Ord.cmp l.fn.self.wanted (take l.i l.keys) }
