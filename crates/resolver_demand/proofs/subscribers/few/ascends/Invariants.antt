use Rattle.std.proofs.Common.{◌≡◌}
use Rattle.std.specs.List.{AllAdjacentBelow}
use Rattle.std.specs.declared.cmp.Ordering.TheVariants.{Less}
use Rattle.resolver_demand.proofs.subscribers.few.ascends.Given as goal

-- each so far is below the next one
abbrev pub invariant-loop-i : goal.invariant-loop-i
invariant-loop-i g l = AllAdjacentBelow (λ s t. g.S.Ord.cmp s.0 t.0 ≡ Less) l.list l.i
