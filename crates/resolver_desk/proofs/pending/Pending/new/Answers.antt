use Rattle.std.proofs.Common.{rules}
use Rattle.resolver_types.specs.Names.{names}
use Rattle.resolver_desk.proofs.Drained.{filed-none}
use Rattle.resolver_desk.proofs.pending.Pending.new.Goals as goal

pub invariant_of-result : goal.invariant_of-result
invariant_of-result g c = filed-none (names g.K.Ord.cmp g.S.Ord.cmp) _ _ (search rules) (search rules)
