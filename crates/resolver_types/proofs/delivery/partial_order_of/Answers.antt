use Rattle.std.proofs.Common.{sym, ◌∙◌, arith}
use Rattle.resolver_types.proofs.Lexicographic.{slice_partial_cmp-longer, slice_partial_cmp-shorter}
use Rattle.resolver_types.proofs.delivery.partial_order_of.Goals as goal

pub returns-then-i-theirs : goal.returns-then-i-theirs
returns-then-i-theirs g c = sym (slice_partial_cmp-longer g.S.PartialOrd.partial_cmp c.args.mine.now c.args.theirs.now c.loop-i.i (omega arith) (omega arith)) ∙ c.loop-i.invariant.0

pub returns-else-mine-theirs : goal.returns-else-mine-theirs
returns-else-mine-theirs g c = sym (slice_partial_cmp-shorter g.S.PartialOrd.partial_cmp c.args.mine.now c.args.theirs.now c.loop-i.i (omega arith) (omega arith)) ∙ c.loop-i.invariant.0
