use Rattle.std.proofs.Common.{◌≡◌}
use Rattle.resolver_flat.specs.Reading.{many_at}
use Rattle.resolver_flat.proofs.Lists.{behind}
use Rattle.resolver_flat.proofs.reading.many.Given as goal

-- what is left, behind the items so far, is what all are
abbrev pub invariant-loop-left : goal.invariant-loop-left
invariant-loop-left g l = behind l.list.items (many_at g.T.Spelled.at l.left l.rest) ≡ many_at g.T.Spelled.at l.fn.count l.fn.bytes

abbrev pub decreases-loop-left : goal.decreases-loop-left
decreases-loop-left g l = l.left
