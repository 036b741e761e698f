use Rattle.std.proofs.Common.{ℕ, ◌-◌, ◌++◌, length}
use Rattle.resolver_wire.specs.Spelling.{varint}
use Rattle.resolver_wire.proofs.Lengths.{Puts}
use Rattle.resolver_wire.proofs.wire.writing.put_length.Given as goal

abbrev pub invariant-loop-rest : goal.invariant-loop-rest
invariant-loop-rest l =
    (k : ℕ) × Puts k l.out.items l.out.spare l.rest (l.fn.out.items ++ varint l.count) (l.fn.out.spare - length (varint l.count))

abbrev pub decreases-loop-rest : goal.decreases-loop-rest
decreases-loop-rest l = l.rest
