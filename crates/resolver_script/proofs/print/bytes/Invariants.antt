use Rattle.std.proofs.Common.{◌≡◌}
use Rattle.std.specs.Slice.Iter.{chunks_size}
use Rattle.resolver_script.proofs.print.bytes.Given as goal

-- The parts have 32 bytes at the most.
abbrev pub invariant-loop-part : goal.invariant-loop-part
invariant-loop-part g l =
    (goal.iterator-loop-part g).can_next l.part-iterator
    × (goal.iterator-loop-part g).is_finite l.part-iterator
    × (chunks_size l.part-iterator ≡ 32)
