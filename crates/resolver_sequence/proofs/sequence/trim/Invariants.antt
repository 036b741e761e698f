use Rattle.std.proofs.Common.{◌≡◌, length}
use Rattle.std.specs.List.Sorted.{IsStrictlySortedBy}
use Rattle.std.specs.Ordering.{nat_cmp}
use Rattle.resolver_sequence.specs.Sequence.{entries_of, numbers_of}
use Rattle.resolver_sequence.proofs.sequence.trim.Given as goal

-- The same is held, in order.
abbrev pub invariant-loop-slots : goal.invariant-loop-slots
invariant-loop-slots g l =
    (entries_of l.slots.items ≡ entries_of l.initial.slots.items) × IsStrictlySortedBy nat_cmp (numbers_of l.slots.items)

abbrev pub decreases-loop-slots : goal.decreases-loop-slots
decreases-loop-slots g l = length l.slots.items
