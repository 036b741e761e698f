use Rattle.std.specs.List.Sorted.{IsStrictlySortedBy}
use Rattle.std.specs.Map.{keys_of}
use Rattle.std.specs.Ordering.{nat_cmp}
use Rattle.std.specs.VecDeque.Iter.{deque_iter_rest}
use Rattle.resolver_fetch_requests.specs.Deadlines.{times_of}
use Rattle.resolver_fetch_requests.proofs.Timed.{AreAll}
use Rattle.resolver_fetch_requests.proofs.requests.deadlines.pairs_of.Given as goal
use Rattle.resolver_sequence.specs.Sequence.{entries_of}

-- The pairs so far, with the times of the rest, are all.
abbrev pub invariant-loop-slot : goal.invariant-loop-slot
invariant-loop-slot g l =
    IsStrictlySortedBy nat_cmp (keys_of (entries_of (deque_iter_rest l.slot-iterator))) × AreAll (times_of l.requests) l.pairs.keys (entries_of (deque_iter_rest l.slot-iterator))
