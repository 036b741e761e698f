use Rattle.std.proofs.Common.{Bool}
use Rattle.std.specs.VecDeque.Iter.{deque_iter_rest}
use Rattle.resolver_base.specs.Answering.{AnswersBy}
use Rattle.resolver_fetch_scan.specs.Known.{known_by}
use Rattle.resolver_fetch.proofs.Freeing.{IsFreed}
use Rattle.resolver_fetch.proofs.fetcher.free_each.Given as goal
use Rattle.resolver_sequence.specs.Sequence.{entries_of}

-- Each peer has as many as those that are kept, and those of the rest that aren't.
abbrev pub invariant-loop-slot : goal.invariant-loop-slot
invariant-loop-slot g l =
    (test : g.row.K.Denot → Bool) → AnswersBy g.F.Fn l.fn.keep test
    → IsFreed g.P.Ord.cmp test l.fn.requests (entries_of (deque_iter_rest l.slot-iterator)) (known_by g.P.Ord.cmp l.fn.peers) (known_by g.P.Ord.cmp l.peers)
