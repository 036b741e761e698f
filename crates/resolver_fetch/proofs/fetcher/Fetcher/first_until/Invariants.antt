use Rattle.std.proofs.Common.{◌≡◌}
use Rattle.std.specs.List.Sorted.{IsStrictlySortedBy}
use Rattle.std.specs.Ordering.{nat_cmp}
use Rattle.resolver_priority_set.specs.Priorities.{pair_order}
use Rattle.resolver_fetch.specs.LeftPeers.{IsAtHand}
use Rattle.resolver_fetch_scan.specs.Orders.{orders}
use Rattle.resolver_fetch_waiting.specs.Queues.{placed}
use Rattle.resolver_fetch.specs.Seeking.{first_until}
use Rattle.resolver_fetch.proofs.fetcher.Fetcher.first_until.Given as goal

-- The first is found among the keys that are left, which are in order.
abbrev pub invariant-loop-pair : goal.invariant-loop-pair
invariant-loop-pair g l = record {
  ordered : IsStrictlySortedBy (pair_order nat_cmp g.K.Ord.cmp) l.pair-iterator;
  first : first_until (orders g.K.Ord.cmp g.P.Ord.cmp) l.fn.self l.fn.trail l.moment (placed l.is_retry l.pair-iterator)
      ≡ first_until (orders g.K.Ord.cmp g.P.Ord.cmp) l.fn.self l.fn.trail l.moment (placed l.is_retry l.fn.queue);
  at_hand : IsAtHand (orders g.K.Ord.cmp g.P.Ord.cmp) l.fn.self l.at_hand;
}
