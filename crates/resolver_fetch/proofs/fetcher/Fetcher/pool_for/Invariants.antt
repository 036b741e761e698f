use Rattle.std.proofs.Common.{◌≡◌, drop}
use Rattle.resolver_fetch.specs.LeftPeers.{IsAtHand, pool_for}
use Rattle.resolver_fetch_scan.specs.Orders.{orders}
use Rattle.resolver_fetch.proofs.Weighing.{untried}
use Rattle.resolver_fetch.proofs.fetcher.Fetcher.pool_for.Given as goal

-- Without those that are left of the tried ones, the same peers are left.
abbrev pub invariant-loop-peer : goal.invariant-loop-peer
invariant-loop-peer g l =
    let o = orders g.K.Ord.cmp g.P.Ord.cmp in record {
      all : l.pool.all ≡ (pool_for o l.fn.self l.fn.trail l.fn.key).all;
      left : untried g.P.Ord.cmp (drop l.peer-index l.peer-items) l.pool.left ≡ (pool_for o l.fn.self l.fn.trail l.fn.key).left;
      at_hand : IsAtHand o l.fn.self l.at_hand;
    }
