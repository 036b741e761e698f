use Rattle.std.proofs.Common.{◌≡◌, ◌+◌, ◌∷◌, ◌∙◌, ap, sym, drop, [], ℕ, List}
use Rattle.resolver_fetch.specs.LeftPeers.{pool_for, whole_for}
use Rattle.resolver_fetch_scan.specs.Orders.{orders}
use Rattle.resolver_fetch_scan.specs.Pools.{Pool}
use Rattle.resolver_fetch_scan.specs.Fetcher.{snapshot, targets_of}
use Rattle.resolver_fetch_scan.specs.Snapshot.{eligible, known}
use Rattle.resolver_fetch_scan.specs.Tried.{peers_tried}
use Rattle.resolver_fetch.proofs.Refitting.{drawn-left}
use Rattle.resolver_fetch_scan.proofs.Outcomes.{refused, refused-as}
use Rattle.resolver_fetch.proofs.Weighing.{drop-all, drop-first, untried, untried-left, untried-more, untried-none}
use Rattle.resolver_fetch.proofs.fetcher.Fetcher.pool_for.Goals as goal

pub loop-peer-init : goal.loop-peer-init
loop-peer-init g c =
    let o = orders g.K.Ord.cmp g.P.Ord.cmp in
    let f = c.args.self.now in
    let start : c.in_ok-pool.pool ≡ whole_for o f c.args.key.now = c.in_ok-pool.ensures.ok in
    record {
      all = ap (λ (p : Pool g.row.P.Denot). p.all) start;
      left =
          rw c.tried-peer-items.ensures
          (ap (λ (ps : List (g.row.P.Denot × ℕ)). untried g.P.Ord.cmp (peers_tried g.K.Ord.cmp c.args.trail.now c.args.key.now) ps)
          (ap (λ (p : Pool g.row.P.Denot). p.left) start ∙ drawn-left g.P.Ord.cmp (known o (snapshot o f)) (targets_of o f c.args.key.now))
          ∙ untried-left o c.args.trail.now c.args.key.now (eligible o (snapshot o f) (targets_of o f c.args.key.now)));
      at_hand = c.peers_for.ensures.at_hand;
    }

pub loop-peer-preserved : goal.loop-peer-preserved
loop-peer-preserved g c =
    let tried = c.tried-peer-items.result.now in
    let first : drop c.loop-peer.peer-index tried ≡ c.peer-item.result ∷ drop (c.loop-peer.peer-index + 1) tried =
    drop-first tried c.loop-peer.peer-index c.peer-item.result c.loop-peer-test.true c.peer-item.is in
    record {
      all = ap (λ (p : Pool g.row.P.Denot). p.all) c.in_ok-forget.ensures.ok ∙ c.loop-peer.invariant.all;
      left =
          rw c.in_ok-forget.ensures.ok
          (untried-more g.P.Ord.cmp c.peer-item.result (drop (c.loop-peer.peer-index + 1) tried) c.loop-peer.pool.left
          ∙ ap (λ (ps : List g.row.P.Denot). untried g.P.Ord.cmp ps c.loop-peer.pool.left) (sym first)
          ∙ c.loop-peer.invariant.left);
      at_hand = c.loop-peer.invariant.at_hand;
    }

pub returns-clause-ok : goal.returns-clause-ok
returns-clause-ok g c =
    let tried = c.tried-peer-items.result.now in
    let whole : Pool g.row.P.Denot = pool_for (orders g.K.Ord.cmp g.P.Ord.cmp) c.args.self.now c.args.trail.now c.args.key.now in
    let done : drop c.loop-peer.peer-index tried ≡ [] = drop-all tried c.loop-peer.peer-index c.loop-peer-test.false in
    let left : c.loop-peer.pool.left ≡ whole.left =
    sym (untried-none g.P.Ord.cmp c.loop-peer.pool.left)
    ∙ ap (λ (ps : List g.row.P.Denot). untried g.P.Ord.cmp ps c.loop-peer.pool.left) (sym done)
    ∙ c.loop-peer.invariant.left in
    ap (λ (ps : List (g.row.P.Denot × ℕ)). record c.loop-peer.pool { left = ps }) left
    ∙ ap (λ (ps : List (g.row.P.Denot × ℕ)). record whole { all = ps }) c.loop-peer.invariant.all

pub returns-clause-at_hand : goal.returns-clause-at_hand
returns-clause-at_hand g c = c.loop-peer.invariant.at_hand

pub returns-in_err-forget-clause-at_hand : goal.returns-in_err-forget-clause-at_hand
returns-in_err-forget-clause-at_hand g c = c.loop-peer.invariant.at_hand

pub returns-in_err-pool-clause-ok : goal.returns-in_err-pool-clause-ok
returns-in_err-pool-clause-ok g c = refused c.from_residual.result _ _ c.from_residual.ensures.1

pub returns-in_err-pool-clause-only : goal.returns-in_err-pool-clause-only
returns-in_err-pool-clause-only g c = refused-as c.from_residual.result _ _ c.from_residual.ensures.1 (λ fault same. same ∙ c.in_err-pool.ensures.only)

pub returns-in_err-pool-clause-at_hand : goal.returns-in_err-pool-clause-at_hand
returns-in_err-pool-clause-at_hand g c = c.peers_for.ensures.at_hand
