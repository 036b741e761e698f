use Rattle.std.proofs.Common.{◌≡◌, ap, sym, subst, ◌∙◌}
use Rattle.std.proofs.lemmas.Result.{IfOk-weaker}
use Rattle.std.specs.BTreeMap.{is_at}
use Rattle.std.specs.Map.{lookup}
use Rattle.resolver_fetch.specs.LeftPeers.{whole_for}
use Rattle.resolver_fetch_scan.specs.Fetcher.{Fetcher, targets_of}
use Rattle.resolver_fetch_scan.specs.Known.{Known, known_by}
use Rattle.resolver_fetch_scan.specs.Orders.{orders}
use Rattle.resolver_fetch_scan.specs.Pools.{IsWhole, whole}
use Rattle.resolver_fetch_scan.specs.Trying.{drawn_from}
use Rattle.resolver_fetch.proofs.fetcher.Fetcher.peers_for.Goals as goal

pub pool_for-requires-clause-whole : goal.pool_for-requires-clause-whole
pool_for-requires-clause-whole g c =
    subst (λ (k : Known g.row.P.Denot). IsWhole g.P.Ord.cmp k c.args.at_hand.now) (sym c.peers.ensures) c.requires.at_hand

pub returns-clause-ok : goal.returns-clause-ok
returns-clause-ok g c =
    let o = orders g.K.Ord.cmp g.P.Ord.cmp in
    let targets : lookup (is_at (g.K.Ord.cmp c.args.key.now)) c.self.inside.targets.entries ≡ targets_of o c.args.self.now c.args.key.now =
    ap (λ (f : Fetcher g.row.K.Denot g.row.P.Denot). targets_of o f c.args.key.now) c.self.view_is in
    let same : whole (drawn_from g.P.Ord.cmp (known_by g.P.Ord.cmp c.peers.result.now) (lookup (is_at (g.K.Ord.cmp c.args.key.now)) c.self.inside.targets.entries)) ≡ whole_for o c.args.self.now c.args.key.now =
    λ i. whole (drawn_from g.P.Ord.cmp (c.peers.ensures i) (targets i)) in
    IfOk-weaker c.pool_for.result _ _ (λ pool is. is ∙ same) (rw c.get.ensures.value at c.pool_for.ensures.ok)

pub returns-clause-at_hand : goal.returns-clause-at_hand
returns-clause-at_hand g c = subst (λ (k : Known g.row.P.Denot). IsWhole g.P.Ord.cmp k c.pool_for.new.at_hand) c.peers.ensures c.pool_for.ensures.whole
