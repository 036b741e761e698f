use Rattle.std.proofs.Common.{◌≡◌, ap, ◌∙◌, None, Some}
use Rattle.resolver_fetch_scan.specs.Fetcher as calls
use Rattle.resolver_model_peer.specs.Parties.{orders_of, parties}
use Rattle.resolver_model_peer.specs.Peer.{row_of}
use Rattle.resolver_core.proofs.Shown.{if-some, targets-shown}
use Rattle.resolver_core.proofs.p2p.rows.listed_targets.Goals as goal

pub returns-in_default-clause-targets : goal.returns-in_default-clause-targets
returns-in_default-clause-targets g c = λ m agrees.
    let a = parties g.K.Ord.cmp g.S.Ord.cmp g.P.Ord.cmp in
    if-some (row_of a m c.args.key.now) (λ row. None ≡ row.targets)
    (λ row found.
    c.in_default.ensures ∙ ap (λ f. calls.targets_of (orders_of a) f c.args.key.now) agrees.fetcher
    ∙ targets-shown a g.met.K.Ord.total m agrees.sound c.args.key.now row found)

pub returns-clause-targets : goal.returns-clause-targets
returns-clause-targets g c = λ m agrees.
    let a = parties g.K.Ord.cmp g.S.Ord.cmp g.P.Ord.cmp in
    let peers = c.in_ok-to_vec.field-0.items in
    if-some (row_of a m c.args.key.now) (λ row. Some peers ≡ row.targets)
    (λ row found.
    ap Some (c.in_ok-to_vec.ensures.items_if_clones_equal c.requires.peers_clone)
    ∙ c.in-Some.ensures ∙ ap (λ f. calls.targets_of (orders_of a) f c.args.key.now) agrees.fetcher
    ∙ targets-shown a g.met.K.Ord.total m agrees.sound c.args.key.now row found)
