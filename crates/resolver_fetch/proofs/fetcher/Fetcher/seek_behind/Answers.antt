use Rattle.std.proofs.Common.{◌≡◌, ap, sym, ◌∙◌, true, false, None, rules}
use Rattle.std.proofs.lemmas.Result.{IfOk-weaker}
use Rattle.std.specs.Ordering.{nat_cmp}
use Rattle.resolver_priority_set.specs.Priorities.{after}
use Rattle.resolver_fetch_scan.specs.declared.place.Place.{Place}
use Rattle.resolver_fetch_scan.specs.Fetcher.{Fetcher}
use Rattle.resolver_fetch_scan.specs.Orders.{orders}
use Rattle.resolver_fetch_waiting.specs.Queues.{IsQueued, fresh_queue, placed, retry_queue}
use Rattle.resolver_fetch.specs.Seeking.{first_until, scan_at, tried_behind}
use Rattle.resolver_fetch_scan.specs.Trying.{Trying}
use Rattle.resolver_fetch_scan.specs.Waiting.{fresh_at, retry_at}
use Rattle.resolver_fetch_scan.proofs.Outcomes.{refused-as}
use Rattle.resolver_fetch.proofs.Seeking.{behind-fresh, behind-fresh-retry, behind-retry}
use Rattle.resolver_fetch.proofs.fetcher.Fetcher.seek_behind.Goals as goal

pub returns-clause-ordered : goal.returns-clause-ordered
returns-clause-ordered g c =
    let waiting : c.keys-keys.result.now ≡ c.args.self.now.waiting = c.keys-keys.ensures ∙ ap (λ (f : Fetcher g.row.K.Denot g.row.P.Denot). f.waiting) c.self.view_is in
    rw waiting at c.law.ensures

pub returns-in-Some-clause-ordered : goal.returns-in-Some-clause-ordered
returns-in-Some-clause-ordered g c =
    let waiting : c.keys-keys.result.now ≡ c.args.self.now.waiting = c.keys-keys.ensures ∙ ap (λ (f : Fetcher g.row.K.Denot g.row.P.Denot). f.waiting) c.self.view_is in
    rw waiting at c.law.ensures

pub returns-then-tried-clause-ok : goal.returns-then-tried-clause-ok
returns-then-tried-clause-ok g c =
    let o = orders g.K.Ord.cmp g.P.Ord.cmp in
    let f = c.args.self.now in
    let p = c.tried.inside.pair in
    let waiting : c.keys-keys.result.now ≡ f.waiting = c.keys-keys.ensures ∙ ap (λ (f : Fetcher g.row.K.Denot g.row.P.Denot). f.waiting) c.self.view_is in
    let queued : IsQueued f.waiting = rw waiting at c.retry.ensures.whole in
    let behind : c.range_after-behind.result ≡ after nat_cmp g.K.Ord.cmp p (retry_queue f.waiting) =
    c.range_after-behind.ensures.rest ∙ ap (after nat_cmp g.K.Ord.cmp p) (c.retry.ensures.keys ∙ ap retry_queue waiting) in
    let place : (retry_at p.0, p.1) ≡ (c.args.tried.now.place, c.args.tried.now.key) =
    ap (λ r. (record { is_retry = r; due = p.0 }, p.1)) (sym c.if-tried.true) ∙ ap (λ (t : Trying g.row.K.Denot g.row.P.Denot). (t.place, t.key)) c.tried.view_is in
    IfOk-weaker c.first_until.result _ _ (λ t it. it
    ∙ ap (λ ps. first_until o f c.args.trail.now c.args.moment (placed true ps)) behind
    ∙ sym (behind-retry o f c.args.moment c.args.trail.now queued p)
    ∙ ap (λ (q : Place × g.row.K.Denot). tried_behind o f q (scan_at c.args.moment c.args.trail.now)) place) c.first_until.ensures.ok

pub returns-in-Some-clause-ok : goal.returns-in-Some-clause-ok
returns-in-Some-clause-ok g c =
    let o = orders g.K.Ord.cmp g.P.Ord.cmp in
    let f = c.args.self.now in
    let p = c.tried.inside.pair in
    let waiting : c.keys-keys.result.now ≡ f.waiting = c.keys-keys.ensures ∙ ap (λ (f : Fetcher g.row.K.Denot g.row.P.Denot). f.waiting) c.self.view_is in
    let queued : IsQueued f.waiting = rw waiting at c.fresh.ensures.whole in
    let behind : c.range_after-behind-2.result ≡ after nat_cmp g.K.Ord.cmp p (fresh_queue f.waiting) =
    c.range_after-behind-2.ensures.rest ∙ ap (after nat_cmp g.K.Ord.cmp p) (c.fresh.ensures.keys ∙ ap fresh_queue waiting) in
    let place : (fresh_at p.0, p.1) ≡ (c.args.tried.now.place, c.args.tried.now.key) =
    ap (λ r. (record { is_retry = r; due = p.0 }, p.1)) (sym c.if-tried.false) ∙ ap (λ (t : Trying g.row.K.Denot g.row.P.Denot). (t.place, t.key)) c.tried.view_is in
    let found : c.in_ok-found.field-0 ≡ first_until o f c.args.trail.now c.args.moment (placed false (after nat_cmp g.K.Ord.cmp p (fresh_queue f.waiting))) =
    c.in_ok-found.ensures.ok ∙ ap (λ ps. first_until o f c.args.trail.now c.args.moment (placed false ps)) behind in
    sym (behind-fresh o f c.args.moment c.args.trail.now queued p c.in-Some.found (sym found ∙ c.in-Some.is))
    ∙ ap (λ (q : Place × g.row.K.Denot). tried_behind o f q (scan_at c.args.moment c.args.trail.now)) place

pub returns-clause-ok : goal.returns-clause-ok
returns-clause-ok g c =
    let o = orders g.K.Ord.cmp g.P.Ord.cmp in
    let f = c.args.self.now in
    let p = c.tried.inside.pair in
    let waiting : c.keys-keys.result.now ≡ f.waiting = c.keys-keys.ensures ∙ ap (λ (f : Fetcher g.row.K.Denot g.row.P.Denot). f.waiting) c.self.view_is in
    let queued : IsQueued f.waiting = rw waiting at c.fresh.ensures.whole in
    let behind : c.range_after-behind-2.result ≡ after nat_cmp g.K.Ord.cmp p (fresh_queue f.waiting) =
    c.range_after-behind-2.ensures.rest ∙ ap (after nat_cmp g.K.Ord.cmp p) (c.fresh.ensures.keys ∙ ap fresh_queue waiting) in
    let place : (fresh_at p.0, p.1) ≡ (c.args.tried.now.place, c.args.tried.now.key) =
    ap (λ r. (record { is_retry = r; due = p.0 }, p.1)) (sym c.if-tried.false) ∙ ap (λ (t : Trying g.row.K.Denot g.row.P.Denot). (t.place, t.key)) c.tried.view_is in
    let found : c.in_ok-found.field-0 ≡ first_until o f c.args.trail.now c.args.moment (placed false (after nat_cmp g.K.Ord.cmp p (fresh_queue f.waiting))) =
    c.in_ok-found.ensures.ok ∙ ap (λ ps. first_until o f c.args.trail.now c.args.moment (placed false ps)) behind in
    let none : c.in_ok-found.field-0 ≡ None = search rules in
    let is = behind-fresh-retry o f c.args.moment c.args.trail.now queued p (sym found ∙ none) in
    IfOk-weaker c.seek_retry.result _ _ (λ t it. it ∙ sym is ∙ ap (λ (q : Place × g.row.K.Denot). tried_behind o f q (scan_at c.args.moment c.args.trail.now)) place) c.seek_retry.ensures.ok

pub returns-then-tried-clause-ordered : goal.returns-then-tried-clause-ordered
returns-then-tried-clause-ordered g c =
    let waiting : c.keys-keys.result.now ≡ c.args.self.now.waiting = c.keys-keys.ensures ∙ ap (λ (f : Fetcher g.row.K.Denot g.row.P.Denot). f.waiting) c.self.view_is in
    rw waiting at c.law.ensures

pub returns-in_err-found-clause-ordered : goal.returns-in_err-found-clause-ordered
returns-in_err-found-clause-ordered g c =
    let waiting : c.keys-keys.result.now ≡ c.args.self.now.waiting = c.keys-keys.ensures ∙ ap (λ (f : Fetcher g.row.K.Denot g.row.P.Denot). f.waiting) c.self.view_is in
    rw waiting at c.law.ensures

pub first_until-requires-clause-ordered : goal.first_until-requires-clause-ordered
first_until-requires-clause-ordered g c = c.range_after-behind.ensures.ordered

pub first_until-requires-clause-runs : goal.first_until-requires-clause-runs
first_until-requires-clause-runs g c = c.range_after-behind.ensures.runs

pub first_until-requires-2-clause-ordered : goal.first_until-requires-2-clause-ordered
first_until-requires-2-clause-ordered g c = c.range_after-behind-2.ensures.ordered

pub first_until-requires-2-clause-runs : goal.first_until-requires-2-clause-runs
first_until-requires-2-clause-runs g c = c.range_after-behind-2.ensures.runs

pub returns-in_err-found-clause-only : goal.returns-in_err-found-clause-only
returns-in_err-found-clause-only g c = refused-as c.from_residual.result _ _ c.from_residual.ensures.1 (λ fault same. same ∙ c.in_err-found.ensures.only)
