use Rattle.std.proofs.Common.{◌≡◌, refl, ap, sym, subst, ◌∙◌, false, None, rules}
use Rattle.std.proofs.lemmas.Result.{IfOk-weaker}
use Rattle.resolver_fetch_scan.specs.Fetcher.{Fetcher}
use Rattle.resolver_fetch_scan.specs.Known.{Known, askable}
use Rattle.resolver_fetch_scan.specs.Orders.{orders}
use Rattle.resolver_fetch_waiting.specs.Queues.{IsQueued, fresh_queue, placed}
use Rattle.resolver_fetch.specs.Seeking.{first_until}
use Rattle.resolver_fetch.proofs.Askable.{tries-none}
use Rattle.resolver_fetch.proofs.Dues.{from-first}
use Rattle.resolver_fetch_scan.proofs.Outcomes.{refused, refused-as}
use Rattle.resolver_fetch.proofs.Seeking.{seeks-fresh, seeks-retry}
use Rattle.resolver_fetch.proofs.fetcher.Fetcher.seek.Goals as goal

pub returns-then-none_askable-clause-ok : goal.returns-then-none_askable-clause-ok
returns-then-none_askable-clause-ok g c =
    sym (tries-none (orders g.K.Ord.cmp g.P.Ord.cmp) c.args.self.now (subst (λ (k : Known g.row.P.Denot). askable g.P.Ord.cmp k ≡ 0) c.peers.ensures (c.if-none_askable.ensures.0 refl)) c.args.moment c.args.trail.now)

pub returns-in-Some-clause-ok : goal.returns-in-Some-clause-ok
returns-in-Some-clause-ok g c =
    let o = orders g.K.Ord.cmp g.P.Ord.cmp in
    let f = c.args.self.now in
    let waiting : c.keys.result.now ≡ f.waiting = c.keys.ensures ∙ ap (λ (f : Fetcher g.row.K.Denot g.row.P.Denot). f.waiting) c.self.view_is in
    let queued : IsQueued f.waiting = rw waiting at c.fresh.ensures.whole in
    let queue : c.in_ok-queue.queue ≡ fresh_queue f.waiting = c.in_ok-queue.ensures.rest ∙ from-first c.fresh.result.now ∙ c.fresh.ensures.keys ∙ ap fresh_queue waiting in
    let found : c.in_ok-found.field-0 ≡ first_until o f c.args.trail.now c.args.moment (placed false (fresh_queue f.waiting)) =
    c.in_ok-found.ensures.ok ∙ ap (λ ps. first_until o f c.args.trail.now c.args.moment (placed false ps)) queue in
    sym (seeks-fresh o f c.args.moment c.args.trail.now queued c.in-Some.found (sym found ∙ c.in-Some.is))

pub returns-clause-ok : goal.returns-clause-ok
returns-clause-ok g c =
    let o = orders g.K.Ord.cmp g.P.Ord.cmp in
    let f = c.args.self.now in
    let waiting : c.keys.result.now ≡ f.waiting = c.keys.ensures ∙ ap (λ (f : Fetcher g.row.K.Denot g.row.P.Denot). f.waiting) c.self.view_is in
    let queued : IsQueued f.waiting = rw waiting at c.fresh.ensures.whole in
    let queue : c.in_ok-queue.queue ≡ fresh_queue f.waiting = c.in_ok-queue.ensures.rest ∙ from-first c.fresh.result.now ∙ c.fresh.ensures.keys ∙ ap fresh_queue waiting in
    let found : c.in_ok-found.field-0 ≡ first_until o f c.args.trail.now c.args.moment (placed false (fresh_queue f.waiting)) =
    c.in_ok-found.ensures.ok ∙ ap (λ ps. first_until o f c.args.trail.now c.args.moment (placed false ps)) queue in
    let none : c.in_ok-found.field-0 ≡ None = search rules in
    let is = seeks-retry o f c.args.moment c.args.trail.now queued (sym found ∙ none) in
    IfOk-weaker c.seek_retry.result _ _ (λ t it. it ∙ sym is) c.seek_retry.ensures.ok

pub first_until-requires-clause-ordered : goal.first_until-requires-clause-ordered
first_until-requires-clause-ordered g c = c.in_ok-queue.ensures.ordered

pub first_until-requires-clause-runs : goal.first_until-requires-clause-runs
first_until-requires-clause-runs g c = c.in_ok-queue.ensures.runs

pub first_until-requires-clause-at_hand : goal.first_until-requires-clause-at_hand
first_until-requires-clause-at_hand g c = c.requires.at_hand

pub seek_retry-requires-clause-at_hand : goal.seek_retry-requires-clause-at_hand
seek_retry-requires-clause-at_hand g c = c.first_until.ensures.at_hand

pub returns-in_err-queue-clause-ok : goal.returns-in_err-queue-clause-ok
returns-in_err-queue-clause-ok g c = refused c.from_residual.result _ _ c.from_residual.ensures.1

pub returns-in_err-found-clause-ok : goal.returns-in_err-found-clause-ok
returns-in_err-found-clause-ok g c = refused c.from_residual-in_err-found.result _ _ c.from_residual-in_err-found.ensures.1

pub returns-in_err-found-clause-only : goal.returns-in_err-found-clause-only
returns-in_err-found-clause-only g c = refused-as c.from_residual-in_err-found.result _ _ c.from_residual-in_err-found.ensures.1 (λ fault same. same ∙ c.in_err-found.ensures.only)
