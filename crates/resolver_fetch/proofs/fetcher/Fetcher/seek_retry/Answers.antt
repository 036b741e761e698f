use Rattle.std.proofs.Common.{◌≡◌, ap, ◌∙◌, true}
use Rattle.std.proofs.lemmas.Result.{IfOk-weaker}
use Rattle.resolver_fetch_scan.specs.Fetcher.{Fetcher}
use Rattle.resolver_fetch_scan.specs.Orders.{orders}
use Rattle.resolver_fetch_waiting.specs.Queues.{placed, retry_queue}
use Rattle.resolver_fetch.specs.Seeking.{first_until}
use Rattle.resolver_fetch.proofs.Dues.{from-first}
use Rattle.resolver_fetch_scan.proofs.Outcomes.{refused}
use Rattle.resolver_fetch.proofs.fetcher.Fetcher.seek_retry.Goals as goal

pub returns-clause-ok : goal.returns-clause-ok
returns-clause-ok g c =
    let o = orders g.K.Ord.cmp g.P.Ord.cmp in
    let f = c.args.self.now in
    let waiting : c.keys.result.now ≡ f.waiting = c.keys.ensures ∙ ap (λ (f : Fetcher g.row.K.Denot g.row.P.Denot). f.waiting) c.self.view_is in
    let queue : c.in_ok-queue.queue ≡ retry_queue f.waiting = c.in_ok-queue.ensures.rest ∙ from-first c.retry.result.now ∙ c.retry.ensures.keys ∙ ap retry_queue waiting in
    IfOk-weaker c.first_until.result _ _ (λ t it. it ∙ ap (λ ps. first_until o f c.args.trail.now c.args.moment (placed true ps)) queue) c.first_until.ensures.ok

pub first_until-requires-clause-ordered : goal.first_until-requires-clause-ordered
first_until-requires-clause-ordered g c = c.in_ok-queue.ensures.ordered

pub first_until-requires-clause-runs : goal.first_until-requires-clause-runs
first_until-requires-clause-runs g c = c.in_ok-queue.ensures.runs

pub first_until-requires-clause-at_hand : goal.first_until-requires-clause-at_hand
first_until-requires-clause-at_hand g c = c.requires.at_hand

pub returns-in_err-queue-clause-ok : goal.returns-in_err-queue-clause-ok
returns-in_err-queue-clause-ok g c = refused c.from_residual.result _ _ c.from_residual.ensures.1
