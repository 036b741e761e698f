use Rattle.std.proofs.Common.{ap, ◌∙◌, is_some}
use Rattle.resolver_fetch_requests.specs.Requests.{is_asked}
use Rattle.resolver_fetch_scan.specs.Fetcher.{Fetcher}
use Rattle.resolver_fetch.proofs.Kept.{closed-any, kept-put}
use Rattle.resolver_fetch_waiting.proofs.Bounds.{either_way}
use Rattle.resolver_fetch.proofs.fetcher.Fetcher.add_ready.Goals as goal

pub invariant_of-self : goal.invariant_of-self
invariant_of-self g c =
    let a = c.self.inside in
    let shut = ap is_some (ap (λ (f : Fetcher g.row.K.Denot g.row.P.Denot). f.scan) c.self.view_is) ∙ c.requires.closed in
    let idle = ap (λ (f : Fetcher g.row.K.Denot g.row.P.Denot). is_asked g.K.Ord.cmp f.asked c.args.key) c.self.view_is ∙ c.requires.not_asked in
    either_way c.put.result _ _ _ c.put.ensures.ok c.put.ensures.err
    (λ is. rw is (kept-put g.met.K.Ord.total a.fetch_timeout a.retry_delay a.last_id a.pending.keys a.requests c.self.invariant.0 (_, c.args.key) idle, c.self.invariant.1, closed-any a.cursor shut _))
    (λ is. rw is (c.self.invariant.0, c.self.invariant.1, closed-any a.cursor shut _))
