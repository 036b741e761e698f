use Rattle.std.proofs.Common.{ap}
use Rattle.resolver_fetch_waiting.specs.Pending.{with_key}
use Rattle.resolver_fetch_scan.proofs.Outcomes.{on-err}
use Rattle.resolver_fetch_waiting.proofs.Bounds.{either_way, put-bound, raised-bound}
use Rattle.resolver_fetch_waiting.proofs.pending.Pending.put.Goals as goal

pub invariant_of-self-2 : goal.invariant_of-self-2
invariant_of-self-2 g c =
    let total = g.met.K.Ord.total in
    let a = c.self.inside in
    rw c.in_ok-raise.ensures.ok
    (either_way c.put.result _ _ _ c.put.ensures.ok c.put.ensures.err
    (λ is. rw is (put-bound total a.moment (c.args.place, c.args.key) a.keys a.bound c.self.invariant))
    (λ is. rw is (raised-bound total a.moment c.args.key a.keys a.bound c.self.invariant)))

-- where memory is wanting, what waits is as it was
pub invariant_of-self : goal.invariant_of-self
invariant_of-self g c = rw c.in_err-raise.ensures.err c.self.invariant

pub invariant_of-self-in_err-put : goal.invariant_of-self-in_err-put
invariant_of-self-in_err-put g c =
    let a = c.self.inside in
    rw (c.in_err-put.ensures.err, c.in_ok-raise.ensures.ok) (raised-bound g.met.K.Ord.total a.moment c.args.key a.keys a.bound c.self.invariant)

pub returns-in_err-raise-clause-err : goal.returns-in_err-raise-clause-err
returns-in_err-raise-clause-err g c = on-err c.from_residual.result _ c.self.view_is

pub returns-in_err-put-clause-err : goal.returns-in_err-put-clause-err
returns-in_err-put-clause-err g c = on-err c.from_residual-in_err-put.result _ (rw c.in_err-put.ensures.err c.self.view_is)

pub returns-clause-ok : goal.returns-clause-ok
returns-clause-ok g c = rw c.in_ok-put.ensures.ok (ap (with_key g.K.Ord.cmp (c.args.place, c.args.key)) c.self.view_is)
