use Rattle.resolver_fetch_scan.proofs.Outcomes.{on-err}
use Rattle.std.proofs.Common.{sym, subst, arith}
use Rattle.resolver_fetch_scan.specs.Orders.{orders}
use Rattle.resolver_fetch_scan.specs.TrailLaws.{BeginsRightly}
use Rattle.resolver_fetch_scan.proofs.TrailLaws.{trail_law}
use Rattle.resolver_fetch.proofs.fetcher.Fetcher.scan_begin.Goals as goal

pub go_on-requires-clause-closed : goal.go_on-requires-clause-closed
go_on-requires-clause-closed g c = rw c.find.ensures.same c.requires.closed

pub go_on-requires-clause-next : goal.go_on-requires-clause-next
go_on-requires-clause-next g c = rw c.find.ensures.same c.in_ok-next.ensures.ok

pub returns-clause-ok : goal.returns-clause-ok
returns-clause-ok g c = rw (c.find.ensures.same, c.new-trail.ensures) at c.go_on.ensures.after

pub returns-in_err-next-clause-err : goal.returns-in_err-next-clause-err
returns-in_err-next-clause-err g c = on-err c.from_residual.result _ c.find.ensures.same

pub returns-clause-law : goal.returns-clause-law
returns-clause-law g c =
    let o = orders g.K.Ord.cmp g.P.Ord.cmp in
    subst (BeginsRightly o c.args.now c.args.self.now) (sym (returns-clause-ok g c)) ((trail_law o).begun c.args.self.now c.args.now (omega (arith, c.requires.moment)))
