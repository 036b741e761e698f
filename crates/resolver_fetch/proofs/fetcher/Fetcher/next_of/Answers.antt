use Rattle.std.proofs.Common.{ap, sym, ◌∙◌}
use Rattle.resolver_fetch_scan.specs.Orders.{orders}
use Rattle.resolver_fetch_scan.specs.declared.trying.Next.TheVariants.{Wait}
use Rattle.resolver_fetch_scan.specs.Fetcher.{Fetcher}
use Rattle.resolver_fetch.specs.Seeking.{next_for, scan_at, tried_again}
use Rattle.resolver_fetch.proofs.fetcher.Fetcher.next_of.Goals as goal

pub returns-in-Some-clause-ok : goal.returns-in-Some-clause-ok
returns-in-Some-clause-ok g c =
    let o = orders g.K.Ord.cmp g.P.Ord.cmp in
    ap (λ found. next_for o found (tried_again o c.args.self.now (scan_at c.args.moment c.args.trail.now))) (sym c.in-Some.is ∙ c.in_ok-trying.ensures.ok)

pub returns-in-None-clause-ok : goal.returns-in-None-clause-ok
returns-in-None-clause-ok g c =
    let o = orders g.K.Ord.cmp g.P.Ord.cmp in
    let scan = scan_at c.args.moment c.args.trail.now in
    ap Wait (c.moment.ensures ∙ ap (λ (f : Fetcher g.row.K.Denot g.row.P.Denot). tried_again o f scan) c.self.view_is)
    ∙ ap (λ found. next_for o found (tried_again o c.args.self.now scan)) (sym c.in-None.is ∙ c.in_ok-trying.ensures.ok)
