use Rattle.std.proofs.lemmas.Cmp.{eq_by_cmp_equiv}
use Rattle.resolver_fetch_scan.specs.Fetcher.{snapshot}
use Rattle.resolver_fetch_scan.specs.Orders.{orders}
use Rattle.resolver_fetch.proofs.DrawCounts.{draw_counts}
use Rattle.resolver_fetch.proofs.fetcher.laws.draw_counts.Goals as goal

pub returns : goal.returns
returns g c =
    let o = orders g.K.Ord.cmp g.P.Ord.cmp in
    draw_counts o (snapshot o c.args.fetcher.now) (eq_by_cmp_equiv g.met.P.Ord.total) (rw (← c.fetcher.view_is) c.law.ensures)
