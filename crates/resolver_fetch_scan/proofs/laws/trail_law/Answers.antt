use Rattle.resolver_fetch_scan.specs.Orders.{orders}
use Rattle.resolver_fetch_scan.proofs.TrailLaws.{trail_law}
use Rattle.resolver_fetch_scan.proofs.laws.trail_law.Goals as goal

pub returns : goal.returns
returns g c = trail_law (orders g.K.Ord.cmp g.P.Ord.cmp)
