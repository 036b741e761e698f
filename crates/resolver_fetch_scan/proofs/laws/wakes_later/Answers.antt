use Rattle.resolver_fetch_scan.specs.Orders.{orders}
use Rattle.resolver_fetch_scan.proofs.WakesLater.{wakes_later}
use Rattle.resolver_fetch_scan.proofs.laws.wakes_later.Goals as goal

pub returns : goal.returns
returns g c = wakes_later (orders g.K.Ord.cmp g.P.Ord.cmp)
