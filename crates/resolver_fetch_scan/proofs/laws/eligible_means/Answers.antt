use Rattle.resolver_fetch_scan.specs.Orders.{orders}
use Rattle.resolver_fetch_scan.proofs.EligibleLaws.{eligible_means}
use Rattle.resolver_fetch_scan.proofs.laws.eligible_means.Goals as goal

pub returns : goal.returns
returns g c = eligible_means (orders g.K.Ord.cmp g.P.Ord.cmp)
