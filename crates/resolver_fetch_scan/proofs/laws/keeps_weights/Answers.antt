use Rattle.resolver_fetch_scan.specs.Orders.{orders}
use Rattle.resolver_fetch_scan.proofs.Weights.{keeps_weights}
use Rattle.resolver_fetch_scan.proofs.laws.keeps_weights.Goals as goal

pub returns : goal.returns
returns g c = keeps_weights (orders g.K.Ord.cmp g.P.Ord.cmp)
