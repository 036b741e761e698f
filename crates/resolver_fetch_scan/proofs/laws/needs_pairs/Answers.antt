use Rattle.resolver_fetch_scan.specs.Orders.{orders}
use Rattle.resolver_fetch_scan.proofs.NeedsPairs.{needs_pairs}
use Rattle.resolver_fetch_scan.proofs.laws.needs_pairs.Goals as goal

pub returns : goal.returns
returns g c = needs_pairs (orders g.K.Ord.cmp g.P.Ord.cmp)
