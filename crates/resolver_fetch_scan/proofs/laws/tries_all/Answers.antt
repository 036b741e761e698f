use Rattle.resolver_fetch_scan.specs.Orders.{orders}
use Rattle.resolver_fetch_scan.proofs.TriesAll.{tries_all}
use Rattle.resolver_fetch_scan.proofs.laws.tries_all.Goals as goal

pub returns : goal.returns
returns g c = tries_all (orders g.K.Ord.cmp g.P.Ord.cmp)
