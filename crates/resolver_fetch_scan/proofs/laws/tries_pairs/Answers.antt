use Rattle.resolver_fetch_scan.specs.Orders.{orders}
use Rattle.resolver_fetch_scan.proofs.TriesPairs.{tries_pairs}
use Rattle.resolver_fetch_scan.proofs.laws.tries_pairs.Goals as goal

pub returns : goal.returns
returns g c = tries_pairs (orders g.K.Ord.cmp g.P.Ord.cmp)
