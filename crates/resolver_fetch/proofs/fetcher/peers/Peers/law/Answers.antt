use Rattle.std.proofs.lemmas.Map.Keys.{IsDistinct-from_sorted}
use Rattle.resolver_fetch.proofs.fetcher.peers.Peers.law.Goals as goal

pub returns : goal.returns
returns g c = rw (← c.self.view_is) (IsDistinct-from_sorted g.P.Ord.cmp _ c.len-count.ensures.ordered)
