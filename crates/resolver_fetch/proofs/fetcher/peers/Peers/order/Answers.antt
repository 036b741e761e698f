use Rattle.resolver_fetch.proofs.fetcher.peers.Peers.order.Goals as goal

pub returns-clause-ordered : goal.returns-clause-ordered
returns-clause-ordered g c = rw (← c.self.view_is) c.len-count.ensures.ordered

pub returns-clause-few : goal.returns-clause-few
returns-clause-few g c = rw (← c.self.view_is) (rw c.len-count.ensures.len at c.len-count.ensures.small)
