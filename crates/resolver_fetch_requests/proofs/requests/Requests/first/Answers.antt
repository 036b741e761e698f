use Rattle.resolver_fetch_requests.proofs.Soonest.{found}
use Rattle.resolver_fetch_requests.proofs.requests.Requests.first.Goals as goal

pub returns-clause-found : goal.returns-clause-found
returns-clause-found g c = rw (← c.self.view_is) (found c.self.inside.by_id c.self.invariant.ids)
