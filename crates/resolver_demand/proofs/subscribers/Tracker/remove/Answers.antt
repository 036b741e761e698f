use Rattle.resolver_demand.proofs.ListedRows.{all-remove}
use Rattle.resolver_demand.proofs.subscribers.Tracker.remove.Goals as goal

pub invariant_of-self : goal.invariant_of-self
invariant_of-self g c = rw c.remove.ensures.entries (all-remove g.S.Ord.cmp _ c.self.inside.demand.entries c.self.invariant)
