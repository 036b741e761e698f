use Rattle.resolver_demand.proofs.ListedRows.{all-kept}
use Rattle.resolver_demand.proofs.subscribers.Tracker.retain.Goals as goal

pub invariant_of-self : goal.invariant_of-self
invariant_of-self g c = rw c.prune.ensures (all-kept g.S.Ord.cmp (g.Q.Predicate.keeps c.args.keep.now) c.self.inside.demand.entries c.self.invariant)
