use Rattle.resolver_fetch_waiting.proofs.Bounds.{kept-bound}
use Rattle.resolver_fetch_waiting.proofs.pending.Pending.remove.Goals as goal

pub invariant_of-self : goal.invariant_of-self
invariant_of-self g c =
    let a = c.self.inside in
    rw c.remove.ensures (kept-bound g.met.K.Ord.total _ a.moment a.keys a.bound c.self.invariant)
