use Rattle.std.proofs.Common.{◌≡◌, filter}
use Rattle.resolver_fetch_waiting.proofs.Bounds.{kept-bound}
use Rattle.resolver_fetch_waiting.proofs.Joined.{fewer-filtered}
use Rattle.resolver_fetch_waiting.proofs.pending.Pending.retain.Goals as goal

pub invariant_of-self : goal.invariant_of-self
invariant_of-self g c =
    let a = c.self.inside in
    rw c.retain.ensures.part.1 (kept-bound g.met.K.Ord.total c.retain.ensures.part.0 a.moment a.keys a.bound c.self.invariant)

pub returns-clause-fewer : goal.returns-clause-fewer
returns-clause-fewer g c = λ key.
    let kept : c.retain.new.self ≡ filter c.retain.ensures.part.0 c.self.inside.keys = c.retain.ensures.part.1 in
    rw (kept, ← c.self.view_is) (fewer-filtered g.K.Ord.cmp c.retain.ensures.part.0 key c.self.inside.keys)
