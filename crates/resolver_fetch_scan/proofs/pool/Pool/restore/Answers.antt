use Rattle.std.proofs.Common.{refl}
use Rattle.resolver_fetch_scan.specs.Pools.{IsPool}
use Rattle.resolver_fetch_scan.proofs.Pools.{gives-back}
use Rattle.resolver_fetch_scan.proofs.pool.Pool.restore.Goals as goal

pub invariant_of-self : goal.invariant_of-self
invariant_of-self g c =
    let held = c.deref_mut-held.result.now in
    let pool : IsPool g.P.Ord.cmp held.names.items held.weights held.taken.items = rw (c.deref_mut-held.ensures.value) c.self.invariant in
    rw (c.restore.ensures.weights, c.restore.ensures.none) (gives-back g.P.Ord.cmp held.names.items held.weights held.taken.items pool)

pub returns : goal.returns
returns g c = rw (c.restore.ensures.weights, c.restore.ensures.none, ← c.self.view_is, ← c.deref_mut-held.ensures.value) refl
