use Rattle.std.proofs.Common.{◌≡◌, [], ap, sym, false}
use Rattle.resolver_sampling.specs.LeftPlaces.{restored}
use Rattle.resolver_fetch_scan.specs.Pools.{IsNamed, IsPool, is_named, whole}
use Rattle.resolver_fetch_scan.proofs.Pools.{gives-back, set-here, set-none, weighs-else, weighs-within}
use Rattle.resolver_fetch_scan.proofs.pool.Pool.set.Goals as goal

pub set-requires : goal.set-requires
set-requires g c =
    let held = c.deref_mut-held.result.now in
    let pool : IsPool g.P.Ord.cmp held.names.items held.weights held.taken.items = rw (c.deref_mut-held.ensures.value) c.self.invariant in
    let named : IsNamed g.P.Ord.cmp held.names.items c.in-Some.place c.args.peer.now = rw (← c.deref.ensures.value) c.in-Some.ensures in
    let was = restored held.weights held.taken.items in
    let back = gives-back g.P.Ord.cmp held.names.items held.weights held.taken.items pool in
    rw (c.restore.ensures.weights) (weighs-within g.P.Ord.cmp held.names.items was [] back c.args.peer.now c.in-Some.place named)

pub invariant_of-self : goal.invariant_of-self
invariant_of-self g c =
    let held = c.deref_mut-held.result.now in
    let pool : IsPool g.P.Ord.cmp held.names.items held.weights held.taken.items = rw (c.deref_mut-held.ensures.value) c.self.invariant in
    rw (c.restore.ensures.weights, c.restore.ensures.none) (gives-back g.P.Ord.cmp held.names.items held.weights held.taken.items pool)

pub invariant_of-self-2 : goal.invariant_of-self-2
invariant_of-self-2 g c =
    let held = c.deref_mut-held.result.now in
    let pool : IsPool g.P.Ord.cmp held.names.items held.weights held.taken.items = rw (c.deref_mut-held.ensures.value) c.self.invariant in
    let was = restored held.weights held.taken.items in
    let back = gives-back g.P.Ord.cmp held.names.items held.weights held.taken.items pool in
    rw (c.set.ensures, c.restore.ensures.weights, c.restore.ensures.none)
    (weighs-else g.P.Ord.cmp held.names.items was [] back c.in-Some.place c.args.weight)

pub returns-in_default : goal.returns-in_default
returns-in_default g c =
    let held = c.deref_mut-held.result.now in
    let was = restored held.weights held.taken.items in
    let none : is_named g.P.Ord.cmp held.names.items c.args.peer.now ≡ false = rw (← c.deref.ensures.value) c.in_default.ensures in
    rw (c.restore.ensures.weights, c.restore.ensures.none, ← c.self.view_is, ← c.deref_mut-held.ensures.value)
    (sym (ap whole (set-none g.met.P.Ord.total c.args.peer.now held.names.items was c.args.weight none)))

pub returns : goal.returns
returns g c =
    let held = c.deref_mut-held.result.now in
    let pool : IsPool g.P.Ord.cmp held.names.items held.weights held.taken.items = rw (c.deref_mut-held.ensures.value) c.self.invariant in
    let named : IsNamed g.P.Ord.cmp held.names.items c.in-Some.place c.args.peer.now = rw (← c.deref.ensures.value) c.in-Some.ensures in
    let was = restored held.weights held.taken.items in
    rw (c.set.ensures, c.restore.ensures.weights, c.restore.ensures.none, ← c.self.view_is, ← c.deref_mut-held.ensures.value)
    (ap whole (set-here g.met.P.Ord.total c.args.peer.now held.names.items was c.in-Some.place c.args.weight pool.ordered named))
