use Rattle.std.proofs.Common.{◌≡◌, ◌∙◌, ◌<◌, ◌≤◌, [], ap, sym, slice_index, false, ℕ, List, arith}
use Rattle.resolver_sampling.specs.LeftPlaces.{restored}
use Rattle.resolver_fetch_scan.specs.Pools.{IsNamed, IsPool, Pool, is_named, weighing, weighted, whole}
use Rattle.resolver_fetch_scan.proofs.Pools.{gives-back, revalued-none, revalued-nothing, revalued-some, set-here, weight-here, weight-none, weighs-else, weighs-within}
use Rattle.resolver_fetch_scan.proofs.pool.Pool.revalue.Goals as goal

pub weight-requires : goal.weight-requires
weight-requires g c =
    let held = c.deref_mut-held.result.now in
    let pool : IsPool g.P.Ord.cmp held.names.items held.weights held.taken.items = rw (c.deref_mut-held.ensures.value) c.self.invariant in
    let named : IsNamed g.P.Ord.cmp held.names.items c.in-Some.place c.args.peer.now = rw (← c.deref.ensures.value) c.in-Some.ensures in
    let was = restored held.weights held.taken.items in
    let back = gives-back g.P.Ord.cmp held.names.items held.weights held.taken.items pool in
    rw (c.restore.ensures.weights) (weighs-within g.P.Ord.cmp held.names.items was [] back c.args.peer.now c.in-Some.place named)

pub invariant_of-self : goal.invariant_of-self
invariant_of-self g c =
    let held = c.deref_mut-held.result.now in
    let pool : IsPool g.P.Ord.cmp held.names.items held.weights held.taken.items = rw (c.deref_mut-held.ensures.value) c.self.invariant in
    rw (c.restore.ensures.weights, c.restore.ensures.none) (gives-back g.P.Ord.cmp held.names.items held.weights held.taken.items pool)

pub invariant_of-self-then-weight-eq0 : goal.invariant_of-self-then-weight-eq0
invariant_of-self-then-weight-eq0 g c =
    let held = c.deref_mut-held.result.now in
    let pool : IsPool g.P.Ord.cmp held.names.items held.weights held.taken.items = rw (c.deref_mut-held.ensures.value) c.self.invariant in
    rw (c.restore.ensures.weights, c.restore.ensures.none) (gives-back g.P.Ord.cmp held.names.items held.weights held.taken.items pool)

pub invariant_of-self-2 : goal.invariant_of-self-2
invariant_of-self-2 g c =
    let held = c.deref_mut-held.result.now in
    let pool : IsPool g.P.Ord.cmp held.names.items held.weights held.taken.items = rw (c.deref_mut-held.ensures.value) c.self.invariant in
    let was = restored held.weights held.taken.items in
    let back = gives-back g.P.Ord.cmp held.names.items held.weights held.taken.items pool in
    rw (c.set.ensures, c.restore.ensures.weights, c.restore.ensures.none)
    (weighs-else g.P.Ord.cmp held.names.items was [] back c.in-Some.place c.args.value)

pub returns : goal.returns
returns g c =
    let held = c.deref_mut-held.result.now in
    let peer = c.args.peer.now in
    let place = c.in-Some.place in
    let pool : IsPool g.P.Ord.cmp held.names.items held.weights held.taken.items = rw (c.deref_mut-held.ensures.value) c.self.invariant in
    let named : IsNamed g.P.Ord.cmp held.names.items place peer = rw (← c.deref.ensures.value) c.in-Some.ensures in
    let was = restored held.weights held.taken.items in
    let back = gives-back g.P.Ord.cmp held.names.items held.weights held.taken.items pool in
    let view : Pool g.row.P.Denot = record { all = weighted held.names.items was; left = weighing (weighted held.names.items held.weights) } in
    let weight : c.weight.result ≡ slice_index was place = c.weight.ensures ∙ ap (λ (ws : List ℕ). slice_index ws place) c.restore.ensures.weights in
    let some : 0 < slice_index was place = omega (arith, weight, c.if-weight-eq0.false) in
    rw (c.set.ensures, c.restore.ensures.weights, c.restore.ensures.none, ← c.self.view_is, ← c.deref_mut-held.ensures.value)
    (ap whole (set-here g.met.P.Ord.total peer held.names.items was place c.args.value pool.ordered named)
    ∙ sym (revalued-some g.met.P.Ord.total peer view (slice_index was place) c.args.value
    (weight-here g.met.P.Ord.total peer held.names.items was place pool.ordered back.many named) some))

pub returns-then-weight-eq0 : goal.returns-then-weight-eq0
returns-then-weight-eq0 g c =
    let held = c.deref_mut-held.result.now in
    let peer = c.args.peer.now in
    let place = c.in-Some.place in
    let pool : IsPool g.P.Ord.cmp held.names.items held.weights held.taken.items = rw (c.deref_mut-held.ensures.value) c.self.invariant in
    let named : IsNamed g.P.Ord.cmp held.names.items place peer = rw (← c.deref.ensures.value) c.in-Some.ensures in
    let was = restored held.weights held.taken.items in
    let back = gives-back g.P.Ord.cmp held.names.items held.weights held.taken.items pool in
    let view : Pool g.row.P.Denot = record { all = weighted held.names.items was; left = weighing (weighted held.names.items held.weights) } in
    let weight : c.weight.result ≡ slice_index was place = c.weight.ensures ∙ ap (λ (ws : List ℕ). slice_index ws place) c.restore.ensures.weights in
    let none : slice_index was place ≤ 0 = omega (arith, weight, c.if-weight-eq0.true) in
    rw (c.restore.ensures.weights, c.restore.ensures.none, ← c.self.view_is, ← c.deref_mut-held.ensures.value)
    (sym (revalued-nothing g.met.P.Ord.total peer view (slice_index was place) c.args.value
    (weight-here g.met.P.Ord.total peer held.names.items was place pool.ordered back.many named) none))

pub returns-in_default : goal.returns-in_default
returns-in_default g c =
    let held = c.deref_mut-held.result.now in
    let peer = c.args.peer.now in
    let was = restored held.weights held.taken.items in
    let view : Pool g.row.P.Denot = record { all = weighted held.names.items was; left = weighing (weighted held.names.items held.weights) } in
    let none : is_named g.P.Ord.cmp held.names.items peer ≡ false = rw (← c.deref.ensures.value) c.in_default.ensures in
    rw (c.restore.ensures.weights, c.restore.ensures.none, ← c.self.view_is, ← c.deref_mut-held.ensures.value)
    (sym (revalued-none g.met.P.Ord.total peer view c.args.value (weight-none g.met.P.Ord.total peer held.names.items was none)))
