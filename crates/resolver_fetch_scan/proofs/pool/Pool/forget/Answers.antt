use Rattle.std.proofs.Common.{◌≡◌, ap, sym, List, ℕ, false}
use Rattle.resolver_sampling.specs.LeftPlaces.{restored}
use Rattle.resolver_fetch_scan.specs.Pools.{IsNamed, IsPool, Pool, is_named, weighted}
use Rattle.resolver_fetch_scan.proofs.Pools.{all-others, others-left, restored-more, takes-one, weighing_of, weighs-within}
use Rattle.resolver_fetch_scan.proofs.pool.Pool.forget.Goals as goal

pub weight-weight-requires : goal.weight-weight-requires
weight-weight-requires g c =
    let held = c.deref_mut-held.result.now in
    let pool : IsPool g.P.Ord.cmp held.names.items held.weights held.taken.items = rw (c.deref_mut-held.ensures.value) c.self.invariant in
    let named : IsNamed g.P.Ord.cmp held.names.items c.in-Some.place c.args.peer.now = rw (← c.deref.ensures.value) c.in-Some.ensures in
    weighs-within g.P.Ord.cmp held.names.items held.weights held.taken.items pool c.args.peer.now c.in-Some.place named

pub set-requires : goal.set-requires
set-requires g c =
    let held = c.deref_mut-held.result.now in
    let pool : IsPool g.P.Ord.cmp held.names.items held.weights held.taken.items = rw (c.deref_mut-held.ensures.value) c.self.invariant in
    let named : IsNamed g.P.Ord.cmp held.names.items c.in-Some.place c.args.peer.now = rw (← c.deref.ensures.value) c.in-Some.ensures in
    weighs-within g.P.Ord.cmp held.names.items held.weights held.taken.items pool c.args.peer.now c.in-Some.place named

pub invariant_of-self-2 : goal.invariant_of-self-2
invariant_of-self-2 g c =
    let held = c.deref_mut-held.result.now in
    let pool : IsPool g.P.Ord.cmp held.names.items held.weights held.taken.items = rw (c.deref_mut-held.ensures.value) c.self.invariant in
    let named : IsNamed g.P.Ord.cmp held.names.items c.in-Some.place c.args.peer.now = rw (← c.deref.ensures.value) c.in-Some.ensures in
    let within = weighs-within g.P.Ord.cmp held.names.items held.weights held.taken.items pool c.args.peer.now c.in-Some.place named in
    rw (c.set.ensures, c.in_ok-push.ensures.items)
    (takes-one g.P.Ord.cmp held.names.items held.weights held.taken.items pool c.in-Some.place c.weight-weight.result within)

pub returns-clause-ok : goal.returns-clause-ok
returns-clause-ok g c =
    let held = c.deref_mut-held.result.now in
    let pool : IsPool g.P.Ord.cmp held.names.items held.weights held.taken.items = rw (c.deref_mut-held.ensures.value) c.self.invariant in
    let named : IsNamed g.P.Ord.cmp held.names.items c.in-Some.place c.args.peer.now = rw (← c.deref.ensures.value) c.in-Some.ensures in
    let seen : Pool g.row.P.Denot = record { all = weighted held.names.items (restored held.weights held.taken.items); left = weighing_of held.names.items held.weights } in
    rw (c.set.ensures, c.in_ok-push.ensures.items, c.weight-weight.ensures, restored-more held.weights held.taken.items c.in-Some.place, ← c.self.view_is, ← c.deref_mut-held.ensures.value)
    (ap (λ (left : List (g.row.P.Denot × ℕ)). record seen { left = left }) (others-left g.met.P.Ord.total c.args.peer.now held.names.items held.weights c.in-Some.place pool.ordered named))

pub returns-in_default-clause-ok : goal.returns-in_default-clause-ok
returns-in_default-clause-ok g c =
    let held = c.deref_mut-held.result.now in
    let none : is_named g.P.Ord.cmp held.names.items c.args.peer.now ≡ false = rw (← c.deref.ensures.value) c.in_default.ensures in
    let seen : Pool g.row.P.Denot = record { all = weighted held.names.items (restored held.weights held.taken.items); left = weighing_of held.names.items held.weights } in
    rw (← c.self.view_is, ← c.deref_mut-held.ensures.value) (ap (λ (ps : List (g.row.P.Denot × ℕ)). record seen { left = ps }) (sym (all-others g.met.P.Ord.total c.args.peer.now held.names.items held.weights none)))
