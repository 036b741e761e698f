use Rattle.std.proofs.Common.{◌≡◌, ◌∙◌, refl, ap, sym, length, map, slice_index, false}
use Rattle.std.specs.Prelude.{sum}
use Rattle.resolver_sampling.specs.SumTrees.{mark}
use Rattle.resolver_fetch_scan.specs.Pools.{IsNamed, IsPool, is_named}
use Rattle.resolver_fetch_scan.specs.Trying.{apart_from}
use Rattle.resolver_fetch_scan.proofs.Pools.{all-others, count-others, last-mark, mark-at, same-count, weighing_of, weighs-within}
use Rattle.resolver_fetch_scan.proofs.pool.Pool.is_last.Goals as goal

pub weight-requires : goal.weight-requires
weight-requires g c =
    let held = c.deref-held.result.now in
    let pool : IsPool g.P.Ord.cmp held.names.items held.weights held.taken.items = rw (c.deref-held.ensures) c.self.invariant in
    let named : IsNamed g.P.Ord.cmp held.names.items c.in-Some.place c.args.peer.now = rw (← c.deref.ensures.value) c.in-Some.ensures in
    weighs-within g.P.Ord.cmp held.names.items held.weights held.taken.items pool c.args.peer.now c.in-Some.place named

pub returns-in-Some : goal.returns-in-Some
returns-in-Some g c =
    let held = c.deref-held.result.now in
    let pool : IsPool g.P.Ord.cmp held.names.items held.weights held.taken.items = rw (c.deref-held.ensures) c.self.invariant in
    let named : IsNamed g.P.Ord.cmp held.names.items c.in-Some.place c.args.peer.now = rw (← c.deref.ensures.value) c.in-Some.ensures in
    let one : c.mark.result ≡ slice_index (map mark held.weights) c.in-Some.place = c.mark.ensures ∙ ap mark c.weight.ensures ∙ sym (mark-at held.weights c.in-Some.place) in
    rw (c.positive_count-count.ensures.marks, one, ← c.self.view_is, ← c.deref-held.ensures)
    (last-mark (length (apart_from g.P.Ord.cmp c.args.peer.now (weighing_of held.names.items held.weights))) (slice_index (map mark held.weights) c.in-Some.place) (sum (map mark held.weights))
    (count-others g.met.P.Ord.total c.args.peer.now held.names.items held.weights c.in-Some.place pool.ordered pool.many named))

pub returns-in-None : goal.returns-in-None
returns-in-None g c =
    let held = c.deref-held.result.now in
    let pool : IsPool g.P.Ord.cmp held.names.items held.weights held.taken.items = rw (c.deref-held.ensures) c.self.invariant in
    let none : is_named g.P.Ord.cmp held.names.items c.args.peer.now ≡ false = rw (← c.deref.ensures.value) c.in-None.ensures in
    let count : c.positive_count-count.result ≡ length (apart_from g.P.Ord.cmp c.args.peer.now (weighing_of held.names.items held.weights)) =
    c.positive_count-count.ensures.marks ∙ sym (same-count held.names.items held.weights pool.many)
    ∙ ap length (sym (all-others g.met.P.Ord.total c.args.peer.now held.names.items held.weights none)) in
    rw (count, ← c.self.view_is, ← c.deref-held.ensures) refl
