use Rattle.std.proofs.Common.{◌≡◌, ◌∙◌, ap, sym, slice_get, length, List, arith}
use Rattle.resolver_fetch_scan.proofs.Pools.{chosen-by-place, got, none-by-place}
use Rattle.resolver_fetch_scan.proofs.pool.Pool.by_place.Goals as goal

pub returns-then-number-positive_count : goal.returns-then-number-positive_count
returns-then-number-positive_count g c =
    let held = c.deref-held.result.now in
    let many : length held.names.items ≡ length held.weights = rw (c.deref-held.ensures) c.self.invariant.many in
    rw (← c.self.view_is, ← c.deref-held.ensures) (sym (none-by-place held.names.items held.weights c.args.number many (omega (arith, c.positive_count.ensures.marks, c.if-number-positive_count.true))))

pub returns : goal.returns
returns g c =
    let held = c.deref-held.result.now in
    let many : length held.names.items ≡ length held.weights = rw (c.deref-held.ensures) c.self.invariant.many in
    rw (← c.self.view_is, ← c.deref-held.ensures) (
    got c.get.result c.deref.result.now c.pick_positive.result c.get.ensures.lookup.0 c.get.ensures.lookup.1
    ∙ ap (λ (names : List g.row.P.Denot). slice_get names c.pick_positive.result) c.deref.ensures.value
    ∙ ap (slice_get held.names.items) c.pick_positive.ensures.marks
    ∙ sym (chosen-by-place held.names.items held.weights c.args.number many (omega (arith, c.positive_count.ensures.marks, c.if-number-positive_count.false)))
    )
