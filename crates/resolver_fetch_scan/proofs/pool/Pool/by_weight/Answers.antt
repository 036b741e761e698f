use Rattle.std.proofs.Common.{◌≡◌, ◌∙◌, ap, sym, slice_get, length, List, arith}
use Rattle.resolver_fetch_scan.proofs.Pools.{chosen-by-weight, got, none-by-weight}
use Rattle.resolver_fetch_scan.proofs.pool.Pool.by_weight.Goals as goal

pub returns-then-number-total : goal.returns-then-number-total
returns-then-number-total g c =
    let held = c.deref-held.result.now in
    let many : length held.names.items ≡ length held.weights = rw (c.deref-held.ensures) c.self.invariant.many in
    rw (← c.self.view_is, ← c.deref-held.ensures) (sym (none-by-weight held.names.items held.weights c.args.number many (omega (arith, c.total.ensures, c.if-number-total.true))))

pub returns : goal.returns
returns g c =
    let held = c.deref-held.result.now in
    let many : length held.names.items ≡ length held.weights = rw (c.deref-held.ensures) c.self.invariant.many in
    rw (← c.self.view_is, ← c.deref-held.ensures) (
    got c.get.result c.deref.result.now c.pick.result c.get.ensures.lookup.0 c.get.ensures.lookup.1
    ∙ ap (λ (names : List g.row.P.Denot). slice_get names c.pick.result) c.deref.ensures.value
    ∙ ap (slice_get held.names.items) c.pick.ensures.place
    ∙ sym (chosen-by-weight held.names.items held.weights c.args.number many (omega (arith, c.total.ensures, c.if-number-total.false)))
    )
