use Rattle.std.proofs.Common.{◌≡◌, length, take, drop, sym, ap, ◌∙◌, arith, length-drop}
use Rattle.std.proofs.lemmas.Result.{err_from_is_err_and}
use Rattle.resolver_wire.specs.Layout.{message_of, value_len, end_of}
use Rattle.resolver_wire.proofs.Layouts.{whole_refused, whole_extra, whole_read, done, value_at_end}
use Rattle.resolver_wire.proofs.wire.Message.whole.Goals as goal

pub returns-in_err-layout-clause-exact : goal.returns-in_err-layout-clause-exact
returns-in_err-layout-clause-exact g c =
    let p = err_from_is_err_and c.from_residual.result c.from_residual.ensures.1 in
    rw (p.1, p.2, ← c.as_slice.ensures) (sym (whole_refused g.Key.Span.SIZE g.Key.Span.read_from _ _ c.in_err-layout.ensures.lies))

pub returns-then-lead-value-clause-exact : goal.returns-then-lead-value-clause-exact
returns-then-lead-value-clause-exact g c =
    let lies = c.in_ok-layout.ensures in
    let shown = c.as_slice.ensures in
    rw (← shown) (sym (whole_extra g.Key.Span.SIZE g.Key.Span.read_from _ _ _ lies.lies (omega (arith, length-drop (end_of c.in_ok-layout.layout) c.as_slice.result.now, ap length shown, lies.within))))

pub returns-clause-exact : goal.returns-clause-exact
returns-clause-exact g c =
    let lies = c.in_ok-layout.ensures in
    let shown = c.as_slice.ensures in
    let layout = c.in_ok-layout.layout in
    let value : c.advance.new.self ≡ take (value_len layout.body.kind) (drop layout.body.lead (drop 8 c.as_slice.result.now)) =
    c.advance.ensures ∙ rw (c.lead-2.ensures, ← shown) (sym (value_at_end c.as_slice.result.now layout.body.lead (value_len layout.body.kind) (omega (arith, ap length shown)))) in
    rw (← shown)
    (ap done (c.with_value.ensures ∙ ap (message_of layout) value)
    ∙ sym (whole_read g.Key.Span.SIZE g.Key.Span.read_from _ _ _ lies.lies (omega (arith, length-drop (end_of layout) c.as_slice.result.now, ap length shown, lies.within))))
