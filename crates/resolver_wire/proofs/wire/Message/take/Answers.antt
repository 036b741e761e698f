use Rattle.std.proofs.Common.{◌≡◌, ◌+◌, length, take, drop, ap, ◌∙◌, inr, arith}
use Rattle.std.proofs.lemmas.Bool.{false≢true}
use Rattle.std.proofs.lemmas.Result.{err_from_is_err_and}
use Rattle.resolver_wire.specs.Layout.{message_of, value_len, end_of}
use Rattle.resolver_wire.proofs.Layouts.{read_is, value_cut, cuts_value}
use Rattle.resolver_wire.proofs.wire.Message.take.Goals as goal

pub returns-in_err-value-clause-refused : goal.returns-in_err-value-clause-refused
returns-in_err-value-clause-refused g c =
    let p = err_from_is_err_and c.from_residual-in_err-value.result c.from_residual-in_err-value.ensures.1 in
    let lies = c.in_ok-layout.ensures in
    let shown = c.as_slice.ensures in
    let layout = c.in_ok-layout.layout in
    let longer : c.lead-2.result + c.value-2.result ≡ length c.args.buffer.now → ⊥ = λ e. false≢true (c.in_err-value.ensures.whole e) in
    rw (p.1) (inr (p.2, rw (← shown, lies.lies) (cuts_value layout c.as_slice.result.now (omega arith) (omega (arith, ap length shown, lies.within)))))

pub returns-clause-ok : goal.returns-clause-ok
returns-clause-ok g c =
    let lies = c.in_ok-layout.ensures in
    let shown = c.as_slice.ensures in
    let layout = c.in_ok-layout.layout in
    let cut = c.in_ok-value.ensures in
    let value : c.advance-2.new.self ≡ take (value_len layout.body.kind) (drop layout.body.lead (drop 8 c.as_slice.result.now)) =
    c.advance-2.ensures ∙ rw (c.lead-3.ensures, cut.front, c.lead-2.ensures, c.value-2.ensures, ← shown) (value_cut c.as_slice.result.now layout.body.lead (value_len layout.body.kind)) in
    let rest : c.split_to.new.self ≡ drop (end_of layout) c.as_slice.result.now = cut.rest ∙ rw (← shown) (ap (λ k. drop k c.as_slice.result.now) (omega arith)) in
    rw (← shown) (read_is g.Key.Span.SIZE g.Key.Span.read_from c.as_slice.result.now _ _ _ _ (c.with_value-2.ensures ∙ ap (message_of layout) value) rest lies.lies)
