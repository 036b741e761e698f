use Rattle.std.proofs.Common.{refl, Ok, Err}
use Rattle.resolver_model_peer.specs.Parties.{parties}
use Rattle.resolver_peer_step.specs.Said.{codec}
use Rattle.resolver_peer_step.proofs.Scanned.{answer-refused, answer-taken}
use Rattle.resolver_model_peer.proofs.Refusals.{refused-with}
use Rattle.resolver_peer_step.proofs.parts.Parts.scan_answer.Goals as goal

pub returns-in_err-asked-clause-takes : goal.returns-in_err-asked-clause-takes
returns-in_err-asked-clause-takes g c = λ m is.
    let a = parties g.K.Ord.cmp g.S.Ord.cmp g.P.Ord.cmp in
    let words = codec g.K.Span.SIZE g.K.Span.bytes_of g.K.Span.read_from in
    let o = g.met.K.Ord.total in
    rw (refused-with c.from_residual.result _ c.from_residual.ensures.1) (answer-refused a o words c.args.self.now _ m c.args.answer c.args.effects.now.items is refl c.in_err-asked.ensures.err c.in_err-asked.field-0.0
    c.in_err-asked.ensures.refused c.in_err-asked.ensures.takes)

pub returns-in_err-tell_asked-clause-takes : goal.returns-in_err-tell_asked-clause-takes
returns-in_err-tell_asked-clause-takes g c = λ m is.
    let a = parties g.K.Ord.cmp g.S.Ord.cmp g.P.Ord.cmp in
    let words = codec g.K.Span.SIZE g.K.Span.bytes_of g.K.Span.read_from in
    let o = g.met.K.Ord.total in
    let refused = c.from_residual-in_err-tell_asked in
    rw (refused-with refused.result _ refused.ensures.1) (answer-taken a o words c.args.self.now _ m c.args.answer c.in_ok-asked.asked _ _ is refl
    c.in_ok-asked.ensures.ok c.in_ok-asked.ensures.asked c.in_ok-asked.ensures.new_id (Err _) tt c.in_err-tell_asked.ensures.only)

pub returns-clause-takes : goal.returns-clause-takes
returns-clause-takes g c = λ m is.
    let a = parties g.K.Ord.cmp g.S.Ord.cmp g.P.Ord.cmp in
    let words = codec g.K.Span.SIZE g.K.Span.bytes_of g.K.Span.read_from in
    let o = g.met.K.Ord.total in
    answer-taken a o words c.args.self.now _ m c.args.answer c.in_ok-asked.asked _ _ is refl
    c.in_ok-asked.ensures.ok c.in_ok-asked.ensures.asked c.in_ok-asked.ensures.new_id (Ok tt) c.in_ok-tell_asked.ensures.ok tt
