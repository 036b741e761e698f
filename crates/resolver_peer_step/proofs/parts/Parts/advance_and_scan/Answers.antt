use Rattle.std.proofs.Common.{refl, sym, ◌∙◌}
use Rattle.resolver_model_peer.specs.Parties.{parties}
use Rattle.resolver_peer_step.specs.Said.{codec, event_of}
use Rattle.resolver_peer_step.proofs.Agreeing.{agrees-later, closed-over}
use Rattle.resolver_peer_step.proofs.Happening.{closed-behind, happened, refused-behind, wanting-behind}
use Rattle.resolver_model_peer.proofs.Refusals.{refused-with}
use Rattle.resolver_peer_step.proofs.parts.Parts.advance_and_scan.Goals as goal

pub scan-requires-clause-closed : goal.scan-requires-clause-closed
scan-requires-clause-closed g c =
    let a = parties g.K.Ord.cmp g.S.Ord.cmp g.P.Ord.cmp in
    let words = codec g.K.Span.SIZE g.K.Span.bytes_of g.K.Span.read_from in
    let m = c.requires.tied.0 in
    closed-behind a words c.args.self.now c.advance.new.self m c.args.now (event_of words g.Q.Predicate.keeps c.args.event) c.args.effects.now.items c.advance.new.effects.items
    c.requires.tied.1 c.requires.closed (c.in_ok-advance.ensures.goes m c.requires.tied.1)

pub returns-clause-goes : goal.returns-clause-goes
returns-clause-goes g c = λ m is.
    let a = parties g.K.Ord.cmp g.S.Ord.cmp g.P.Ord.cmp in
    let words = codec g.K.Span.SIZE g.K.Span.bytes_of g.K.Span.read_from in
    happened a words m c.args.now (event_of words g.Q.Predicate.keeps c.args.event) c.args.effects.now.items c.advance.new.effects.items c.scan.new.effects.items c.advance.new.self c.scan.new.self
    (closed-over a c.args.self.now m is c.requires.closed)
    (c.in_ok-advance.ensures.goes (record m { moment = c.args.now }) (agrees-later a c.args.self.now m c.args.now is)) c.scan.result c.scan.ensures.goes

pub returns-clause-memory : goal.returns-clause-memory
returns-clause-memory g c = λ wanting m is.
    let a = parties g.K.Ord.cmp g.S.Ord.cmp g.P.Ord.cmp in
    let words = codec g.K.Span.SIZE g.K.Span.bytes_of g.K.Span.read_from in
    let first = c.in_ok-advance.ensures.goes (record m { moment = c.args.now }) (agrees-later a c.args.self.now m c.args.now is) in
    wanting-behind a words m c.args.now (event_of words g.Q.Predicate.keeps c.args.event) c.args.effects.now.items c.advance.new.effects.items c.advance.new.self first
    (c.scan.ensures.memory wanting first.done.machine first.agrees)

pub returns-in_err-advance-clause-goes : goal.returns-in_err-advance-clause-goes
returns-in_err-advance-clause-goes g c = λ m is.
    let a = parties g.K.Ord.cmp g.S.Ord.cmp g.P.Ord.cmp in
    let words = codec g.K.Span.SIZE g.K.Span.bytes_of g.K.Span.read_from in
    rw (refused-with c.from_residual.result _ c.from_residual.ensures.1)
    (refused-behind a words m c.args.now (event_of words g.Q.Predicate.keeps c.args.event) c.args.effects.now.items c.advance.new.effects.items c.advance.new.self _
    (c.in_err-advance.ensures.goes (record m { moment = c.args.now }) (agrees-later a c.args.self.now m c.args.now is)))

pub returns-in_err-advance-clause-memory : goal.returns-in_err-advance-clause-memory
returns-in_err-advance-clause-memory g c = λ wanting m is.
    rw (c.in_err-advance.ensures.memory (sym (refused-with c.from_residual.result _ c.from_residual.ensures.1) ∙ wanting) m is) refl
