use Rattle.std.proofs.Common.{rules}
use Rattle.resolver_model_peer.specs.Parties.{parties}
use Rattle.resolver_peer_step.specs.Said.{codec, event_of}
use Rattle.resolver_peer_step.proofs.Happening.{took-answer, took-event}
use Rattle.resolver_peer_step.proofs.parts.Parts.take.Goals as goal

pub returns-then-is_scanning-clause-takes : goal.returns-then-is_scanning-clause-takes
returns-then-is_scanning-clause-takes g c = search rules

pub returns-else-is_scanning-clause-takes : goal.returns-else-is_scanning-clause-takes
returns-else-is_scanning-clause-takes g c = λ m moment is.
    let a = parties g.K.Ord.cmp g.S.Ord.cmp g.P.Ord.cmp in
    let words = codec g.K.Span.SIZE g.K.Span.bytes_of g.K.Span.read_from in
    rw c.in-Happens.is
    (took-event a words m c.in-Happens.happening.now (event_of words g.Q.Predicate.keeps c.in-Happens.happening.event) c.args.effects.now.items c.happen.new.effects.items c.happen.new.self
    (c.if-is_scanning.ensures m is) c.happen.result (c.happen.ensures.goes m is) (λ wanting. c.happen.ensures.memory wanting m is))

pub returns-in-Answers-clause-takes : goal.returns-in-Answers-clause-takes
returns-in-Answers-clause-takes g c = λ m moment is.
    let a = parties g.K.Ord.cmp g.S.Ord.cmp g.P.Ord.cmp in
    let words = codec g.K.Span.SIZE g.K.Span.bytes_of g.K.Span.read_from in
    rw c.in-Answers.is (took-answer a words m moment c.in-Answers.answer c.args.effects.now.items c.scan_answer.new.effects.items c.scan_answer.new.self c.scan_answer.result (c.scan_answer.ensures.takes m is))
