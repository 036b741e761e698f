use Rattle.resolver_flat.specs.Naming.{shape}
use Rattle.resolver_flat_machine.proofs.Seen.{event_read}
use Rattle.resolver_flat_machine.proofs.inputs.input.Goals as goal

pub returns-then-tag-lt-ANSWERS : goal.returns-then-tag-lt-ANSWERS
returns-then-tag-lt-ANSWERS g c moment =
    let read = event_read (shape g.K.Span.SIZE g.K.Span.bytes_of g.K.Span.read_from g.K.Ord.cmp) moment _ _ _ c.in_ok-tag.ensures c.if-tag-lt-ANSWERS.true in
    rw read (c.event_behind.ensures moment)
