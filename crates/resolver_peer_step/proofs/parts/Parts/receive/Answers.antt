use Rattle.resolver_peer_step.specs.Said.{codec}
use Rattle.resolver_peer_step.proofs.parts.Parts.receive.Goals as goal

pub returns-in-Response-clause-goes : goal.returns-in-Response-clause-goes
returns-in-Response-clause-goes g c = λ m is. rw c.in-Response.is (c.respond.ensures.goes (codec g.K.Span.SIZE g.K.Span.bytes_of g.K.Span.read_from) m is)
