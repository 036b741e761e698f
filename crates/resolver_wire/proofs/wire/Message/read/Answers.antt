use Rattle.resolver_wire.proofs.RoundTrip.{IsCodec, found_front, again_front}
use Rattle.resolver_wire.proofs.wire.Message.read.Given.{Over}
use Rattle.resolver_wire.proofs.wire.Message.read.Goals as goal

-- the laws of the key
codec : (g : Over) → IsCodec g.Key.Span.SIZE g.Key.Span.bytes_of g.Key.Span.read_from g.Key.PartialEq.eq
codec g =
    let laws = g.met.Key.Span in
    record { sized = laws.sized; again = laws.read_again; own = laws.own_bytes }

pub returns-clause-found : goal.returns-clause-found
returns-clause-found g c = found_front _ _ _ _ (codec g) _ _ _ c.take.ensures.octets c.take.ensures.ok

pub returns-clause-again : goal.returns-clause-again
returns-clause-again g c = again_front _ _ _ _ (codec g) _ _ _ c.take.ensures.ok c.take.ensures.refused
