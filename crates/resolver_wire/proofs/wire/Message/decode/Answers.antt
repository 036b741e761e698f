use Rattle.resolver_wire.proofs.RoundTrip.{IsCodec, found_whole, again_whole}
use Rattle.resolver_wire.proofs.wire.Message.decode.Given.{Over}
use Rattle.resolver_wire.proofs.wire.Message.decode.Goals as goal

-- the laws of the key
codec : (g : Over) → IsCodec g.Key.Span.SIZE g.Key.Span.bytes_of g.Key.Span.read_from g.Key.PartialEq.eq
codec g =
    let laws = g.met.Key.Span in
    record { sized = laws.sized; again = laws.read_again; own = laws.own_bytes }

pub returns-clause-found : goal.returns-clause-found
returns-clause-found g c = found_whole _ _ _ _ (codec g) _ _ c.whole.ensures.octets c.whole.ensures.exact

pub returns-clause-again : goal.returns-clause-again
returns-clause-again g c = again_whole _ _ _ _ (codec g) _ _ c.whole.ensures.exact
