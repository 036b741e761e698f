use Rattle.resolver_wire.proofs.RoundTrip.{IsCodec, none_begins}
use Rattle.resolver_wire.proofs.wire.laws.none_begins_another.Given.{Over}
use Rattle.resolver_wire.proofs.wire.laws.none_begins_another.Goals as goal

-- the laws of the key
codec : (g : Over) → IsCodec g.Key.Span.SIZE g.Key.Span.bytes_of g.Key.Span.read_from g.Key.PartialEq.eq
codec g =
    let laws = g.met.Key.Span in
    record { sized = laws.sized; again = laws.read_again; own = laws.own_bytes }

pub returns : goal.returns
returns g c = none_begins _ _ _ _ (codec g) g.met.Key.Eq.laws
