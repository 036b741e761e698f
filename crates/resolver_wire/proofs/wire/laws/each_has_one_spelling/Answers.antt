use Rattle.resolver_wire.proofs.RoundTrip.{one_spelling}
use Rattle.resolver_wire.proofs.wire.laws.each_has_one_spelling.Goals as goal

pub returns : goal.returns
returns g c = one_spelling g.Key.Span.bytes_of
