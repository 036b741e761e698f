use Rattle.resolver_wire.proofs.RoundTrip.{covers}
use Rattle.resolver_wire.proofs.wire.max_message_size.Goals as goal

pub returns-clause-covers : goal.returns-clause-covers
returns-clause-covers g c =
    let laws = g.met.Key.Span in
    rw (c.max.ensures, c.SIZE.ensures) (covers g.Key.Span.bytes_of g.Key.Span.SIZE c.args.value laws.sized)
