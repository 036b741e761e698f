use Rattle.resolver_wire.proofs.Layouts.{message_lies}
use Rattle.resolver_wire.proofs.wire.reading.Layout.of.Goals as goal

pub returns-clause-lies : goal.returns-clause-lies
returns-clause-lies g c =
    let id = c.in_ok-id.ensures in
    message_lies g.Key.Span.SIZE g.Key.Span.read_from c.args.bytes.now c.in_ok-id.rest.now c.in_ok-id.id c.in_ok-body.body id.id id.after.0 c.in_ok-body.ensures.lies
