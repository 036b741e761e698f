use Rattle.std.specs.Ordering.{nat_cmp}
use Rattle.resolver_types.specs.Names.{names}
use Rattle.resolver_peer_step.specs.Said.{codec, fed_of}
use Rattle.resolver_flat.specs.Leavings.{stays}
use Rattle.resolver_flat_machine.proofs.Seen.{gives_whole}
use Rattle.resolver_flat_machine.proofs.inputs.input_from.Goals as goal

pub returns : goal.returns
returns g c moment =
    gives_whole (fed_of (codec g.K.Span.SIZE g.K.Span.bytes_of g.K.Span.read_from) (stays (names g.K.Ord.cmp nat_cmp)) moment) _ _ _ _ (c.in_ok-input.ensures moment) c.whole.ensures
