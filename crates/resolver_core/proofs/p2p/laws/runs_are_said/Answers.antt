use Rattle.resolver_model_peer.specs.Parties.{parties}
use Rattle.resolver_peer_step.specs.Said.{codec}
use Rattle.resolver_core.proofs.RunLaws.{runs-said}
use Rattle.resolver_core.proofs.p2p.laws.runs_are_said.Goals as goal

pub returns : goal.returns
returns g c = λ old inputs answers new runs. runs-said (parties g.K.Ord.cmp g.S.Ord.cmp g.P.Ord.cmp) (codec g.K.Span.SIZE g.K.Span.bytes_of g.K.Span.read_from) inputs old answers new runs
