use Rattle.std.proofs.Common.{sym, ◌∙◌}
use Rattle.resolver_model_peer.specs.Parties.{parties}
use Rattle.resolver_peer_step.specs.Said.{codec}
use Rattle.resolver_core.proofs.Taking.{cores_take}
use Rattle.resolver_core.proofs.p2p.laws.cores_take.Goals as goal

pub returns : goal.returns
returns g c =
    let by_key = g.met.K.Ord in
    cores_take (parties g.K.Ord.cmp g.S.Ord.cmp g.P.Ord.cmp) (codec g.K.Span.SIZE g.K.Span.bytes_of g.K.Span.read_from) g.Q.Predicate.keeps
    (λ q k l s t same_key same_subscriber. sym (g.met.Q.Predicate.alike q k l s t (by_key.matches_eq k l ∙ same_key) (g.met.S.Ord.matches_eq s t ∙ same_subscriber)))
    by_key.total g.met.S.Ord.total
