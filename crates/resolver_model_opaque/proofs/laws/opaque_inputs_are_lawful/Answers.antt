use Rattle.std.proofs.Common.{sym, ◌∙◌}
use Rattle.std.proofs.lemmas.Cmp.{eq_by_cmp_equiv}
use Rattle.resolver_types.specs.Names.{names}
use Rattle.resolver_model_opaque.proofs.OpaqueKept.{inputs-lawful}
use Rattle.resolver_model_opaque.proofs.laws.opaque_inputs_are_lawful.Goals as goal

pub returns : goal.returns
returns g c =
    inputs-lawful (names g.K.Ord.cmp g.S.Ord.cmp) (eq_by_cmp_equiv g.met.K.Ord.total) g.met.S.Ord.total (eq_by_cmp_equiv g.met.S.Ord.total) g.Q.Predicate.keeps
    (λ q k l s t same_key same_subscriber. sym (g.met.Q.Predicate.alike q k l s t (g.met.K.Ord.matches_eq k l ∙ same_key) (g.met.S.Ord.matches_eq s t ∙ same_subscriber)))
