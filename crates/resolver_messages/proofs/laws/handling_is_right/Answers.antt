use Rattle.std.proofs.Common.{◌∙◌}
use Rattle.resolver_types.specs.Names.{names}
use Rattle.resolver_messages.proofs.Right.{flips-by, follows-by, right-handled}
use Rattle.resolver_messages.proofs.laws.handling_is_right.Goals as goal

pub returns : goal.returns
returns g c = right-handled (names g.K.Ord.cmp g.S.Ord.cmp) g.M.Metadata.merged
    (flips-by g.K.Ord.cmp g.met.K.Ord.total) (follows-by g.K.Ord.cmp g.met.K.Ord.total) (follows-by g.S.Ord.cmp g.met.S.Ord.total)
    g.Q.Predicate.keeps
    (λ test k l s t same same_too. g.met.Q.Predicate.alike test k l s t (g.met.K.Ord.matches_eq k l ∙ same) (g.met.S.Ord.matches_eq s t ∙ same_too))
