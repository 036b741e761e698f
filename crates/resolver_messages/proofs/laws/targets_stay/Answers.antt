use Rattle.std.proofs.Common.{◌∙◌}
use Rattle.resolver_types.specs.Names.{names}
use Rattle.resolver_messages.proofs.Fetched.{fetched-queued_all}
use Rattle.resolver_messages.proofs.Right.{flips-by, follows-by}
use Rattle.resolver_messages.proofs.laws.targets_stay.Goals as goal

pub returns : goal.returns
returns g c batch items key was apart = fetched-queued_all g.P.PartialEq.eq (λ a b d first second. g.met.P.Eq.laws.congr a b d first ∙ second)
    (names g.K.Ord.cmp g.S.Ord.cmp) (flips-by g.K.Ord.cmp g.met.K.Ord.total) (follows-by g.K.Ord.cmp g.met.K.Ord.total) (follows-by g.S.Ord.cmp g.met.S.Ord.total)
    key was batch items apart
