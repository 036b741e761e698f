use Rattle.resolver_types.specs.Names.{names}
use Rattle.resolver_backfill.proofs.Turning.{told-turns}
use Rattle.resolver_backfill.proofs.laws.what_is_told_keeps_demand.Goals as goal

pub returns : goal.returns
returns g c = λ plan answer. told-turns (names g.K.Ord.cmp g.S.Ord.cmp) g.met.K.Ord.total g.met.S.Ord.total plan answer
