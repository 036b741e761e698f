use Rattle.resolver_types.specs.Names.{names}
use Rattle.resolver_backfill.proofs.Turning.{again-restores}
use Rattle.resolver_backfill.proofs.laws.again_restores.Goals as goal

pub returns : goal.returns
returns g c = λ plan. again-restores (names g.K.Ord.cmp g.S.Ord.cmp) g.met.K.Ord.total g.met.S.Ord.total plan
