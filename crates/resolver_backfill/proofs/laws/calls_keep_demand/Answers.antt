use Rattle.resolver_types.specs.Names.{names}
use Rattle.resolver_backfill.proofs.Turning.{calls-keep}
use Rattle.resolver_backfill.proofs.laws.calls_keep_demand.Goals as goal

pub returns : goal.returns
returns g c = λ plan calls. calls-keep (names g.K.Ord.cmp g.S.Ord.cmp) g.met.K.Ord.total g.met.S.Ord.total plan calls
