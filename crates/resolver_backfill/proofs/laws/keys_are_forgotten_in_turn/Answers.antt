use Rattle.std.proofs.Common.{ap}
use Rattle.resolver_backfill.proofs.Keys.{unmet-turn}
use Rattle.resolver_backfill.proofs.laws.keys_are_forgotten_in_turn.Goals as goal

pub returns : goal.returns
returns g c = λ plan key keys. ap (λ wanted. record plan { wanted = wanted }) (unmet-turn g.K.Ord.cmp g.met.K.Ord.total plan.wanted keys key)
