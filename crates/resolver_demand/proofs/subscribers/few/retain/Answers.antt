use Rattle.std.proofs.Common.{rules}
use Rattle.std.proofs.lemmas.Fn.{filter_same}
use Rattle.resolver_demand.proofs.subscribers.few.retain.Goals as goal

pub returns-clause-after : goal.returns-clause-after
returns-clause-after g c = filter_same _ _ _ (λ x b f' k. search rules) _ _ c.retain.ensures.filtered
