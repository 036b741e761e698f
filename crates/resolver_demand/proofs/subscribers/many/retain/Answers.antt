use Rattle.std.proofs.Common.{rules}
use Rattle.std.proofs.lemmas.Map.Made.{filter_same_pairs}
use Rattle.resolver_demand.proofs.subscribers.many.retain.Goals as goal

pub returns-clause-after : goal.returns-clause-after
returns-clause-after g c = filter_same_pairs _ _ _ (λ k v b w f' t. search rules) _ _ c.retain.ensures.filtered
