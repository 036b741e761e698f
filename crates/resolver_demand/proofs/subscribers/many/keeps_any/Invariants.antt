use Rattle.std.proofs.Common.{◌≡◌}
use Rattle.std.specs.List.{list_any}
use Rattle.resolver_demand.proofs.subscribers.many.keeps_any.Given as goal

-- none so far is kept
abbrev pub invariant-loop-one : goal.invariant-loop-one
invariant-loop-one g l = list_any (λ s. g.Q.Predicate.keeps l.keep l.key s.0) l.one-iterator ≡ list_any (λ s. g.Q.Predicate.keeps l.keep l.key s.0) l.map.entries
