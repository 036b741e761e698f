use Rattle.std.proofs.Common.{◌≡◌, ◌++◌}
use Rattle.resolver_types.specs.Table.{emptied}
use Rattle.resolver_demand.proofs.subscribers.emptied_keys.Given as goal

-- the keys so far, with those of the entries that are left
abbrev pub invariant-loop-key : goal.invariant-loop-key
invariant-loop-key g l = l.emptied.items ++ emptied (g.Q.Predicate.keeps l.keep) l.key-iterator ≡ emptied (g.Q.Predicate.keeps l.keep) l.demand.entries
