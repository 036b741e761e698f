use Rattle.resolver_priority_set.proofs.Forgotten.{Forgets}
use Rattle.resolver_priority_set.proofs.priority_set.forget.Given as goal

abbrev pub invariant-loop-pair : goal.invariant-loop-pair
invariant-loop-pair g l = Forgets g.met.I.Ord.total g.F.Fn l.keep l.ordered.keys l.pair-iterator l.priorities.entries
