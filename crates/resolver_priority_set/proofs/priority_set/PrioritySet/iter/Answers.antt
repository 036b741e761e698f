use Rattle.resolver_priority_set.proofs.Priorities.{length-listed}
use Rattle.resolver_priority_set.proofs.priority_set.PrioritySet.iter.Goals as goal

pub returns-clause-once : goal.returns-clause-once
returns-clause-once g c = λ item. rw (← c.self.view_is, c.self.invariant.same item) (length-listed _)
