use Rattle.std.proofs.Common.{◌≡◌, rules}
use Rattle.std.proofs.lemmas.List.Kept.{IsStrictlySortedBy-filter}
use Rattle.resolver_priority_set.specs.Priorities.{after}
use Rattle.resolver_priority_set.proofs.priority_set.PrioritySet.range_after.Goals as goal

pub returns-clause-ordered : goal.returns-clause-ordered
returns-clause-ordered g c =
    let is : c.range.result ≡ after g.R.Ord.cmp g.I.Ord.cmp c.args.pair.now c.args.self.now = search rules in
    rw is (IsStrictlySortedBy-filter _ _ c.args.self.now (rw (← c.self.view_is) c.self.invariant.ordered))
