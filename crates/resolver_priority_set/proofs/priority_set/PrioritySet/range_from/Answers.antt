use Rattle.std.proofs.Common.{◌≡◌, refl, ◌∙◌, sym, [], rules, arith}
use Rattle.std.proofs.lemmas.Grind.{common_steps}
use Rattle.std.proofs.lemmas.List.Kept.{IsStrictlySortedBy-filter}
use Rattle.resolver_priority_set.proofs.From.{from-least, none-indexed}
use Rattle.resolver_priority_set.proofs.priority_set.PrioritySet.range_from.Goals as goal

pub returns-in_default-clause-rest : goal.returns-in_default-clause-rest
returns-in_default-clause-rest g c =
    let index : c.self.inside.priorities.entries ≡ [] = grind (arith, common_steps, c.first_key_value.ensures.variant, c.in_default.is) in
    let none : c.self.inside.ordered.keys ≡ [] = none-indexed g.met.I.Ord.total g.R.Ord.cmp c.self.inside.ordered.keys (rw index at c.self.invariant) in
    let empty : c.args.self.now ≡ [] = sym c.self.view_is ∙ none in
    let is = c.range.ensures.between tt in
    rw (empty, is, none) refl

pub returns-in_default-clause-ordered : goal.returns-in_default-clause-ordered
returns-in_default-clause-ordered g c =
    rw (returns-in_default-clause-rest g c) (IsStrictlySortedBy-filter _ _ c.args.self.now (rw (← c.self.view_is) c.self.invariant.ordered))

pub returns-clause-rest : goal.returns-clause-rest
returns-clause-rest g c =
    let same : c.in_ok-clone.field-0 ≡ c.in-Some.least.now = search rules in
    let is = c.range-2.ensures.between tt in
    rw (← c.self.view_is, is, same) (from-least g.met.I.Ord.total g.R.Ord.cmp c.args.priority c.in-Some.least.now c.self.inside.ordered.keys c.self.inside.priorities.entries c.self.invariant c.in-Some.ensures.all_from)

pub returns-clause-ordered : goal.returns-clause-ordered
returns-clause-ordered g c =
    rw (returns-clause-rest g c) (IsStrictlySortedBy-filter _ _ c.args.self.now (rw (← c.self.view_is) c.self.invariant.ordered))
