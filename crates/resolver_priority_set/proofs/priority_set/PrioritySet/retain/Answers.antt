use Rattle.std.proofs.Common.{◌≡◌, ◌∙◌, ap, is_some, rules}
use Rattle.std.proofs.lemmas.Fn.{filter_same}
use Rattle.std.specs.BTreeMap.{is_at}
use Rattle.std.specs.Map.{lookup}
use Rattle.resolver_priority_set.specs.Priorities.{indexed, retained}
use Rattle.resolver_priority_set.proofs.priority_set.PrioritySet.retain.Goals as goal

-- the pairs that stay are those whose item the index has
stay : (g : _) (c : goal.After-drop-keep g) → c.retain.new.self.keys ≡ indexed g.I.Ord.cmp c.forget.new.priorities.entries c.self.inside.ordered.keys
stay g c = filter_same _ _ _ (λ x b f' k. search rules) _ _ c.retain.ensures.filtered

pub invariant_of-self : goal.invariant_of-self
invariant_of-self g c = record { ordered = c.retain.ensures.ordered; same = rw (stay g c) c.forget.ensures.after }

pub returns-clause-kept : goal.returns-clause-kept
returns-clause-kept g c test answers = stay g c ∙ c.forget.ensures.kept test answers ∙ ap (λ pairs. retained test pairs) c.self.view_is

pub returns-clause-part : goal.returns-clause-part
returns-clause-part g c = (
  (λ p. is_some (lookup (is_at (g.I.Ord.cmp p.1)) c.forget.new.priorities.entries)),
  stay g c ∙ ap (λ pairs. indexed g.I.Ord.cmp c.forget.new.priorities.entries pairs) c.self.view_is,
)
