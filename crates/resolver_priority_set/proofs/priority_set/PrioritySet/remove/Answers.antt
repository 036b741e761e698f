use Rattle.std.proofs.Common.{◌≡◌, ◌∙◌, Some, None, ap, sym, rules}
use Rattle.std.specs.BTreeMap.{is_at}
use Rattle.std.specs.Map.{lookup}
use Rattle.std.specs.declared.cmp.Ordering.TheVariants.{Equal}
use Rattle.resolver_priority_set.specs.Priorities.{has_item, listed, without}
use Rattle.resolver_priority_set.proofs.Priorities.{has_item-some, indexed-without, remove_key-without, without-none}
use Rattle.std.proofs.lemmas.Cmp.{tied_itself}
use Rattle.resolver_priority_set.proofs.priority_set.PrioritySet.remove.Goals as goal

pub returns-in_default-clause-after : goal.returns-in_default-clause-after
returns-in_default-clause-after g c =
    let none : lookup (is_at (g.I.Ord.cmp c.args.item.now)) c.self.inside.priorities.entries ≡ None = search rules in
    sym (without-none g.met.I.Ord.total c.args.item.now c.self.inside.ordered.keys (c.self.invariant.same c.args.item.now ∙ ap listed none))
    ∙ ap (λ pairs. without g.I.Ord.cmp c.args.item.now pairs) c.self.view_is

pub returns-in_default-clause-was_there : goal.returns-in_default-clause-was_there
returns-in_default-clause-was_there g c =
    let none : lookup (is_at (g.I.Ord.cmp c.args.item.now)) c.self.inside.priorities.entries ≡ None = search rules in
    sym (has_item-some g.met.I.Ord.total c.args.item.now c.self.inside.ordered.keys None (c.self.invariant.same c.args.item.now ∙ ap listed none))
    ∙ ap (λ pairs. has_item g.I.Ord.cmp pairs c.args.item.now) c.self.view_is

-- the item's one pair is taken out
taken : (g : _) (c : goal.After-drop-2 g) → c.remove.new.self.keys ≡ without g.I.Ord.cmp c.args.item.now c.self.inside.ordered.keys
taken g c =
    let some : lookup (is_at (g.I.Ord.cmp c.args.item.now)) c.self.inside.priorities.entries ≡ Some c.in-Some.priority = search rules in
    let same : g.I.Ord.cmp c.args.item.now c.in-Some.held ≡ Equal = search rules in
    c.remove.ensures.keys
    ∙ remove_key-without g.met.I.Ord.total g.met.R.Ord.total c.args.item.now c.in-Some.held c.in-Some.priority c.in-Some.priority c.self.inside.ordered.keys
    same (tied_itself g.met.R.Ord.total c.in-Some.priority) (c.self.invariant.same c.args.item.now ∙ ap listed some)

pub invariant_of-self-2 : goal.invariant_of-self-2
invariant_of-self-2 g c = record {
  ordered = c.remove.ensures.ordered;
  same = rw (taken g c) (indexed-without g.met.I.Ord.total g.met.R.Ord.total c.args.item.now c.self.inside.ordered.keys c.self.inside.priorities.entries
      c.remove_entry.new.self.entries c.self.invariant c.remove_entry.ensures.updates.0);
}

pub returns-clause-after : goal.returns-clause-after
returns-clause-after g c = taken g c ∙ ap (λ pairs. without g.I.Ord.cmp c.args.item.now pairs) c.self.view_is

pub returns-clause-was_there : goal.returns-clause-was_there
returns-clause-was_there g c =
    let some : lookup (is_at (g.I.Ord.cmp c.args.item.now)) c.self.inside.priorities.entries ≡ Some c.in-Some.priority = search rules in
    sym (has_item-some g.met.I.Ord.total c.args.item.now c.self.inside.ordered.keys (Some c.in-Some.priority) (c.self.invariant.same c.args.item.now ∙ ap listed some))
    ∙ ap (λ pairs. has_item g.I.Ord.cmp pairs c.args.item.now) c.self.view_is
