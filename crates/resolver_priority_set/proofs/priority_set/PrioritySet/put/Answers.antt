use Rattle.std.proofs.Common.{◌≡◌, ◌∙◌, Some, None, ap, rules}
use Rattle.std.specs.BTreeMap.{is_at}
use Rattle.std.specs.Map.{lookup}
use Rattle.resolver_priority_set.specs.Priorities.{listed}
use Rattle.resolver_priority_set.proofs.Priorities.{indexed-moved, indexed-new, put-new}
use Rattle.resolver_priority_set.proofs.priority_set.PrioritySet.put.Goals as goal

pub move_item-requires : goal.move_item-requires
move_item-requires g c =
    let there : lookup (is_at (g.I.Ord.cmp c.args.item)) c.self.inside.priorities.entries ≡ Some c.into_mut.result.now = search rules in
    record {
      items_clone = c.requires.items_clone;
      priorities_clone = c.requires.priorities_clone;
      sorted = c.self.invariant.ordered;
      there = rw c.in_ok-pair.ensures (c.self.invariant.same c.args.item ∙ ap listed there);
    }

pub invariant_of-self-in-Occupied : goal.invariant_of-self-in-Occupied
invariant_of-self-in-Occupied g c =
    let there : lookup (is_at (g.I.Ord.cmp c.args.item)) c.self.inside.priorities.entries ≡ Some c.into_mut.result.now = search rules in
    let pair = c.in_ok-pair.ensures in
    indexed-moved g.met.I.Ord.total g.met.R.Ord.total c.move_item.result (c.args.priority, c.args.item) c.into_mut.result.now c.move_item.new.held
    c.self.inside.ordered.keys c.move_item.new.ordered.keys c.self.inside.priorities.entries _ c.self.invariant there (λ q. search rules)
    c.move_item.ensures.sorted (rw pair at c.move_item.ensures.ok) c.move_item.ensures.moved c.move_item.ensures.err c.move_item.ensures.stays

none : (g : _) (c : goal.After-put_new g) → lookup (is_at (g.I.Ord.cmp c.args.item)) c.self.inside.priorities.entries ≡ None
none g c = search rules

pub invariant_of-self-in-Vacant : goal.invariant_of-self-in-Vacant
invariant_of-self-in-Vacant g c =
    indexed-new g.met.I.Ord.total g.met.R.Ord.total c.put_new.result (c.args.priority, c.args.item)
    c.self.inside.ordered.keys c.put_new.new.ordered.keys c.self.inside.priorities.entries _ c.put_new.new.priorities.entries c.self.invariant (none g c) (λ q. search rules)
    c.put_new.ensures.sorted (rw c.in_ok-pair.ensures at c.put_new.ensures.ok) c.put_new.ensures.stays c.put_new.ensures.err (rw c.in_ok-pair.ensures at c.put_new.ensures.forgets)

pub returns-in-Vacant : goal.returns-in-Vacant
returns-in-Vacant g c =
    let new = put-new g.met.I.Ord.total g.met.R.Ord.total (c.args.priority, c.args.item) c.self.inside.ordered.keys c.self.inside.priorities.entries c.self.invariant (none g c) in
    record {
      ok = rw (c.in_ok-pair.ensures, new, c.self.view_is) at c.put_new.ensures.ok;
      err = rw c.self.view_is at c.put_new.ensures.err;
      only = c.put_new.ensures.only;
    }

pub returns-in-Occupied : goal.returns-in-Occupied
returns-in-Occupied g c = record {
  ok = rw (c.in_ok-pair.ensures, c.self.view_is) at c.move_item.ensures.ok;
  err = rw c.self.view_is at c.move_item.ensures.err;
  only = c.move_item.ensures.only;
}
