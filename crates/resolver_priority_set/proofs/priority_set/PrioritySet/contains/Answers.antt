use Rattle.std.proofs.Common.{sym, ◌∙◌, ap}
use Rattle.resolver_priority_set.specs.Priorities.{has_item}
use Rattle.resolver_priority_set.proofs.Priorities.{has_item-some}
use Rattle.resolver_priority_set.proofs.priority_set.PrioritySet.contains.Goals as goal

pub returns : goal.returns
returns g c =
    c.contains_key.ensures
    ∙ sym (has_item-some g.met.I.Ord.total c.args.item.now c.self.inside.ordered.keys _ (c.self.invariant.same c.args.item.now))
    ∙ ap (λ pairs. has_item g.I.Ord.cmp pairs c.args.item.now) c.self.view_is
