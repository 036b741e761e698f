use Rattle.std.proofs.Common.{arith}
use Rattle.std.specs.Prelude.{Contains}
use Rattle.resolver_sampling.specs.Selections.{positive_places}
use Rattle.resolver_sampling.proofs.Restored.{left-within, restored-length, room-left, taken-more, takes-more}
use Rattle.resolver_sampling.proofs.sampling.selection.Selection.take.Goals as goal

pub replace-weight-requires : goal.replace-weight-requires
replace-weight-requires c =
    let left : Contains (positive_places c.self.inside.index) c.args.place = rw (← c.self.view_is) at c.requires in
    left-within c.self.inside.index c.self.inside.taken.items _ c.args.place c.self.invariant left

pub push_reserved-requires : goal.push_reserved-requires
push_reserved-requires c =
    let left : Contains (positive_places c.self.inside.index) c.args.place = rw (← c.self.view_is) at c.requires in
    omega (arith, room-left c.self.inside.index c.self.inside.taken.items _ c.args.place c.self.invariant left)

pub invariant_of-self : goal.invariant_of-self
invariant_of-self c =
    let left : Contains (positive_places c.self.inside.index) c.args.place = rw (← c.self.view_is) at c.requires in
    rw (c.replace-weight.ensures.set, c.push_reserved.ensures.items, c.push_reserved.ensures.capacity)
    (taken-more c.self.inside.index c.self.inside.taken.items _ c.args.place c.replace-weight.result c.self.invariant left c.replace-weight.ensures.was)

pub returns-clause-taken : goal.returns-clause-taken
returns-clause-taken c =
    let left : Contains (positive_places c.self.inside.index) c.args.place = rw (← c.self.view_is) at c.requires in
    rw (c.replace-weight.ensures.set, c.push_reserved.ensures.items, ← c.self.view_is)
    (takes-more c.self.inside.index c.self.inside.taken.items _ c.args.place c.replace-weight.result c.self.invariant left c.replace-weight.ensures.was)

pub returns-clause-visits : goal.returns-clause-visits
returns-clause-visits c =
    rw (← c.self.view_is, restored-length c.self.inside.index c.self.inside.taken.items) c.replace-weight.ensures.visits
