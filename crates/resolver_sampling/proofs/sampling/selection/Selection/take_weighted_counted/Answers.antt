use Rattle.std.proofs.Common.{◌<◌, ◌∙◌, sym, ◌^◌, length, arith}
use Rattle.std.specs.Prelude.{sum}
use Rattle.std.specs.Vec.{vec_capacity}
use Rattle.resolver_sampling.proofs.Restored.{chosen-left, left-chosen, left-sum, restored-length}
use Rattle.resolver_sampling.proofs.sampling.selection.Selection.take_weighted_counted.Goals as goal

pub pick_counted-place-requires : goal.pick_counted-place-requires
pick_counted-place-requires c =
    rw (← left-sum c.self.inside.index c.self.inside.taken.items (vec_capacity c.self.inside.taken) c.self.invariant) (rw (← c.self.view_is) at c.requires)

pub take-requires : goal.take-requires
take-requires c =
    let below : c.args.number < sum c.self.inside.index = rw (← left-sum c.self.inside.index c.self.inside.taken.items (vec_capacity c.self.inside.taken) c.self.invariant) (rw (← c.self.view_is) at c.requires) in
    rw (← c.self.view_is, c.pick_counted-place.ensures.place) (chosen-left c.self.inside.index c.args.number below)

pub returns-clause-place : goal.returns-clause-place
returns-clause-place c =
    let below : c.args.number < sum c.self.inside.index = rw (← left-sum c.self.inside.index c.self.inside.taken.items (vec_capacity c.self.inside.taken) c.self.invariant) (rw (← c.self.view_is) at c.requires) in
    rw (← c.self.view_is)
    (c.pick_counted-place.ensures.place ∙ sym (left-chosen c.self.inside.index c.self.inside.taken.items (vec_capacity c.self.inside.taken) c.args.number c.self.invariant below))

pub returns-clause-visits : goal.returns-clause-visits
returns-clause-visits c digits below =
    let few : length c.self.inside.index < 2 ^ digits = rw (← c.self.view_is, restored-length c.self.inside.index c.self.inside.taken.items) at below in
    omega (arith, c.take.ensures.visits digits below, c.pick_counted-place.ensures.visits digits few)
