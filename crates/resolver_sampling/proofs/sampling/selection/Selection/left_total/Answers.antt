use Rattle.std.proofs.Common.{◌<◌, ◌∙◌, sym, length, arith}
use Rattle.std.specs.Prelude.{sum}
use Rattle.resolver_sampling.specs.LeftPlaces.{restored}
use Rattle.resolver_sampling.specs.Selections.{positive_places, weights_left}
use Rattle.resolver_sampling.proofs.Draws.{draws-by-weight}
use Rattle.resolver_sampling.proofs.Takes.{total-positive}
use Rattle.resolver_sampling.proofs.Restored.{left-ascending, left-sum, remaining}
use Rattle.resolver_sampling.proofs.sampling.selection.Selection.left_total.Goals as goal

pub returns-clause-total : goal.returns-clause-total
returns-clause-total c =
    rw (← c.self.view_is) (c.total.ensures ∙ sym (left-sum c.self.inside.index c.self.inside.taken.items _ c.self.invariant))

pub returns-clause-positive : goal.returns-clause-positive
returns-clause-positive c =
    let positive : 0 < length (positive_places c.self.inside.index) → 0 < sum (weights_left (remaining c.self.inside.index c.self.inside.taken.items)) =
    total-positive (restored c.self.inside.index c.self.inside.taken.items) 0 (positive_places c.self.inside.index) (left-ascending c.self.inside.index c.self.inside.taken.items _ c.self.invariant) in
    rw (← c.self.view_is)
    (λ some. omega (arith, positive some, c.total.ensures, left-sum c.self.inside.index c.self.inside.taken.items _ c.self.invariant))

pub returns-clause-draws : goal.returns-clause-draws
returns-clause-draws c =
    rw (← c.self.view_is)
    (draws-by-weight (remaining c.self.inside.index c.self.inside.taken.items) (left-ascending c.self.inside.index c.self.inside.taken.items _ c.self.invariant))
