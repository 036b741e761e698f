use Rattle.std.proofs.Common.{◌≡◌, ◌∙◌, ap, length, arith}
use Rattle.std.specs.Prelude.{sum}
use Rattle.std.proofs.lemmas.List.{length-map}
use Rattle.resolver_sampling.specs.Selections.{positive_places}
use Rattle.resolver_sampling.specs.SumTrees.{mark}
use Rattle.resolver_sampling.proofs.Positive.{marks-count, positive-few}
use Rattle.resolver_sampling.proofs.sampling.weighted_index.WeightedIndex.positive_count.Goals as goal

pub returns-clause-places : goal.returns-clause-places
returns-clause-places c = rw (← c.self.view_is) (c.total.ensures.total ∙ ap sum c.self.invariant ∙ marks-count c.self.inside.sums 0)

pub returns-clause-marks : goal.returns-clause-marks
returns-clause-marks c = rw (← c.self.view_is) (c.total.ensures.total ∙ ap sum c.self.invariant)

pub overflow_cast-result : goal.overflow_cast-result
overflow_cast-result c =
    let count : c.total.result ≡ length (positive_places c.self.inside.sums) = c.total.ensures.total ∙ ap sum c.self.invariant ∙ marks-count c.self.inside.sums 0 in
    let same : length c.self.inside.counts ≡ length c.self.inside.sums = ap length c.self.invariant ∙ length-map c.self.inside.sums mark in
    omega (arith, count, same, positive-few c.self.inside.sums 0, c.total.ensures.few)
