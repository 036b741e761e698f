use Rattle.std.proofs.Common.{◌<◌, ◌∙◌, sym, ap, map, length, arith}
use Rattle.std.specs.Prelude.{sum}
use Rattle.resolver_sampling.specs.Choice.{chosen}
use Rattle.resolver_sampling.specs.Selections.{positive_places}
use Rattle.resolver_sampling.specs.SumTrees.{mark}
use Rattle.resolver_sampling.proofs.Positive.{marks-count, marks-chosen}
use Rattle.resolver_sampling.proofs.sampling.weighted_index.WeightedIndex.pick_positive_counted.Goals as goal

pub choose-requires : goal.choose-requires
choose-requires c =
    let below : c.args.number < length (positive_places c.self.inside.sums) = rw c.self.view_is c.requires in
    rw c.self.invariant (rw (marks-count c.self.inside.sums 0) below)

pub returns-clause-place : goal.returns-clause-place
returns-clause-place c =
    let below : c.args.number < length (positive_places c.self.inside.sums) = rw c.self.view_is c.requires in
    let some : c.args.number < sum (map mark c.self.inside.sums) = rw (marks-count c.self.inside.sums 0) below in
    rw (← c.self.view_is)
    (c.choose.ensures.place ∙ ap (λ (ws : _). chosen ws c.args.number) c.self.invariant ∙ sym (marks-chosen c.self.inside.sums 0 c.args.number some ∙ omega arith))

pub returns-clause-marks : goal.returns-clause-marks
returns-clause-marks c = rw (← c.self.view_is) (c.choose.ensures.place ∙ ap (λ (ws : _). chosen ws c.args.number) c.self.invariant)
