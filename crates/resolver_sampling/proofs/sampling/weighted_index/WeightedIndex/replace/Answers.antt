use Rattle.std.proofs.Common.{◌≡◌, ◌∙◌, sym, ap, slice_index}
use Rattle.resolver_sampling.specs.SumTrees.{mark}
use Rattle.resolver_sampling.proofs.Marks.{marks-set, marks-stay}
use Rattle.resolver_sampling.proofs.sampling.weighted_index.WeightedIndex.replace.Goals as goal

pub invariant_of-self : goal.invariant_of-self
invariant_of-self c =
    rw (c.replace.ensures.set, c.replace-was.ensures.set, c.self.invariant, c.mark-then-mark.ensures)
    (sym (marks-set c.self.inside.sums c.args.place c.args.weight))

pub invariant_of-self-else-mark : goal.invariant_of-self-else-mark
invariant_of-self-else-mark c =
    let same : mark (slice_index c.self.inside.sums c.args.place) ≡ mark c.args.weight =
    ap mark (sym c.replace-was.ensures.was) ∙ sym c.mark.ensures ∙ c.if-mark.false ∙ c.mark-2.ensures in
    rw (c.replace-was.ensures.set, c.self.invariant) (sym (marks-stay c.self.inside.sums c.args.place c.args.weight (rw c.self.view_is c.requires) same))
