use Rattle.std.proofs.Common.{◌≡◌, ◌∙◌, ap, sum}
use Rattle.std.proofs.lemmas.Result.{IfOk-weaker}
use Rattle.resolver_sampling.specs.Selections.{Remaining, begun, weights_left}
use Rattle.resolver_sampling.proofs.Takes.{total-begun}
use Rattle.resolver_sampling.proofs.sampling.weighted_index.WeightedIndex.without_replacement.Goals as goal

pub returns-clause-total : goal.returns-clause-total
returns-clause-total c =
    IfOk-weaker c.new.result (λ (selection : Remaining). selection ≡ begun c.args.self) (λ (selection : Remaining). sum (weights_left selection) ≡ sum c.args.self)
    (λ selection is. ap (λ (d : Remaining). sum (weights_left d)) is ∙ total-begun c.args.self)
    c.new.ensures.ok
