-- Four of the numbers mean a draw by weight.
use Rattle.std.proofs.Common.{◌≡◌, refl, ◌∙◌, ◌+◌, false, arith}
use Rattle.std.proofs.lemmas.Bool.{le-ltb}
use Rattle.resolver_sampling.specs.Modes.{FourMeanWeighted, means_weighted}
use Rattle.resolver_sampling.proofs.Counts.{count_from, count_from-same, count_from-none, count_from-split}

pub four_mean_weighted : FourMeanWeighted
four_mean_weighted retries =
    let more : retries + 4 ≡ 4 + retries = omega arith in
    let weighted : count_from 0 4 means_weighted ≡ 4 = refl in
    let uniform : count_from (0 + 4) retries means_weighted ≡ 0 =
    count_from-same (0 + 4) retries means_weighted (λ _. false) (λ k from _. le-ltb k 4 (omega (arith, from)))
    ∙ count_from-none (0 + 4) retries in
    rw (more, count_from-split 0 4 retries means_weighted, uniform) refl
