-- Observations without bytes halve an average of bytes, until nothing is left of it.
use Rattle.std.proofs.Common.{◌≡◌, refl, ℕ, suc, zero, ◌+◌, ◌-◌, ◌*◌, ◌/◌, ◌^◌, ◌<◌, ◌≤◌, List, [], ◌∷◌, length, subst, arith}
use Rattle.std.specs.Prelude.{All, fold}
use Rattle.std.proofs.Math.Nat.{zero-div, pow-succ'}
use Rattle.std.proofs.Math.Numerals.{sub-one}
use Rattle.std.proofs.lemmas.Nat.{pow_pos}
use Rattle.std.proofs.lemmas.List.Sums.{fold-append}
use Rattle.std.proofs.lemmas.List.Elements.{All-head, All-tail}
use Rattle.resolver_sampling.specs.declared.score.Averages.{Averages}
use Rattle.resolver_sampling.specs.declared.score.Averages.TheVariants.{Unobserved, Observed}
use Rattle.resolver_sampling.specs.Scores.{Observation, averaged, averages_of, weight_of, scaled}
use Rattle.resolver_sampling.specs.ScoreLaws.{FadesIn96}

-- an average of bytes below a power of two
abbrev IsBelow : ℕ → Averages → Type 0
IsBelow n Unobserved = Unit {0}
IsBelow n (Observed bytes elapsed) = bytes < 2 ^ n

-- what is observed keeps the average below 2^96
averaged-below : (a : Averages) (o : Observation) → o.bytes < 2 ^ 64 → IsBelow 96 a → IsBelow 96 (averaged a o)
averaged-below Unobserved o few below = omega (arith, few)
averaged-below (Observed bytes elapsed) o few below = omega (arith, few, below)

fold-below : (a : Averages) (os : List Observation) → All (λ o. o.bytes < 2 ^ 64) os → IsBelow 96 a
    → IsBelow 96 (fold averaged a os)
fold-below a [] few below = below
fold-below a (o ∷ os) few below =
    let P : Observation → Type 0 = λ o. o.bytes < 2 ^ 64 in
    fold-below (averaged a o) os (All-tail P o os few) (averaged-below a o (All-head P o os few) below)

-- one power less after an observation without bytes
idle-below : (n : ℕ) (a : Averages) (o : Observation) → o.bytes ≡ 0 → IsBelow n a → IsBelow (n - 1) (averaged a o)
idle-below n Unobserved o none below =
    let some : 0 < 2 ^ (n - 1) = pow_pos (n - 1) in omega (arith, none, some)
idle-below zero (Observed bytes elapsed) o none below = omega (arith, none, below)
idle-below (suc n) (Observed bytes elapsed) o none below =
    let half : 2 ^ suc n ≡ 2 * 2 ^ n = pow-succ' 2 n in
    let less : (bytes + scaled o.bytes) / 2 < 2 ^ n = omega (arith, none, below, half) in
    rw sub-one less

fold-fades : (n : ℕ) (a : Averages) (os : List Observation) → All (λ o. o.bytes ≡ 0) os → n ≤ length os
    → IsBelow n a → IsBelow 0 (fold averaged a os)
fold-fades n a [] none within below =
    let P : ℕ → Type 0 = λ k. IsBelow k a in
    let nothing : n ≡ 0 = omega (arith, within) in
    subst P nothing below
fold-fades n a (o ∷ os) none within below =
    let P : Observation → Type 0 = λ o. o.bytes ≡ 0 in
    fold-fades (n - 1) (averaged a o) os (All-tail P o os none) (omega (arith, within))
    (idle-below n a o (All-head P o os none) below)

-- without bytes the weight is 1
least-weight : (a : Averages) → IsBelow 0 a → weight_of a ≡ 1
least-weight Unobserved below = refl
least-weight (Observed bytes elapsed) below =
    let nothing : bytes * 10 ^ 9 ≡ 0 = omega (arith, below) in
    let rate : bytes * 10 ^ 9 / (elapsed * 2 ^ 32) ≡ 0 = rw (nothing, zero-div) refl in
    omega (arith, rate)

pub fades : FadesIn96
fades earlier idle few none many =
    let below : IsBelow 96 (averages_of earlier) = fold-below Unobserved earlier few tt in
    let left : IsBelow 0 (fold averaged (averages_of earlier) idle) =
    fold-fades 96 (averages_of earlier) idle none many below in
    rw fold-append (least-weight _ left)
