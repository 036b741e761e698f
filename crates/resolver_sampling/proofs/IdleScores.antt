-- An observation without bytes lowers a weight or leaves it.
use Rattle.std.proofs.Common.{◌≡◌, ℕ, ◌+◌, ◌*◌, ◌/◌, ◌^◌, ◌<◌, ◌≤◌, refl, arith}
use Rattle.std.proofs.Math.Nat.{lt-mul-div-succ, div-lt_iff_lt-mul, mul-le-mul_right, zero-div}
use Rattle.resolver_sampling.specs.declared.score.Averages.{Averages}
use Rattle.resolver_sampling.specs.declared.score.Averages.TheVariants.{Unobserved, Observed}
use Rattle.resolver_sampling.specs.Scores.{averaged, weight_of, counted, scaled}
use Rattle.resolver_sampling.specs.Bounded.{IsBounded}

-- a rate falls where its bytes halve, and its time at most does
rate-falls : (bytes elapsed less later scale unit : ℕ) → 0 < elapsed → 0 < later → 0 < unit
    → 2 * less ≤ bytes → elapsed ≤ 2 * later
    → (less * scale) / (later * unit) ≤ (bytes * scale) / (elapsed * unit)
rate-falls bytes elapsed less later scale unit timed later_timed some halved at_most =
    let rate : ℕ = (bytes * scale) / (elapsed * unit) in
    let time : 0 < elapsed * unit = grind arith in
    let later_time : 0 < later * unit = grind arith in
    let top : bytes * scale < (elapsed * unit) * (rate + 1) = lt-mul-div-succ (bytes * scale) time in
    let fewer : (2 * less) * scale ≤ bytes * scale = mul-le-mul_right scale halved in
    let longer : elapsed * (unit * (rate + 1)) ≤ (2 * later) * (unit * (rate + 1)) =
    mul-le-mul_right (unit * (rate + 1)) at_most in
    let below : less * scale < (rate + 1) * (later * unit) = omega (arith, top, fewer, longer) in
    let quotient : (less * scale) / (later * unit) < rate + 1 = (div-lt_iff_lt-mul later_time).1 below in
    omega (arith, quotient)

counted-positive : (elapsed : ℕ) → 1 ≤ counted elapsed
counted-positive elapsed = omega arith

pub idle-lowers : (a : Averages) (elapsed bytes : ℕ) → IsBounded a → bytes ≡ 0
    → weight_of (averaged a (record { elapsed = elapsed; bytes = bytes })) ≤ weight_of a
idle-lowers Unobserved elapsed bytes bounded none =
    let nothing : scaled bytes * 10 ^ 9 ≡ 0 = omega (arith, none) in
    let rate : scaled bytes * 10 ^ 9 / (counted elapsed * 2 ^ 32) ≡ 0 = rw (nothing, zero-div) refl in
    omega (arith, rate)
idle-lowers (Observed total time) elapsed bytes bounded none =
    let one : 1 ≤ counted elapsed = counted-positive elapsed in
    let less : ℕ = (total + scaled bytes) / 2 in
    let later : ℕ = (time + counted elapsed) / 2 in
    let halved : 2 * less ≤ total = omega (arith, none) in
    let at_most : time ≤ 2 * later = omega (arith, one) in
    let timed : 0 < time = bounded.1 in
    let later_timed : 0 < later = omega (arith, one, timed) in
    let falls : (less * 10 ^ 9) / (later * 2 ^ 32) ≤ (total * 10 ^ 9) / (time * 2 ^ 32) =
    rate-falls total time less later (10 ^ 9) (2 ^ 32) timed later_timed (omega arith) halved at_most in
    omega (arith, falls)
