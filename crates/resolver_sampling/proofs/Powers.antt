-- Powers of two.
use Rattle.std.proofs.Common.{◌≡◌, ℕ, suc, ◌+◌, ◌*◌, ◌^◌, ◌<◌, ◌≤◌, inl, inr, arith}
use Rattle.std.proofs.lemmas.Bool.{cases_lt}
use Rattle.std.proofs.Math.Nat.{pow-suc, pow-le-pow_right}

pub power-next : (n : ℕ) → 2 ^ (n + 1) ≡ 2 ^ n * 2
power-next n =
    let more : n + 1 ≡ suc n = omega arith in
    rw more (pow-suc 2 n)

pub power-below : (m n : ℕ) → 2 ^ m < 2 ^ n → m < n
power-below m n below =
    let two : 0 < 2 = omega arith in
    elim (cases_lt m n) [
      | inl less ↦ less
      | inr more ↦ absurd (omega (arith, below, pow-le-pow_right two {i = n} {j = m} more))
    ]

pub power-least : (m n : ℕ) → m ≤ n → 2 ^ m ≤ 2 ^ n
power-least m n least =
    let two : 0 < 2 = omega arith in
    pow-le-pow_right two {i = m} {j = n} least

-- one power is half the next
pub power-within : (m n : ℕ) → m < n → 2 ^ m + 2 ^ m ≤ 2 ^ n
power-within m n below = omega (arith, power-next m, power-least (m + 1) n (omega arith))
