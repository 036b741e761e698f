-- The place that a number chooses.
use Rattle.std.proofs.Common.{◌≡◌, refl, sym, ℕ, suc, zero, ◌+◌, ◌-◌, ◌<◌, ◌≤◌, List, [], ◌∷◌, length, take, inl, inr, arith}
use Rattle.std.specs.Prelude.{sum}
use Rattle.std.proofs.lemmas.List.Sums.{sum_by-cons}
use Rattle.std.proofs.lemmas.Bool.{lt-ltb, le-ltb, cases_lt}
use Rattle.std.proofs.Math.Seq.{take-nil}
use Rattle.resolver_sampling.specs.Choice.{IsIn, prefix, chosen}
use Rattle.resolver_sampling.specs.ChoiceLaws.{ChoosesOne}

sum-cons : (w : ℕ) (ws : List ℕ) → sum (w ∷ ws) ≡ w + sum ws
sum-cons w ws = sum_by-cons (λ x. x) w ws

-- a number in the first interval, and one past it
pub chosen-first : (w : ℕ) (ws : List ℕ) (n : ℕ) → n < w → chosen (w ∷ ws) n ≡ 0
chosen-first w ws n below = rw (lt-ltb n w below) refl

pub chosen-later : (w : ℕ) (ws : List ℕ) (n : ℕ) → w ≤ n → chosen (w ∷ ws) n ≡ chosen ws (n - w) + 1
chosen-later w ws n above = rw (le-ltb n w above) refl

prefix-nil : (place : ℕ) → prefix [] place ≡ 0
prefix-nil place = rw take-nil refl

prefix-suc : (w : ℕ) (ws : List ℕ) (place : ℕ) → prefix (w ∷ ws) (suc place) ≡ w + prefix ws place
prefix-suc w ws place = sum-cons w (take place ws)

pub in_no_other : (ws : List ℕ) (place n : ℕ) → IsIn ws place n → place ≡ chosen ws n
in_no_other [] place n inside = absurd (omega (arith, prefix-nil place, inside.below))
in_no_other (w ∷ ws) zero n inside = sym (chosen-first w ws n (omega (arith, inside.below)))
in_no_other (w ∷ ws) (suc place) n inside =
    let begins : prefix (w ∷ ws) (suc place) ≡ w + prefix ws place = prefix-suc w ws place in
    let above : w ≤ n = omega (arith, begins, inside.from) in
    let inner : IsIn ws place (n - w) = record {
      from = omega (arith, begins, inside.from);
      below = omega (arith, begins, inside.below);
    } in
    let later : place ≡ chosen ws (n - w) = in_no_other ws place (n - w) inner in
    rw (chosen-later w ws n above, ← later) (omega arith)

pub chosen-within : (ws : List ℕ) (n : ℕ) → n < sum ws → chosen ws n < length ws
chosen-within [] n below = absurd (omega (arith, below))
chosen-within (w ∷ ws) n below =
    elim (cases_lt n w) [
      | inl first ↦ rw (chosen-first w ws n first) (omega arith)
      | inr above ↦
          let later : chosen ws (n - w) < length ws = chosen-within ws (n - w) (omega (arith, sum-cons w ws)) in
          rw (chosen-later w ws n above) (omega (arith, later))
    ]

pub in_interval : (ws : List ℕ) (n : ℕ) → n < sum ws → IsIn ws (chosen ws n) n
in_interval [] n below = absurd (omega (arith, below))
in_interval (w ∷ ws) n below =
    elim (cases_lt n w) [
      | inl first ↦ rw (chosen-first w ws n first) (record { from = omega arith; below = omega (arith, first) })
      | inr above ↦
          let place : ℕ = chosen ws (n - w) in
          let inner : IsIn ws place (n - w) = in_interval ws (n - w) (omega (arith, sum-cons w ws)) in
          let begins : prefix (w ∷ ws) (suc place) ≡ w + prefix ws place = prefix-suc w ws place in
          let more : place + 1 ≡ suc place = omega arith in
          rw (chosen-later w ws n above, more) (record {
            from = omega (arith, begins, inner.from);
            below = omega (arith, begins, inner.below);
          })
    ]

pub chooses_one : ChoosesOne
chooses_one = record { in_interval = in_interval; in_no_other = in_no_other }
