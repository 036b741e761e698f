-- How many of the numbers from one on pass a test.
use Rattle.std.proofs.Common.{◌≡◌, refl, ◌∙◌, ℕ, suc, zero, ◌+◌, ◌<◌, ◌≤◌, Bool, true, false, ◌==◌, cond, inl, inr, arith}
use Rattle.std.specs.Prelude.{count_by}
use Rattle.std.specs.List.{range_with_len}
use Rattle.std.proofs.lemmas.List.Sums.{sum_by-cons}
use Rattle.std.proofs.lemmas.Bool.{eq-eqb, ne_eqb, cases_eq}

-- the count of the numbers from `first` on, of which there are n
abbrev pub count_from : (first n : ℕ) → (ℕ → Bool) → ℕ
count_from first n p = count_by p (range_with_len first n)

count_from-suc : (first n : ℕ) (p : ℕ → Bool) → count_from first (suc n) p ≡ cond (p first) 1 0 + count_from (first + 1) n p
count_from-suc first n p = sum_by-cons (λ k. cond (p k) 1 0) first (range_with_len (first + 1) n)

-- Two tests that agree on the numbers count alike.
pub count_from-same : (first n : ℕ) (p q : ℕ → Bool) → ((k : ℕ) → first ≤ k → k < first + n → p k ≡ q k)
    → count_from first n p ≡ count_from first n q
count_from-same first zero p q agree = refl
count_from-same first (suc n) p q agree =
    let here : p first ≡ q first = agree first (omega arith) (omega arith) in
    let later : count_from (first + 1) n p ≡ count_from (first + 1) n q =
    count_from-same (first + 1) n p q (λ k from below. agree k (omega arith) (omega arith)) in
    rw (count_from-suc first n p, count_from-suc first n q, here, later) refl

pub count_from-all : (first n : ℕ) → count_from first n (λ _. true) ≡ n
count_from-all first zero = refl
count_from-all first (suc n) = rw (count_from-suc first n (λ _. true), count_from-all (first + 1) n) (omega arith)

pub count_from-none : (first n : ℕ) → count_from first n (λ _. false) ≡ 0
count_from-none first zero = refl
count_from-none first (suc n) = rw (count_from-suc first n (λ _. false), count_from-none (first + 1) n) (omega arith)

-- A part of the numbers, and the rest.
pub count_from-split : (first m n : ℕ) (p : ℕ → Bool)
    → count_from first (m + n) p ≡ count_from first m p + count_from (first + m) n p
count_from-split first zero n p =
    let none : zero + n ≡ n = omega arith in
    let same : first + zero ≡ first = omega arith in
    rw (none, same) (omega arith)
count_from-split first (suc m) n p =
    let more : suc m + n ≡ suc (m + n) = omega arith in
    let next : first + suc m ≡ first + 1 + m = omega arith in
    rw (more, next, count_from-suc first (m + n) p, count_from-suc first m p, count_from-split (first + 1) m n p) (omega arith)

-- The same numbers, each some more.
pub count_from-shift : (first by n : ℕ) (p : ℕ → Bool)
    → count_from (first + by) n p ≡ count_from first n (λ k. p (k + by))
count_from-shift first by zero p = refl
count_from-shift first by (suc n) p =
    let next : first + by + 1 ≡ first + 1 + by = omega arith in
    rw (count_from-suc (first + by) n p, count_from-suc first n (λ k. p (k + by)), next, count_from-shift (first + 1) by n p) refl

-- A number that is not among them is not counted.
count_from-absent : (first n place : ℕ) → place < first → count_from first n (λ k. k == place) ≡ 0
count_from-absent first n place below =
    count_from-same first n (λ k. k == place) (λ _. false) (λ k from _. ne_eqb k place (λ e. omega (arith, e)))
    ∙ count_from-none first n

-- One that is among them is counted once.
pub count_from-one : (first n place : ℕ) → first ≤ place → place < first + n → count_from first n (λ k. k == place) ≡ 1
count_from-one first zero place from below = absurd (omega arith)
count_from-one first (suc n) place from below =
    elim (cases_eq first place) [
      | inl same ↦
          rw (count_from-suc first n (λ k. k == place), eq-eqb first place same, count_from-absent (first + 1) n place (omega (arith, same))) refl
      | inr apart ↦
          let later : first + 1 ≤ place = omega (arith, apart) in
          rw (count_from-suc first n (λ k. k == place), ne_eqb first place apart, count_from-one (first + 1) n place later (omega arith)) refl
    ]
