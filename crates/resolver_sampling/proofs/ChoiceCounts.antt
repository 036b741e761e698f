-- As many numbers as its weight choose a place.
use Rattle.std.proofs.Common.{◌≡◌, refl, sym, ◌∙◌, ℕ, suc, zero, ◌+◌, Bool, true, false, ◌==◌, List, [], ◌∷◌, slice_index, inl, inr, arith}
use Rattle.std.specs.Prelude.{sum}
use Rattle.std.proofs.lemmas.List.Sums.{sum_by-cons}
use Rattle.std.proofs.lemmas.Bool.{eq-eqb, ne_eqb, cases_eq}
use Rattle.std.proofs.Math.Nat.{add-sub_cancel}
use Rattle.resolver_sampling.specs.Choice.{chosen, count_below}
use Rattle.resolver_sampling.specs.ChoiceLaws.{ChoosesByWeight}
use Rattle.resolver_sampling.proofs.Counts.{count_from, count_from-same, count_from-all, count_from-none, count_from-split, count_from-shift}
use Rattle.resolver_sampling.proofs.Choices.{chosen-first, chosen-later}

-- the numbers of the first interval, and those past it, that choose a place
first-count : (w : ℕ) (ws : List ℕ) (place : ℕ) (b : Bool) → (0 == place) ≡ b
    → count_from 0 w (λ n. chosen (w ∷ ws) n == place) ≡ count_from 0 w (λ _. b)
first-count w ws place b same =
    count_from-same 0 w (λ n. chosen (w ∷ ws) n == place) (λ _. b)
    (λ n _ below. rw (chosen-first w ws n (omega (arith, below))) same)

later-count : (w : ℕ) (ws : List ℕ) (place m : ℕ)
    → count_from (0 + w) m (λ n. chosen (w ∷ ws) n == place) ≡ count_from 0 m (λ n. (chosen ws n + 1) == place)
later-count w ws place m =
    count_from-shift 0 w m (λ n. chosen (w ∷ ws) n == place)
    ∙ count_from-same 0 m (λ n. chosen (w ∷ ws) (n + w) == place) (λ n. (chosen ws n + 1) == place)
    (λ n _ _. rw (chosen-later w ws (n + w) (omega arith), add-sub_cancel n w) refl)

both-counts : (w : ℕ) (ws : List ℕ) (place : ℕ) (b : Bool) → (0 == place) ≡ b
    → count_below (sum (w ∷ ws)) (λ n. chosen (w ∷ ws) n == place)
    ≡ count_from 0 w (λ _. b) + count_from 0 (sum ws) (λ n. (chosen ws n + 1) == place)
both-counts w ws place b same =
    rw (sum_by-cons (λ x. x) w ws, count_from-split 0 w (sum ws) (λ n. chosen (w ∷ ws) n == place), first-count w ws place b same, later-count w ws place (sum ws)) refl

eqb-more : (m n : ℕ) → ((m + 1) == suc n) ≡ (m == n)
eqb-more m n =
    elim (cases_eq m n) [
      | inl same ↦ eq-eqb (m + 1) (suc n) (omega (arith, same)) ∙ sym (eq-eqb m n same)
      | inr apart ↦ ne_eqb (m + 1) (suc n) (λ e. apart (omega (arith, e))) ∙ sym (ne_eqb m n apart)
    ]

pub chooses_by_weight : ChoosesByWeight
chooses_by_weight [] place within = absurd (omega (arith, within))
chooses_by_weight (w ∷ ws) zero within =
    let none : count_from 0 (sum ws) (λ n. (chosen ws n + 1) == 0) ≡ 0 =
    count_from-same 0 (sum ws) (λ n. (chosen ws n + 1) == 0) (λ _. false) (λ n _ _. ne_eqb (chosen ws n + 1) 0 (λ e. omega (arith, e)))
    ∙ count_from-none 0 (sum ws) in
    both-counts w ws 0 true refl ∙ (rw (count_from-all 0 w, none) (omega arith))
chooses_by_weight (w ∷ ws) (suc place) within =
    let rest : count_below (sum ws) (λ n. chosen ws n == place) ≡ slice_index ws place =
    chooses_by_weight ws place (omega (arith, within)) in
    let same : count_from 0 (sum ws) (λ n. (chosen ws n + 1) == suc place) ≡ count_from 0 (sum ws) (λ n. chosen ws n == place) =
    count_from-same 0 (sum ws) (λ n. (chosen ws n + 1) == suc place) (λ n. chosen ws n == place)
    (λ n _ _. eqb-more (chosen ws n) place) in
    both-counts w ws (suc place) false (ne_eqb 0 (suc place) (λ e. omega (arith, e)))
    ∙ (rw (count_from-none 0 w, same, rest) (omega arith))
