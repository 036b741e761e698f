-- The places of positive weight, as the trees of sums and of counts find them.
use Rattle.std.proofs.Common.{◌≡◌, refl, sym, ◌∙◌, ap, ℕ, suc, zero, ◌+◌, ◌-◌, ◌<◌, ◌≤◌, Bool, true, false, not, ◌==◌, List, [], ◌∷◌, length, slice_index, slice_set, map, inl, inr, arith}
use Rattle.std.specs.Prelude.{sum, filter, nat_lt}
use Rattle.std.proofs.lemmas.Bool.{lt-ltb, le-ltb, eq-eqb, ne_eqb, cases_lt}
use Rattle.std.proofs.lemmas.List.Sums.{sum_by-cons}
use Rattle.resolver_sampling.specs.Choice.{chosen}
use Rattle.resolver_sampling.specs.LeftPlaces.{AreAscending}
use Rattle.resolver_sampling.specs.Selections.{positive_from}
use Rattle.resolver_sampling.specs.SumTrees.{mark}
use Rattle.resolver_sampling.proofs.Choices.{chosen-first, chosen-later}
use Rattle.resolver_sampling.proofs.Marks.{no-mark, some-mark}

sum-cons : (w : ℕ) (ws : List ℕ) → sum (w ∷ ws) ≡ w + sum ws
sum-cons w ws = sum_by-cons (λ x. x) w ws

kept : (p : ℕ → Bool) (x : ℕ) (xs : List ℕ) → p x ≡ true → filter p (x ∷ xs) ≡ x ∷ filter p xs
kept p x xs is = rw is refl

left-out : (p : ℕ → Bool) (x : ℕ) (xs : List ℕ) → p x ≡ false → filter p (x ∷ xs) ≡ filter p xs
left-out p x xs is = rw is refl

-- a positive weight before others, and one that is zero
some-place : (first w : ℕ) (ws : List ℕ) → 0 < w → positive_from first (w ∷ ws) ≡ first ∷ positive_from (first + 1) ws
some-place first w ws some = rw (lt-ltb 0 w some) refl

no-place : (first w : ℕ) (ws : List ℕ) → w ≤ 0 → positive_from first (w ∷ ws) ≡ positive_from (first + 1) ws
no-place first w ws none = rw (le-ltb 0 w none) refl

some-weight : (w : ℕ) (ws : List ℕ) → 0 < w → filter (nat_lt 0) (w ∷ ws) ≡ w ∷ filter (nat_lt 0) ws
some-weight w ws some = kept (nat_lt 0) w ws (lt-ltb 0 w some)

no-weight : (w : ℕ) (ws : List ℕ) → w ≤ 0 → filter (nat_lt 0) (w ∷ ws) ≡ filter (nat_lt 0) ws
no-weight w ws none = left-out (nat_lt 0) w ws (le-ltb 0 w none)

-- the marks add up to the count of the places
pub marks-count : (ws : List ℕ) (first : ℕ) → sum (map mark ws) ≡ length (positive_from first ws)
marks-count [] first = refl
marks-count (w ∷ ws) first =
    let later : sum (map mark ws) ≡ length (positive_from (first + 1) ws) = marks-count ws (first + 1) in
    elim (cases_lt 0 w) [
      | inl some ↦
          let count : length (positive_from first (w ∷ ws)) ≡ suc (length (positive_from (first + 1) ws)) = ap length (some-place first w ws some) in
          omega (arith, sum-cons (mark w) (map mark ws), some-mark w some, later, count)
      | inr none ↦
          let count : length (positive_from first (w ∷ ws)) ≡ length (positive_from (first + 1) ws) = ap length (no-place first w ws none) in
          omega (arith, sum-cons (mark w) (map mark ws), no-mark w none, later, count)
    ]

-- there are no more of them than of all places
pub positive-few : (ws : List ℕ) (first : ℕ) → length (positive_from first ws) ≤ length ws
positive-few [] first = omega arith
positive-few (w ∷ ws) first =
    elim (cases_lt 0 w) [
      | inl some ↦ omega (arith, ap length (some-place first w ws some), positive-few ws (first + 1))
      | inr none ↦ omega (arith, ap length (no-place first w ws none), positive-few ws (first + 1))
    ]

-- a number chooses among the marks as it does among the places
marks-first : (ws : List ℕ) (first w n : ℕ) → 0 < w → n < 1 + sum (map mark ws)
    → ((n : ℕ) → n < sum (map mark ws) → slice_index (positive_from (first + 1) ws) n ≡ first + 1 + chosen (map mark ws) n)
    → slice_index (positive_from first (w ∷ ws)) n ≡ first + chosen (map mark (w ∷ ws)) n
marks-first ws first w zero some below later =
    let place : slice_index (positive_from first (w ∷ ws)) 0 ≡ first = ap (λ (ps : List ℕ). slice_index ps 0) (some-place first w ws some) in
    omega (arith, place, chosen-first (mark w) (map mark ws) 0 (omega (arith, some-mark w some)))
marks-first ws first w (suc n) some below later =
    let place : slice_index (positive_from first (w ∷ ws)) (suc n) ≡ slice_index (positive_from (first + 1) ws) n =
    ap (λ (ps : List ℕ). slice_index ps (suc n)) (some-place first w ws some) in
    let less : suc n - mark w ≡ n = omega (arith, some-mark w some) in
    let choice : chosen (map mark (w ∷ ws)) (suc n) ≡ chosen (map mark ws) n + 1 =
    chosen-later (mark w) (map mark ws) (suc n) (omega (arith, some-mark w some)) ∙ ap (λ (k : ℕ). chosen (map mark ws) k + 1) less in
    omega (arith, place, choice, later n (omega (arith, below)))

pub marks-chosen : (ws : List ℕ) (first n : ℕ) → n < sum (map mark ws)
    → slice_index (positive_from first ws) n ≡ first + chosen (map mark ws) n
marks-chosen [] first n below = absurd (omega (arith, below))
marks-chosen (w ∷ ws) first n below =
    let whole : sum (map mark (w ∷ ws)) ≡ mark w + sum (map mark ws) = sum-cons (mark w) (map mark ws) in
    elim (cases_lt 0 w) [
      | inl some ↦ marks-first ws first w n some (omega (arith, below, whole, some-mark w some)) (λ k less. marks-chosen ws (first + 1) k less)
      | inr none ↦
          let place : slice_index (positive_from first (w ∷ ws)) n ≡ slice_index (positive_from (first + 1) ws) n =
          ap (λ (ps : List ℕ). slice_index ps n) (no-place first w ws none) in
          let less : n - mark w ≡ n = omega (arith, no-mark w none) in
          let choice : chosen (map mark (w ∷ ws)) n ≡ chosen (map mark ws) n + 1 =
          chosen-later (mark w) (map mark ws) n (omega (arith, no-mark w none)) ∙ ap (λ (k : ℕ). chosen (map mark ws) k + 1) less in
          omega (arith, place, choice, marks-chosen ws (first + 1) n (omega (arith, below, whole, no-mark w none)))
    ]

-- the weights of the places are the positive ones
pub positive-weights : (all : List ℕ) (first : ℕ) (ws : List ℕ) → ((k : ℕ) → 0 < slice_index ws k → slice_index all (first + k) ≡ slice_index ws k)
    → map (slice_index all) (positive_from first ws) ≡ filter (nat_lt 0) ws
positive-weights all first [] same = refl
positive-weights all first (w ∷ ws) same =
    let later : map (slice_index all) (positive_from (first + 1) ws) ≡ filter (nat_lt 0) ws =
    positive-weights all (first + 1) ws (λ k positive. ap (slice_index all) (omega arith) ∙ same (suc k) positive) in
    elim (cases_lt 0 w) [
      | inl some ↦
          let none : first ≡ first + 0 = omega arith in
          let here : slice_index all first ≡ w = ap (slice_index all) none ∙ same 0 some in
          let both : slice_index all first ∷ map (slice_index all) (positive_from (first + 1) ws) ≡ w ∷ filter (nat_lt 0) ws = rw (here, later) refl in
          ap (map (slice_index all)) (some-place first w ws some) ∙ both ∙ sym (some-weight w ws some)
      | inr none ↦ ap (map (slice_index all)) (no-place first w ws none) ∙ later ∙ sym (no-weight w ws none)
    ]

-- they weigh as much as all, and a number chooses among them as it does among all
pub positive-sum : (ws : List ℕ) → sum (filter (nat_lt 0) ws) ≡ sum ws
positive-sum [] = refl
positive-sum (w ∷ ws) =
    elim (cases_lt 0 w) [
      | inl some ↦ omega (arith, ap sum (some-weight w ws some), sum-cons w (filter (nat_lt 0) ws), sum-cons w ws, positive-sum ws)
      | inr none ↦ omega (arith, ap sum (no-weight w ws none), sum-cons w ws, positive-sum ws, none)
    ]

pub positive-chosen : (ws : List ℕ) (first n : ℕ) → n < sum ws
    → slice_index (positive_from first ws) (chosen (filter (nat_lt 0) ws) n) ≡ first + chosen ws n
positive-chosen [] first n below = absurd (omega (arith, below))
positive-chosen (w ∷ ws) first n below =
    elim (cases_lt 0 w) [
      | inl some ↦ rw (some-weight w ws some, some-place first w ws some) (elim (cases_lt n w) [
        | inl less ↦ rw (chosen-first w ws n less, chosen-first w (filter (nat_lt 0) ws) n less) (omega arith)
        | inr above ↦
            let later : slice_index (positive_from (first + 1) ws) (chosen (filter (nat_lt 0) ws) (n - w)) ≡ first + 1 + chosen ws (n - w) =
            positive-chosen ws (first + 1) (n - w) (omega (arith, below, above, sum-cons w ws)) in
            let more : chosen (filter (nat_lt 0) ws) (n - w) + 1 ≡ suc (chosen (filter (nat_lt 0) ws) (n - w)) = omega arith in
            rw (chosen-later w ws n above, chosen-later w (filter (nat_lt 0) ws) n above, more) (omega (arith, later))
      ])
      | inr none ↦
          let less : n - w ≡ n = omega (arith, none) in
          let later : slice_index (positive_from (first + 1) ws) (chosen (filter (nat_lt 0) ws) n) ≡ first + 1 + chosen ws n =
          positive-chosen ws (first + 1) n (omega (arith, below, none, sum-cons w ws)) in
          let choice : chosen (w ∷ ws) n ≡ chosen ws n + 1 = chosen-later w ws n (omega (arith, none)) ∙ ap (λ (k : ℕ). chosen ws k + 1) less in
          rw (no-weight w ws none, no-place first w ws none) (omega (arith, later, choice))
    ]

-- all places but one
abbrev but : (place : ℕ) → ℕ → Bool
but place = λ other. not (other == place)

-- a place before the first is none of them
none-before : (ws : List ℕ) (first place : ℕ) → place < first → filter (but place) (positive_from first ws) ≡ positive_from first ws
none-before [] first place below = refl
none-before (w ∷ ws) first place below =
    let later : filter (but place) (positive_from (first + 1) ws) ≡ positive_from (first + 1) ws = none-before ws (first + 1) place (omega arith) in
    elim (cases_lt 0 w) [
      | inl some ↦
          ap (filter (but place)) (some-place first w ws some)
          ∙ kept (but place) first (positive_from (first + 1) ws) (ap not (ne_eqb first place (λ e. omega (arith, e, below))))
          ∙ ap (λ (ps : List ℕ). first ∷ ps) later
          ∙ sym (some-place first w ws some)
      | inr none ↦ ap (filter (but place)) (no-place first w ws none) ∙ later ∙ sym (no-place first w ws none)
    ]

-- a place that weighs nothing is one of them no more
pub positive-without : (ws : List ℕ) (first place : ℕ) → place < length ws
    → positive_from first (slice_set ws place 0) ≡ filter (but (first + place)) (positive_from first ws)
positive-without [] first place within = absurd (omega (arith, within))
positive-without (w ∷ ws) first zero within =
    let same : first + 0 ≡ first = omega arith in
    let later : filter (but (first + 0)) (positive_from (first + 1) ws) ≡ positive_from (first + 1) ws = none-before ws (first + 1) (first + 0) (omega arith) in
    elim (cases_lt 0 w) [
      | inl some ↦
          sym (ap (filter (but (first + 0))) (some-place first w ws some)
          ∙ left-out (but (first + 0)) first (positive_from (first + 1) ws) (ap not (eq-eqb first (first + 0) (omega arith)))
          ∙ later)
      | inr none ↦ sym (ap (filter (but (first + 0))) (no-place first w ws none) ∙ later)
    ]
positive-without (w ∷ ws) first (suc place) within =
    let next : first + 1 + place ≡ first + suc place = omega arith in
    let later : positive_from (first + 1) (slice_set ws place 0) ≡ filter (but (first + suc place)) (positive_from (first + 1) ws) =
    positive-without ws (first + 1) place (omega (arith, within)) ∙ ap (λ (p : ℕ). filter (but p) (positive_from (first + 1) ws)) next in
    elim (cases_lt 0 w) [
      | inl some ↦
          some-place first w (slice_set ws place 0) some
          ∙ ap (λ (ps : List ℕ). first ∷ ps) later
          ∙ sym (ap (filter (but (first + suc place))) (some-place first w ws some)
          ∙ kept (but (first + suc place)) first (positive_from (first + 1) ws) (ap not (ne_eqb first (first + suc place) (λ e. omega (arith, e)))))
      | inr none ↦
          no-place first w (slice_set ws place 0) none ∙ later ∙ sym (ap (filter (but (first + suc place))) (no-place first w ws none))
    ]

-- places that ascend by some weights do so by all that are positive there
pub ascending-other : (ws all : List ℕ) (first : ℕ) (places : List ℕ) → ((place : ℕ) → 0 < slice_index ws place → 0 < slice_index all place)
    → AreAscending ws first places → AreAscending all first places
ascending-other ws all first [] positive ascending = tt
ascending-other ws all first (place ∷ places) positive ascending =
    (ascending.0, positive place ascending.1, ascending-other ws all (place + 1) places positive ascending.2)
