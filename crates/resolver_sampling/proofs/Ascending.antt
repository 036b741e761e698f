-- Places that ascend are all different, and stay so where some are taken away.
use Rattle.std.proofs.Common.{◌≡◌, refl, sym, ◌∙◌, ap, ℕ, suc, zero, ◌+◌, ◌<◌, ◌≤◌, Bool, false, not, ◌==◌, List, [], ◌∷◌, length, get_or, slice_index, map, inl, inr, arith}
use Rattle.std.specs.Prelude.{nat_lt, filter, remove, All}
use Rattle.std.specs.List.{enumerate_from}
use Rattle.std.proofs.lemmas.Bool.{eq-eqb, ne_eqb, ltb-true, cond_both, cases_lt}
use Rattle.std.proofs.lemmas.List.{get_or_past}
use Rattle.resolver_sampling.specs.LeftPlaces.{AreAscending}
use Rattle.resolver_sampling.specs.Selections.{positive_from, positive_places}

-- they ascend from a smaller number on, too
weaker : (ws : List ℕ) (more less : ℕ) (places : List ℕ) → less ≤ more → AreAscending ws more places → AreAscending ws less places
weaker ws more less [] below ascending = tt
weaker ws more less (place ∷ places) below ascending = (omega (arith, ascending.0), ascending.1, ascending.2)

pub filter-ascending : (ws : List ℕ) (first : ℕ) (test : ℕ → Bool) (places : List ℕ) → AreAscending ws first places
    → AreAscending ws first (filter test places)
filter-ascending ws first test [] ascending = tt
filter-ascending ws first test (place ∷ places) ascending =
    let rest : AreAscending ws (place + 1) (filter test places) = filter-ascending ws (place + 1) test places ascending.2 in
    cond_both (test place) (place ∷ filter test places) (filter test places) (AreAscending ws first)
    (λ _. (ascending.0, ascending.1, rest)) (λ _. weaker ws (place + 1) first (filter test places) (omega (arith, ascending.0)) rest)

-- each place is one of positive weight, and none before the first
pub place-positive : (ws : List ℕ) (first : ℕ) (places : List ℕ) (k d : ℕ) → AreAscending ws first places → k < length places
    → 0 < slice_index ws (get_or places k d)
place-positive ws first [] k d ascending within = absurd (omega (arith, within))
place-positive ws first (place ∷ places) zero d ascending within = ascending.1
place-positive ws first (place ∷ places) (suc k) d ascending within =
    place-positive ws (place + 1) places k d ascending.2 (omega (arith, within))

pub place-from : (ws : List ℕ) (first : ℕ) (places : List ℕ) (k d : ℕ) → AreAscending ws first places → k < length places
    → first ≤ get_or places k d
place-from ws first [] k d ascending within = absurd (omega (arith, within))
place-from ws first (place ∷ places) zero d ascending within = ascending.0
place-from ws first (place ∷ places) (suc k) d ascending within =
    omega (arith, ascending.0, place-from ws (place + 1) places k d ascending.2 (omega (arith, within)))

-- a place of positive weight is one of the list
pub positive-within : (ws : List ℕ) (place : ℕ) → 0 < slice_index ws place → place < length ws
positive-within ws place positive =
    elim (cases_lt place (length ws)) [
      | inl within ↦ within
      | inr past ↦ absurd (omega (arith, positive, get_or_past ws place 0 past))
    ]

pub places-within : (ws : List ℕ) (places : List ℕ) → AreAscending ws 0 places → All (λ place. place < length ws) places
places-within ws places ascending = λ k d within. positive-within ws _ (place-positive ws 0 places k d ascending within)

-- two that are one place are at one index
pub same-index : (ws : List ℕ) (first : ℕ) (places : List ℕ) (i j d : ℕ) → AreAscending ws first places → i < length places → j < length places
    → get_or places i d ≡ get_or places j d → i ≡ j
same-index ws first [] i j d ascending i_within j_within same = absurd (omega (arith, i_within))
same-index ws first (place ∷ places) zero zero d ascending i_within j_within same = refl
same-index ws first (place ∷ places) zero (suc j) d ascending i_within j_within same =
    absurd (omega (arith, same, place-from ws (place + 1) places j d ascending.2 (omega (arith, j_within))))
same-index ws first (place ∷ places) (suc i) zero d ascending i_within j_within same =
    absurd (omega (arith, same, place-from ws (place + 1) places i d ascending.2 (omega (arith, i_within))))
same-index ws first (place ∷ places) (suc i) (suc j) d ascending i_within j_within same =
    ap suc (same-index ws (place + 1) places i j d ascending.2 (omega (arith, i_within)) (omega (arith, j_within)) same)

-- without a place that is not there, all stay
filter-absent : (ws : List ℕ) (first : ℕ) (places : List ℕ) (place : ℕ) → AreAscending ws first places → place < first
    → filter (λ other. not (other == place)) places ≡ places
filter-absent ws first [] place ascending below = refl
filter-absent ws first (other ∷ places) place ascending below =
    let apart : (other == place) ≡ false = ne_eqb other place (λ e. omega (arith, e, ascending.0, below)) in
    let rest : filter (λ other. not (other == place)) places ≡ places =
    filter-absent ws (other + 1) places place ascending.2 (omega (arith, ascending.0)) in
    rw (apart, rest) refl

-- without the place at an index, what is before it and behind it stays
pub filter-at : (ws : List ℕ) (first : ℕ) (places : List ℕ) (k d : ℕ) → AreAscending ws first places → k < length places
    → filter (λ other. not (other == get_or places k d)) places ≡ remove places k
filter-at ws first [] k d ascending within = absurd (omega (arith, within))
filter-at ws first (place ∷ places) zero d ascending within =
    rw (eq-eqb place place refl) (filter-absent ws (place + 1) places place ascending.2 (omega arith))
filter-at ws first (place ∷ places) (suc k) d ascending within =
    let later : place + 1 ≤ get_or places k d = place-from ws (place + 1) places k d ascending.2 (omega (arith, within)) in
    let apart : (place == get_or places k d) ≡ false = ne_eqb place (get_or places k d) (λ e. omega (arith, e, later)) in
    let rest : filter (λ other. not (other == get_or places k d)) places ≡ remove places k =
    filter-at ws (place + 1) places k d ascending.2 (omega (arith, within)) in
    rw (apart, rest) refl

-- the places of positive weight ascend
positive_from-ascending : (ws : List ℕ) (first : ℕ) (rest : List ℕ) → ((k : ℕ) → slice_index rest k ≡ slice_index ws (first + k))
    → AreAscending ws first (positive_from first rest)
positive_from-ascending ws first [] same = tt
positive_from-ascending ws first (w ∷ rest) same =
    let entries : List (ℕ × ℕ) = filter (λ entry. nat_lt 0 entry.1) (enumerate_from (first + 1) rest) in
    let here : w ≡ slice_index ws first = same 0 ∙ ap (slice_index ws) (omega arith) in
    let later : AreAscending ws (first + 1) (map (λ entry. entry.0) entries) =
    positive_from-ascending ws (first + 1) rest (λ k. same (suc k) ∙ ap (slice_index ws) (omega arith)) in
    cond_both (nat_lt 0 w) ((first, w) ∷ entries) entries (λ es. AreAscending ws first (map (λ entry. entry.0) es))
    (λ positive. (omega arith, omega (arith, here, ltb-true 0 w positive), later))
    (λ _. weaker ws (first + 1) first (map (λ entry. entry.0) entries) (omega arith) later)

pub positive_places-ascending : (ws : List ℕ) → AreAscending ws 0 (positive_places ws)
positive_places-ascending ws = positive_from-ascending ws 0 ws (λ k. ap (slice_index ws) (omega arith))

-- without the place at an index, the others ascend, and they are all but that one
pub remove-all-but : (ws : List ℕ) (places : List ℕ) (k place : ℕ) → AreAscending ws 0 places → k < length places
    → place ≡ get_or places k place → remove places k ≡ filter (λ other. not (other == place)) places
remove-all-but ws places k place ascending within is =
    sym (filter-at ws 0 places k place ascending within)
    ∙ ap (λ (p : ℕ). filter (λ other. not (other == p)) places) (sym is)

pub remove-ascending : (ws : List ℕ) (places : List ℕ) (k : ℕ) → AreAscending ws 0 places → k < length places
    → AreAscending ws 0 (remove places k)
remove-ascending ws places k ascending within =
    let place : ℕ = get_or places k 0 in
    rw (← filter-at ws 0 places k 0 ascending within) (filter-ascending ws 0 (λ other. not (other == place)) places ascending)
