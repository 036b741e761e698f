-- The weights as they were before some places were taken.
use Rattle.std.proofs.Common.{◌≡◌, refl, sym, ◌∙◌, ap, ℕ, ◌+◌, ◌<◌, ◌≤◌, not, ◌==◌, List, [], ◌∷◌, ◌++◌, length, slice_index, slice_set, get_or, inl, inr, arith}
use Rattle.std.specs.Prelude.{All, Contains, filter, nat_lt, remove, sum}
use Rattle.std.proofs.lemmas.List.{get_or-set_other, get_or-set_same, get_or_default, length-map, length-set, set-set, set-get_or, length-append}
use Rattle.std.proofs.lemmas.List.Elements.{All-cons, All-head, All-nil, All-push, All-tail}
use Rattle.std.proofs.lemmas.Bool.{cases_eq}
use Rattle.resolver_sampling.specs.Choice.{chosen}
use Rattle.resolver_sampling.specs.LeftPlaces.{AreAscending, IsTaken, restored}
use Rattle.resolver_sampling.specs.Selections.{Remaining, Takes, positive_places, weights_left, by_weight}
use Rattle.resolver_sampling.proofs.Choices.{chosen-within}
use Rattle.resolver_sampling.proofs.Ascending.{positive_places-ascending, remove-all-but}
use Rattle.resolver_sampling.proofs.Positive.{ascending-other, positive-chosen, positive-sum, positive-weights, positive-without}
use Rattle.resolver_sampling.proofs.Takes.{takes}

pub restored-length : (ws : List ℕ) (taken : List (ℕ × ℕ)) → length (restored ws taken) ≡ length ws
restored-length ws [] = refl
restored-length ws (one ∷ taken) = length-set (restored ws taken) one.0 one.1 ∙ restored-length ws taken

-- the last that was taken is set first
pub restored-last : (ws : List ℕ) (taken : List (ℕ × ℕ)) (place weight : ℕ)
    → restored ws (taken ++ (place, weight) ∷ []) ≡ restored (slice_set ws place weight) taken
restored-last ws [] place weight = refl
restored-last ws (one ∷ taken) place weight = ap (λ (xs : List ℕ). slice_set xs one.0 one.1) (restored-last ws taken place weight)

-- to take one more changes nothing
restored-more : (ws : List ℕ) (taken : List (ℕ × ℕ)) (place : ℕ)
    → restored (slice_set ws place 0) (taken ++ (place, slice_index ws place) ∷ []) ≡ restored ws taken
restored-more ws taken place =
    restored-last (slice_set ws place 0) taken place (slice_index ws place)
    ∙ ap (λ (xs : List ℕ). restored xs taken) (set-set ws place 0 (slice_index ws place) ∙ set-get_or ws place 0)

-- a place that is left weighs what it did
restored-left : (ws : List ℕ) (taken : List (ℕ × ℕ)) (place : ℕ) → All (λ one. slice_index ws one.0 ≡ 0) taken → 0 < slice_index ws place
    → slice_index (restored ws taken) place ≡ slice_index ws place
restored-left ws [] place weightless positive = refl
restored-left ws (one ∷ taken) place weightless positive =
    let first : slice_index ws one.0 ≡ 0 = All-head (λ (one : ℕ × ℕ). slice_index ws one.0 ≡ 0) one taken weightless in
    get_or-set_other (restored ws taken) one.0 place one.1 0 (λ e. omega (arith, positive, first, ap (slice_index ws) e))
    ∙ restored-left ws taken place (All-tail (λ (one : ℕ × ℕ). slice_index ws one.0 ≡ 0) one taken weightless) positive

abbrev pub remaining : List ℕ → List (ℕ × ℕ) → Remaining
remaining ws taken = record { weights = restored ws taken; left = positive_places ws }

pub left-ascending : (ws : List ℕ) (taken : List (ℕ × ℕ)) (room : ℕ) → IsTaken ws taken room → AreAscending (restored ws taken) 0 (positive_places ws)
left-ascending ws taken room so =
    ascending-other ws (restored ws taken) 0 (positive_places ws)
    (λ place positive. omega (arith, positive, restored-left ws taken place so.weightless positive))
    (positive_places-ascending ws)

-- the weights of the places left
weights-left : (ws : List ℕ) (taken : List (ℕ × ℕ)) (room : ℕ) → IsTaken ws taken room → weights_left (remaining ws taken) ≡ filter (nat_lt 0) ws
weights-left ws taken room so =
    positive-weights (restored ws taken) 0 ws
    (λ k positive. ap (slice_index (restored ws taken)) (omega arith) ∙ restored-left ws taken k so.weightless positive)

pub left-sum : (ws : List ℕ) (taken : List (ℕ × ℕ)) (room : ℕ) → IsTaken ws taken room → sum (weights_left (remaining ws taken)) ≡ sum ws
left-sum ws taken room so = ap sum (weights-left ws taken room so) ∙ positive-sum ws

pub left-chosen : (ws : List ℕ) (taken : List (ℕ × ℕ)) (room n : ℕ) → IsTaken ws taken room → n < sum ws
    → by_weight (remaining ws taken) n ≡ chosen ws n
left-chosen ws taken room n so below =
    rw (weights-left ws taken room so) (positive-chosen ws 0 n below ∙ omega arith)

-- the place that is chosen is one of those left
pub chosen-left : (ws : List ℕ) (n : ℕ) → n < sum ws → Contains (positive_places ws) (chosen ws n)
chosen-left ws n below =
    let many : length (filter (nat_lt 0) ws) ≡ length (positive_places ws) =
    sym (ap length (positive-weights ws 0 ws (λ k positive. ap (slice_index ws) (omega arith)))) ∙ length-map (positive_places ws) (slice_index ws) in
    let within : chosen (filter (nat_lt 0) ws) n < length (positive_places ws) =
    omega (arith, many, chosen-within (filter (nat_lt 0) ws) n (omega (arith, below, positive-sum ws))) in
    let here : slice_index (positive_places ws) (chosen (filter (nat_lt 0) ws) n) ≡ chosen ws n = positive-chosen ws 0 n below ∙ omega arith in
    (chosen (filter (nat_lt 0) ws) n, within, get_or_default (positive_places ws) (chosen (filter (nat_lt 0) ws) n) (chosen ws n) 0 within ∙ here)

-- one more place is taken
pub takes-more : (ws : List ℕ) (taken : List (ℕ × ℕ)) (room place weight : ℕ) → IsTaken ws taken room → Contains (positive_places ws) place
    → weight ≡ slice_index ws place
    → Takes (remaining ws taken) (remaining (slice_set ws place 0) (taken ++ (place, weight) ∷ [])) place
takes-more ws taken room place weight so (k, within, here) is =
    let ascending : AreAscending (restored ws taken) 0 (positive_places ws) = left-ascending ws taken room so in
    let takes_it : Takes (remaining ws taken) (record { weights = restored ws taken; left = remove (positive_places ws) k }) place =
    takes (restored ws taken) (positive_places ws) k place ascending within (sym here) in
    let inside : place < length ws = omega (arith, takes_it.within, restored-length ws taken) in
    let all : 0 + place ≡ place = omega arith in
    let left : positive_places (slice_set ws place 0) ≡ remove (positive_places ws) k =
    positive-without ws 0 place inside ∙ ap (λ (p : ℕ). filter (λ other. not (other == p)) (positive_places ws)) all ∙ sym (remove-all-but (restored ws taken) (positive_places ws) k place ascending within (sym here)) in
    rw (is, restored-more ws taken place, left) takes_it

-- what weighed nothing does so still
still-none : (ws : List ℕ) (place other : ℕ) → place < length ws → slice_index ws other ≡ 0 → slice_index (slice_set ws place 0) other ≡ 0
still-none ws place other within none =
    elim (cases_eq other place) [
      | inl same ↦ rw (same, get_or-set_same ws place 0 0 within) refl
      | inr apart ↦ get_or-set_other ws place other 0 0 apart ∙ none
    ]

pub taken-more : (ws : List ℕ) (taken : List (ℕ × ℕ)) (room place weight : ℕ) → IsTaken ws taken room → Contains (positive_places ws) place
    → weight ≡ slice_index ws place
    → IsTaken (slice_set ws place 0) (taken ++ (place, weight) ∷ []) room
taken-more ws taken room place weight so left is =
    let takes_it : Takes (remaining ws taken) (remaining (slice_set ws place 0) (taken ++ (place, weight) ∷ [])) place =
    takes-more ws taken room place weight so left is in
    let inside : place < length ws = omega (arith, takes_it.within, restored-length ws taken) in
    let same : length (slice_set ws place 0) ≡ length ws = length-set ws place 0 in
    record {
      within = All-push (λ (one : ℕ × ℕ). one.0 < length (slice_set ws place 0)) taken (place, weight)
          (λ k d it. omega (arith, so.within k d it, same))
          (omega (arith, inside, same));
      weightless = All-push (λ (one : ℕ × ℕ). slice_index (slice_set ws place 0) one.0 ≡ 0) taken (place, weight)
          (λ k d it. still-none ws place (get_or taken k d).0 inside (so.weightless k d it))
          (get_or-set_same ws place 0 0 inside);
      fits = omega (arith, so.fits, takes_it.fewer, length-append taken ((place, weight) ∷ []));
    }

pub none-taken : (ws : List ℕ) (room : ℕ) → length (positive_places ws) ≤ room → IsTaken ws [] room
none-taken ws room fits = record {
  within = All-nil (λ (one : ℕ × ℕ). one.0 < length ws);
  weightless = All-nil (λ (one : ℕ × ℕ). slice_index ws one.0 ≡ 0);
  fits = omega (arith, fits);
}

-- there is room for one more
pub room-left : (ws : List ℕ) (taken : List (ℕ × ℕ)) (room place : ℕ) → IsTaken ws taken room → Contains (positive_places ws) place
    → length taken < room
room-left ws taken room place so (k, within, here) = omega (arith, so.fits, within)

-- a place that is left is one of all
pub left-within : (ws : List ℕ) (taken : List (ℕ × ℕ)) (room place : ℕ) → IsTaken ws taken room → Contains (positive_places ws) place
    → place < length ws
left-within ws taken room place so left =
    omega (arith, (takes-more ws taken room place (slice_index ws place) so left refl).within, restored-length ws taken)

-- what holds of all and of one more
pub all-front : (P : ℕ × ℕ → Type 0) (xs : List (ℕ × ℕ)) (x : ℕ × ℕ) → All P (xs ++ x ∷ []) → All P xs
all-front P [] x all = All-nil P
all-front P (y ∷ xs) x all =
    All-cons P y xs (All-head P y (xs ++ x ∷ []) all) (all-front P xs x (All-tail P y (xs ++ x ∷ []) all))

pub all-last : (P : ℕ × ℕ → Type 0) (xs : List (ℕ × ℕ)) (x : ℕ × ℕ) → All P (xs ++ x ∷ []) → P x
all-last P [] x all = All-head P x [] all
all-last P (y ∷ xs) x all = all-last P xs x (All-tail P y (xs ++ x ∷ []) all)
