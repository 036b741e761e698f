-- What a draw takes away, and what there is to draw from at the beginning.
use Rattle.std.proofs.Common.{◌≡◌, refl, sym, ◌∙◌, ap, ℕ, suc, ◌+◌, ◌<◌, List, [], ◌∷◌, length, get_or, slice_index, map, arith}
use Rattle.std.specs.Prelude.{sum, filter, remove, nat_lt}
use Rattle.std.specs.List.{enumerate_from}
use Rattle.std.proofs.lemmas.Bool.{cond_both, ltb-false}
use Rattle.std.proofs.lemmas.List.Edits.{length-remove}
use Rattle.std.proofs.lemmas.List.Sums.{sum_by-cons, sum_by-remove, sum-map}
use Rattle.resolver_sampling.specs.LeftPlaces.{AreAscending}
use Rattle.resolver_sampling.specs.Selections.{Remaining, Takes, weights_left, begun, positive_from}
use Rattle.resolver_sampling.proofs.Ascending.{place-positive, positive-within, remove-all-but}

abbrev remaining_of : List ℕ → List ℕ → Remaining
remaining_of weights left = record { weights = weights; left = left }

-- the weight of the place at an index is gone with it
lighter : (weights left : List ℕ) (k place : ℕ) → k < length left → place ≡ get_or left k place
    → sum (weights_left (remaining_of weights (remove left k))) + slice_index weights place ≡ sum (weights_left (remaining_of weights left))
lighter weights left k place within is =
    let weight : slice_index weights place ≡ slice_index weights (get_or left k place) = ap (slice_index weights) is in
    rw (sum-map (slice_index weights) (remove left k), sum-map (slice_index weights) left, weight)
    (sum_by-remove (slice_index weights) left k place within)

pub takes : (weights left : List ℕ) (k place : ℕ) → AreAscending weights 0 left → k < length left → place ≡ get_or left k place
    → Takes (remaining_of weights left) (remaining_of weights (remove left k)) place
takes weights left k place ascending within is =
    let positive : 0 < slice_index weights place =
    omega (arith, ap (slice_index weights) is, place-positive weights 0 left k place ascending within) in
    record {
      was_left = (k, within, sym is);
      within = positive-within weights place positive;
      positive = positive;
      left = ap (remaining_of weights) (remove-all-but weights left k place ascending within is);
      fewer = length-remove left k within;
      lighter = lighter weights left k place within is;
    }

-- Places of weight 0 add nothing to the total.
total-from : (weights : List ℕ) (first : ℕ) (rest : List ℕ) → ((k : ℕ) → slice_index rest k ≡ slice_index weights (first + k))
    → sum (map (slice_index weights) (positive_from first rest)) ≡ sum rest
total-from weights first [] same = refl
total-from weights first (w ∷ rest) same =
    let entries : List (ℕ × ℕ) = filter (λ entry. nat_lt 0 entry.1) (enumerate_from (first + 1) rest) in
    let places : List ℕ = map (λ entry. entry.0) entries in
    let here : w ≡ slice_index weights first = same 0 ∙ ap (slice_index weights) (omega arith) in
    let later : sum (map (slice_index weights) places) ≡ sum rest =
    total-from weights (first + 1) rest (λ k. same (suc k) ∙ ap (slice_index weights) (omega arith)) in
    let whole : sum (w ∷ rest) ≡ w + sum rest = sum_by-cons (λ x. x) w rest in
    let more : sum (map (slice_index weights) (first ∷ places)) ≡ slice_index weights first + sum (map (slice_index weights) places) =
    sum_by-cons (λ x. x) (slice_index weights first) (map (slice_index weights) places) in
    cond_both (nat_lt 0 w) ((first, w) ∷ entries) entries (λ es. sum (map (slice_index weights) (map (λ entry. entry.0) es)) ≡ sum (w ∷ rest))
    (λ _. omega (arith, more, here, later, whole))
    (λ none. omega (arith, ltb-false 0 w none, later, whole))

pub total-begun : (weights : List ℕ) → sum (weights_left (begun weights)) ≡ sum weights
total-begun weights = total-from weights 0 weights (λ k. ap (slice_index weights) (omega arith))

-- Places of positive weight have a positive total.
pub total-positive : (weights : List ℕ) (first : ℕ) (left : List ℕ) → AreAscending weights first left → 0 < length left
    → 0 < sum (map (slice_index weights) left)
total-positive weights first [] ascending some = absurd (omega (arith, some))
total-positive weights first (place ∷ places) ascending some =
    omega (arith, ascending.1, sum_by-cons (λ x. x) (slice_index weights place) (map (slice_index weights) places))
