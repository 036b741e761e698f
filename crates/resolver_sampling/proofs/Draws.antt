-- The numbers that take each place left.
use Rattle.std.proofs.Common.{◌≡◌, ◌≢◌, sym, ◌∙◌, ap, ℕ, ◌<◌, ◌==◌, List, length, get_or, slice_index, inl, inr, arith}
use Rattle.std.specs.Prelude.{sum}
use Rattle.std.proofs.lemmas.Bool.{eq-eqb, ne_eqb, cases_eq}
use Rattle.std.proofs.lemmas.List.{get_or-map, get_or_default, length-map}
use Rattle.resolver_sampling.specs.Choice.{chosen}
use Rattle.resolver_sampling.specs.LeftPlaces.{AreAscending}
use Rattle.resolver_sampling.specs.Selections.{Remaining, weights_left, by_weight, by_count, DrawsByWeight, DrawsEachOnce}
use Rattle.resolver_sampling.proofs.Ascending.{same-index}
use Rattle.resolver_sampling.proofs.Choices.{chosen-within}
use Rattle.resolver_sampling.proofs.ChoiceCounts.{chooses_by_weight}
use Rattle.resolver_sampling.proofs.Counts.{count_from-same, count_from-one}

-- The place at one index is a place exactly where the index is that of the place.
place-index : (ws left : List ℕ) (i k place : ℕ) → AreAscending ws 0 left → i < length left → k < length left
    → get_or left k place ≡ place → (slice_index left i == place) ≡ (i == k)
place-index ws left i k place ascending i_within k_within here =
    elim (cases_eq i k) [
      | inl same ↦
          let read : slice_index left i ≡ place = ap (slice_index left) same ∙ get_or_default left k 0 place k_within ∙ here in
          eq-eqb (slice_index left i) place read ∙ sym (eq-eqb i k same)
      | inr apart ↦
          let other : slice_index left i ≢ place =
          λ e. apart (same-index ws 0 left i k 0 ascending i_within k_within (e ∙ sym here ∙ get_or_default left k place 0 k_within)) in
          ne_eqb (slice_index left i) place other ∙ sym (ne_eqb i k apart)
    ]

pub draws-each-once : (selection : Remaining) → AreAscending selection.weights 0 selection.left → DrawsEachOnce selection
draws-each-once selection ascending place (k, within, here) =
    count_from-same 0 (length selection.left) (λ n. by_count selection n == place) (λ n. n == k)
    (λ n _ below. place-index selection.weights selection.left n k place ascending (omega (arith, below)) within here)
    ∙ count_from-one 0 (length selection.left) k (omega arith) (omega (arith, within))

pub draws-by-weight : (selection : Remaining) → AreAscending selection.weights 0 selection.left → DrawsByWeight selection
draws-by-weight selection ascending place (k, within, here) =
    let weights : List ℕ = weights_left selection in
    let many : length weights ≡ length selection.left = length-map selection.left (slice_index selection.weights) in
    let weight : slice_index weights k ≡ slice_index selection.weights place =
    get_or-map (slice_index selection.weights) selection.left k place 0 within ∙ ap (slice_index selection.weights) here in
    count_from-same 0 (sum weights) (λ n. by_weight selection n == place) (λ n. chosen weights n == k)
    (λ n _ below. place-index selection.weights selection.left (chosen weights n) k place ascending (omega (arith, many, chosen-within weights n (omega (arith, below)))) within here)
    ∙ chooses_by_weight weights k (omega (arith, many, within)) ∙ weight
