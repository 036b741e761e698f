-- Names with what they weigh: whom a number chooses among those that weigh something, and what becomes of them.
use Rattle.std.proofs.Common.{◌≡◌, refl, ap, sym, ◌∙◌, ℕ, zero, suc, ◌+◌, ◌-◌, ◌<◌, ◌≤◌, Bool, true, false, ◌==◌, List, [], ◌∷◌, ◌++◌, length, map, slice_index, slice_set, slice_get, get_or, Bor, Option, None, Some, option_map, if◌then◌else◌, inl, inr, arith}
use Rattle.std.specs.BTreeMap.{is_at}
use Rattle.std.specs.Cmp.{IsTotalOrder}
use Rattle.std.specs.List.Sorted.{IsStrictlySortedBy}
use Rattle.std.specs.Map.{keys_of, lookup, set_value}
use Rattle.std.specs.Ordering.{is_eq}
use Rattle.std.specs.Option.{option_copied}
use Rattle.std.specs.Prelude.{IfSome, is_some, nat_lt, sum}
use Rattle.std.specs.declared.cmp.Ordering.{Ordering}
use Rattle.std.proofs.lemmas.Bool.{cases_lt, le-ltb, lt-ltb}
use Rattle.std.proofs.lemmas.Bool.Decides.{nat_tests}
use Rattle.std.proofs.lemmas.List.{length-map, length-set, set-get_or, set-set}
use Rattle.std.proofs.lemmas.List.Elements.{All-nil, All-push}
use Rattle.std.proofs.lemmas.List.Sums.{sum_by-cons, sum_by-set}
use Rattle.std.proofs.lemmas.Map.Keys.{sorted_head, sorted_tail}
use Rattle.std.proofs.lemmas.Option.{slice_get_past}
use Rattle.resolver_sampling.specs.Choice.{chosen}
use Rattle.resolver_sampling.specs.LeftPlaces.{restored}
use Rattle.resolver_sampling.specs.SumTrees.{mark}
use Rattle.resolver_sampling.proofs.Choices.{chosen-first, chosen-later}
use Rattle.resolver_sampling.proofs.Marks.{marks-set}
use Rattle.resolver_sampling.proofs.Restored.{restored-last, restored-length}
use Rattle.resolver_fetch_scan.specs.Pools.{IsNamed, IsPool, Pool, is_named, revalued, weighing, weighted, whole}
use Rattle.resolver_fetch_scan.specs.Trying.{apart_from, at_place, at_weight, weights_of}
use Rattle.resolver_fetch_scan.proofs.Searched.{before-named, named-within, none-behind, or-neither}
use Rattle.resolver_fetch_scan.proofs.Tried.{equal-back, equal-is}

-- the names that weigh something, with what they weigh
abbrev pub weighing_of : {P : Type 0} → List P → (weights : List ℕ) → List (P × ℕ)
weighing_of names weights = weighing (weighted names weights)

sum-cons : (w : ℕ) (ws : List ℕ) → sum (w ∷ ws) ≡ w + sum ws
sum-cons w ws = sum_by-cons (λ x. x) w ws

some-mark : (w : ℕ) → 0 < w → mark w ≡ 1
some-mark w some = rw (lt-ltb 0 w some) refl

no-mark : (w : ℕ) → w ≤ 0 → mark w ≡ 0
no-mark w none = rw (le-ltb 0 w none) refl

-- the item behind the first
get-next : {X : Type 0} (x : X) (xs : List X) (k : ℕ) → slice_get (x ∷ xs) (k + 1) ≡ slice_get xs k
get-next x xs k = let more : k + 1 ≡ suc k = omega arith in ap (slice_get (x ∷ xs)) more

get-at : {X : Type 0} (xs : List X) (k : ℕ) (x : X) → k < length xs → x ≡ get_or xs k x → slice_get xs k ≡ Some x
get-at [] k x within is = absurd (omega (arith, within))
get-at (y ∷ xs) zero x within is = ap Some (sym is)
get-at (y ∷ xs) (suc k) x within is = get-at xs k x (omega (arith, within)) is

-- what `get` of a slice answers
pub got : {X : Type 0} (r : Option (Bor X)) (xs : List X) (k : ℕ) → is_some r ≡ nat_lt k (length xs) → IfSome r (λ x. x.now ≡ get_or xs k x.now) → option_copied r ≡ slice_get xs k
got None xs k some is = let past : length xs ≤ k = grind (arith, nat_tests, some) in sym (slice_get_past xs k past)
got (Some x) xs k some is = let within : k < length xs = grind (arith, nat_tests, some) in sym (get-at xs k x.now within is)

module _ {P : Type 0} where
  pub some-weighs : (n : P) (ns : List P) (w : ℕ) (ws : List ℕ) → 0 < w → weighing_of (n ∷ ns) (w ∷ ws) ≡ (n, w) ∷ weighing_of ns ws
  some-weighs n ns w ws some = rw (lt-ltb 0 w some) refl

  none-weighs : (n : P) (ns : List P) (w : ℕ) (ws : List ℕ) → w ≤ 0 → weighing_of (n ∷ ns) (w ∷ ws) ≡ weighing_of ns ws
  none-weighs n ns w ws none = rw (le-ltb 0 w none) refl

  -- those that weigh nothing add nothing
  pub same-total : (ns : List P) (ws : List ℕ) → length ns ≡ length ws → sum (weights_of (weighing_of ns ws)) ≡ sum ws
  same-total [] [] many = refl
  same-total [] (w ∷ ws) many = absurd (omega (arith, many))
  same-total (n ∷ ns) [] many = absurd (omega (arith, many))
  same-total (n ∷ ns) (w ∷ ws) many =
      let rest : sum (weights_of (weighing_of ns ws)) ≡ sum ws = same-total ns ws (omega (arith, many)) in
      elim (cases_lt 0 w) [
        | inl some ↦
            let here : sum (weights_of (weighing_of (n ∷ ns) (w ∷ ws))) ≡ sum (w ∷ weights_of (weighing_of ns ws)) = ap (λ (ps : List (P × ℕ)). sum (weights_of ps)) (some-weighs n ns w ws some) in
            omega (arith, here, sum-cons w (weights_of (weighing_of ns ws)), sum-cons w ws, rest)
        | inr none ↦
            let here : sum (weights_of (weighing_of (n ∷ ns) (w ∷ ws))) ≡ sum (weights_of (weighing_of ns ws)) = ap (λ (ps : List (P × ℕ)). sum (weights_of ps)) (none-weighs n ns w ws none) in
            omega (arith, here, sum-cons w ws, none, rest)
      ]

  -- one mark for each that weighs something
  pub same-count : (ns : List P) (ws : List ℕ) → length ns ≡ length ws → length (weighing_of ns ws) ≡ sum (map mark ws)
  same-count [] [] many = refl
  same-count [] (w ∷ ws) many = absurd (omega (arith, many))
  same-count (n ∷ ns) [] many = absurd (omega (arith, many))
  same-count (n ∷ ns) (w ∷ ws) many =
      let rest : length (weighing_of ns ws) ≡ sum (map mark ws) = same-count ns ws (omega (arith, many)) in
      elim (cases_lt 0 w) [
        | inl some ↦
            let here : length (weighing_of (n ∷ ns) (w ∷ ws)) ≡ suc (length (weighing_of ns ws)) = ap length (some-weighs n ns w ws some) in
            omega (arith, here, sum-cons (mark w) (map mark ws), some-mark w some, rest)
        | inr none ↦
            let here : length (weighing_of (n ∷ ns) (w ∷ ws)) ≡ length (weighing_of ns ws) = ap length (none-weighs n ns w ws none) in
            omega (arith, here, sum-cons (mark w) (map mark ws), no-mark w none, rest)
      ]

  -- a number chooses the same peer by all weights and by those of the peers left
  weight-chooses : (ns : List P) (ws : List ℕ) (k : ℕ) → length ns ≡ length ws → k < sum ws
      → at_place (weighing_of ns ws) (chosen (weights_of (weighing_of ns ws)) k) ≡ slice_get ns (chosen ws k)
  weight-chooses [] [] k many below = absurd (omega (arith, below))
  weight-chooses [] (w ∷ ws) k many below = absurd (omega (arith, many))
  weight-chooses (n ∷ ns) [] k many below = absurd (omega (arith, many))
  weight-chooses (n ∷ ns) (w ∷ ws) k many below =
      let left : List (P × ℕ) = weighing_of ns ws in
      let whole : sum (w ∷ ws) ≡ w + sum ws = sum-cons w ws in
      let later : (j : ℕ) → j < sum ws → at_place left (chosen (weights_of left) j) ≡ slice_get ns (chosen ws j) =
      λ j less. weight-chooses ns ws j (omega (arith, many)) less in
      elim (cases_lt 0 w) [
        | inl some ↦
            let here : at_place (weighing_of (n ∷ ns) (w ∷ ws)) (chosen (weights_of (weighing_of (n ∷ ns) (w ∷ ws))) k) ≡ at_place ((n, w) ∷ left) (chosen (w ∷ weights_of left) k) =
            ap (λ (ps : List (P × ℕ)). at_place ps (chosen (weights_of ps) k)) (some-weighs n ns w ws some) in
            elim (cases_lt k w) [
              | inl first ↦
                  here
                  ∙ ap (at_place ((n, w) ∷ left)) (chosen-first w (weights_of left) k first)
                  ∙ sym (ap (slice_get (n ∷ ns)) (chosen-first w ws k first))
              | inr above ↦
                  here
                  ∙ ap (at_place ((n, w) ∷ left)) (chosen-later w (weights_of left) k above)
                  ∙ ap (option_map (λ (p : P × ℕ). p.0)) (get-next (n, w) left (chosen (weights_of left) (k - w)))
                  ∙ later (k - w) (omega (arith, below, whole, above))
                  ∙ sym (ap (slice_get (n ∷ ns)) (chosen-later w ws k above) ∙ get-next n ns (chosen ws (k - w)))
            ]
        | inr none ↦
            let less : k - w ≡ k = omega (arith, none) in
            ap (λ (ps : List (P × ℕ)). at_place ps (chosen (weights_of ps) k)) (none-weighs n ns w ws none)
            ∙ later k (omega (arith, below, whole, none))
            ∙ sym (ap (slice_get (n ∷ ns)) (chosen-later w ws k (omega (arith, none))) ∙ get-next n ns (chosen ws (k - w)) ∙ ap (λ (j : ℕ). slice_get ns (chosen ws j)) less)
      ]

  -- whom a number below the total chooses by weight
  pub chosen-by-weight : (ns : List P) (ws : List ℕ) (k : ℕ) → length ns ≡ length ws → k < sum ws → at_weight (weighing_of ns ws) k ≡ slice_get ns (chosen ws k)
  chosen-by-weight ns ws k many below =
      let left : List (P × ℕ) = weighing_of ns ws in
      ap (λ (b : Bool). if b then at_place left (chosen (weights_of left) k) else None) (lt-ltb k (sum (weights_of left)) (omega (arith, same-total ns ws many, below)))
      ∙ weight-chooses ns ws k many below

  -- one past the total chooses none
  pub none-by-weight : (ns : List P) (ws : List ℕ) (k : ℕ) → length ns ≡ length ws → sum ws ≤ k → at_weight (weighing_of ns ws) k ≡ None
  none-by-weight ns ws k many past =
      let left : List (P × ℕ) = weighing_of ns ws in
      ap (λ (b : Bool). if b then at_place left (chosen (weights_of left) k) else None) (le-ltb k (sum (weights_of left)) (omega (arith, same-total ns ws many, past)))

  -- whom a number below the count chooses by place
  pub chosen-by-place : (ns : List P) (ws : List ℕ) (k : ℕ) → length ns ≡ length ws → k < sum (map mark ws) → at_place (weighing_of ns ws) k ≡ slice_get ns (chosen (map mark ws) k)
  chosen-by-place [] [] k many below = absurd (omega (arith, below))
  chosen-by-place [] (w ∷ ws) k many below = absurd (omega (arith, many))
  chosen-by-place (n ∷ ns) [] k many below = absurd (omega (arith, many))
  chosen-by-place (n ∷ ns) (w ∷ ws) k many below =
      let whole : sum (map mark (w ∷ ws)) ≡ mark w + sum (map mark ws) = sum-cons (mark w) (map mark ws) in
      elim (cases_lt 0 w) [
        | inl some ↦ first k below (λ j less. chosen-by-place ns ws j (omega (arith, many)) (omega (arith, less, whole, some-mark w some))) some
        | inr none ↦
            let less : k - mark w ≡ k = omega (arith, no-mark w none) in
            ap (λ (ps : List (P × ℕ)). at_place ps k) (none-weighs n ns w ws none)
            ∙ chosen-by-place ns ws k (omega (arith, many)) (omega (arith, below, whole, no-mark w none))
            ∙ sym (ap (slice_get (n ∷ ns)) (chosen-later (mark w) (map mark ws) k (omega (arith, no-mark w none))) ∙ get-next n ns (chosen (map mark ws) (k - mark w)) ∙ ap (λ (j : ℕ). slice_get ns (chosen (map mark ws) j)) less)
      ] where
        first : (k : ℕ) → k < sum (map mark (w ∷ ws)) → ((j : ℕ) → suc j < sum (map mark (w ∷ ws)) → at_place (weighing_of ns ws) j ≡ slice_get ns (chosen (map mark ws) j)) → 0 < w
            → at_place (weighing_of (n ∷ ns) (w ∷ ws)) k ≡ slice_get (n ∷ ns) (chosen (map mark (w ∷ ws)) k)
        first zero below later some =
            ap (λ (ps : List (P × ℕ)). at_place ps 0) (some-weighs n ns w ws some)
            ∙ sym (ap (slice_get (n ∷ ns)) (chosen-first (mark w) (map mark ws) 0 (omega (arith, some-mark w some))))
        first (suc k) below later some =
            let less : suc k - mark w ≡ k = omega (arith, some-mark w some) in
            ap (λ (ps : List (P × ℕ)). at_place ps (suc k)) (some-weighs n ns w ws some)
            ∙ later k below
            ∙ sym (ap (slice_get (n ∷ ns)) (chosen-later (mark w) (map mark ws) (suc k) (omega (arith, some-mark w some))) ∙ get-next n ns (chosen (map mark ws) (suc k - mark w)) ∙ ap (λ (j : ℕ). slice_get ns (chosen (map mark ws) j)) less)

  -- one past the count chooses none
  pub none-by-place : (ns : List P) (ws : List ℕ) (k : ℕ) → length ns ≡ length ws → sum (map mark ws) ≤ k → at_place (weighing_of ns ws) k ≡ None
  none-by-place ns ws k many past =
      ap (option_map (λ (p : P × ℕ). p.0)) (slice_get_past (weighing_of ns ws) k (omega (arith, same-count ns ws many, past)))

module _ {P : Type 0} {R : P → P → Ordering} (total : IsTotalOrder R) (x : P) where
  keeps-other : (n : P) (w : ℕ) (ps : List (P × ℕ)) → is_eq (R n x) ≡ false → apart_from R x ((n, w) ∷ ps) ≡ (n, w) ∷ apart_from R x ps
  keeps-other n w ps other = rw other refl

  drops-same : (n : P) (w : ℕ) (ps : List (P × ℕ)) → is_eq (R n x) ≡ true → apart_from R x ((n, w) ∷ ps) ≡ apart_from R x ps
  drops-same n w ps same = rw same refl

  -- where the peer is none of the names, all of them are others
  pub all-others : (ns : List P) (ws : List ℕ) → is_named R ns x ≡ false → apart_from R x (weighing_of ns ws) ≡ weighing_of ns ws
  all-others [] ws none = refl
  all-others (n ∷ ns) [] none = refl
  all-others (n ∷ ns) (w ∷ ws) none =
      let both = or-neither (is_eq (R n x)) (is_named R ns x) none in
      let rest = all-others ns ws both.1 in
      elim (cases_lt 0 w) [
        | inl some ↦
            ap (apart_from R x) (some-weighs n ns w ws some)
            ∙ keeps-other n w (weighing_of ns ws) both.0
            ∙ ap (λ (ps : List (P × ℕ)). (n, w) ∷ ps) rest
            ∙ sym (some-weighs n ns w ws some)
        | inr weightless ↦ ap (apart_from R x) (none-weighs n ns w ws weightless) ∙ rest ∙ sym (none-weighs n ns w ws weightless)
      ]

  -- the others are left, once the place of the peer weighs nothing
  pub others-left : (ns : List P) (ws : List ℕ) (i : ℕ) → IsStrictlySortedBy R ns → IsNamed R ns i x → weighing_of ns (slice_set ws i 0) ≡ apart_from R x (weighing_of ns ws)
  others-left [] ws i sorted named = absurd named
  others-left (n ∷ ns) [] i sorted named = refl
  others-left (n ∷ ns) (w ∷ ws) zero sorted named =
      let rest : apart_from R x (weighing_of ns ws) ≡ weighing_of ns ws = all-others ns ws (none-behind total x n (equal-is (R n x) named) ns (sorted_head R n ns sorted)) in
      elim (cases_lt 0 w) [
        | inl some ↦ sym (ap (apart_from R x) (some-weighs n ns w ws some) ∙ drops-same n w (weighing_of ns ws) named ∙ rest)
        | inr none ↦ sym (ap (apart_from R x) (none-weighs n ns w ws none) ∙ rest)
      ]
  others-left (n ∷ ns) (w ∷ ws) (suc i) sorted named =
      let rest : weighing_of ns (slice_set ws i 0) ≡ apart_from R x (weighing_of ns ws) = others-left ns ws i (sorted_tail R n ns sorted) named in
      let other : is_eq (R n x) ≡ false = ap is_eq (before-named total x n ns i (sorted_head R n ns sorted) named) in
      elim (cases_lt 0 w) [
        | inl some ↦
            some-weighs n ns w (slice_set ws i 0) some
            ∙ ap (λ (ps : List (P × ℕ)). (n, w) ∷ ps) rest
            ∙ sym (ap (apart_from R x) (some-weighs n ns w ws some) ∙ keeps-other n w (weighing_of ns ws) other)
        | inr none ↦ none-weighs n ns w (slice_set ws i 0) none ∙ rest ∙ sym (ap (apart_from R x) (none-weighs n ns w ws none))
      ]

  -- how many others are left
  pub count-others : (ns : List P) (ws : List ℕ) (i : ℕ) → IsStrictlySortedBy R ns → length ns ≡ length ws → IsNamed R ns i x
      → length (apart_from R x (weighing_of ns ws)) + slice_index (map mark ws) i ≡ sum (map mark ws)
  count-others ns ws i sorted many named =
      let within : i < length (map mark ws) = omega (arith, named-within R x ns i named, many, length-map ws mark) in
      let count : length (weighing_of ns (slice_set ws i 0)) ≡ sum (map mark (slice_set ws i 0)) = same-count ns (slice_set ws i 0) (many ∙ sym (length-set ws i 0)) in
      let marks : sum (map mark (slice_set ws i 0)) ≡ sum (slice_set (map mark ws) i 0) = ap sum (marks-set ws i 0) in
      let same : length (weighing_of ns (slice_set ws i 0)) ≡ length (apart_from R x (weighing_of ns ws)) = ap length (others-left ns ws i sorted named) in
      let less : sum (slice_set (map mark ws) i 0) + slice_index (map mark ws) i ≡ sum (map mark ws) + 0 = sum_by-set (λ m. m) (map mark ws) i 0 0 within in
      omega (arith, count, marks, same, less)

  -- where the peer is none of the names no weight is set
  pub set-none : (ns : List P) (ws : List ℕ) (v : ℕ) → is_named R ns x ≡ false → set_value (is_at (R x)) (weighted ns ws) v ≡ weighted ns ws
  set-none [] ws v none = refl
  set-none (n ∷ ns) [] v none = refl
  set-none (n ∷ ns) (w ∷ ws) v none =
      let both = or-neither (is_eq (R n x)) (is_named R ns x) none in
      let turned : is_eq (R x n) ≡ false = equal-back total x n ∙ both.0 in
      let rest : set_value (is_at (R x)) (weighted ns ws) v ≡ weighted ns ws = set-none ns ws v both.1 in
      rw (turned, rest) refl

  -- a peer weighs something else, where its place does
  pub set-here : (ns : List P) (ws : List ℕ) (i v : ℕ) → IsStrictlySortedBy R ns → IsNamed R ns i x → weighted ns (slice_set ws i v) ≡ set_value (is_at (R x)) (weighted ns ws) v
  set-here [] ws i v sorted named = absurd named
  set-here (n ∷ ns) [] i v sorted named = refl
  set-here (n ∷ ns) (w ∷ ws) zero v sorted named = let turned : is_eq (R x n) ≡ true = equal-back total x n ∙ named in rw turned refl
  set-here (n ∷ ns) (w ∷ ws) (suc i) v sorted named =
      let rest : weighted ns (slice_set ws i v) ≡ set_value (is_at (R x)) (weighted ns ws) v = set-here ns ws i v (sorted_tail R n ns sorted) named in
      let turned : is_eq (R x n) ≡ false = equal-back total x n ∙ ap is_eq (before-named total x n ns i (sorted_head R n ns sorted) named) in
      rw (turned, rest) refl

  -- what a peer weighs, by its place
  pub weight-here : (ns : List P) (ws : List ℕ) (i : ℕ) → IsStrictlySortedBy R ns → length ns ≡ length ws → IsNamed R ns i x
      → lookup (is_at (R x)) (weighted ns ws) ≡ Some (slice_index ws i)
  weight-here [] ws i sorted many named = absurd named
  weight-here (n ∷ ns) [] i sorted many named = absurd (omega (arith, many))
  weight-here (n ∷ ns) (w ∷ ws) zero sorted many named = let turned : is_eq (R x n) ≡ true = equal-back total x n ∙ named in rw turned refl
  weight-here (n ∷ ns) (w ∷ ws) (suc i) sorted many named =
      let rest : lookup (is_at (R x)) (weighted ns ws) ≡ Some (slice_index ws i) = weight-here ns ws i (sorted_tail R n ns sorted) (omega (arith, many)) named in
      let turned : is_eq (R x n) ≡ false = equal-back total x n ∙ ap is_eq (before-named total x n ns i (sorted_head R n ns sorted) named) in
      rw (turned, rest) refl

  pub weight-none : (ns : List P) (ws : List ℕ) → is_named R ns x ≡ false → lookup (is_at (R x)) (weighted ns ws) ≡ None
  weight-none [] ws none = refl
  weight-none (n ∷ ns) [] none = refl
  weight-none (n ∷ ns) (w ∷ ws) none =
      let both = or-neither (is_eq (R n x)) (is_named R ns x) none in
      let turned : is_eq (R x n) ≡ false = equal-back total x n ∙ both.0 in
      let rest : lookup (is_at (R x)) (weighted ns ws) ≡ None = weight-none ns ws both.1 in
      rw (turned, rest) refl

  -- the peer weighs this where it weighed something
  pub revalued-some : (pool : Pool P) (w v : ℕ) → lookup (is_at (R x)) pool.all ≡ Some w → 0 < w → revalued R x v pool ≡ whole (set_value (is_at (R x)) pool.all v)
  revalued-some pool w v found some = rw (found, lt-ltb 0 w some) refl

  pub revalued-nothing : (pool : Pool P) (w v : ℕ) → lookup (is_at (R x)) pool.all ≡ Some w → w ≤ 0 → revalued R x v pool ≡ whole pool.all
  revalued-nothing pool w v found none = rw (found, le-ltb 0 w none) refl

  pub revalued-none : (pool : Pool P) (v : ℕ) → lookup (is_at (R x)) pool.all ≡ None → revalued R x v pool ≡ whole pool.all
  revalued-none pool v found = rw found refl

-- the mark at a place
pub mark-at : (ws : List ℕ) (i : ℕ) → slice_index (map mark ws) i ≡ mark (slice_index ws i)
mark-at [] i = refl
mark-at (w ∷ ws) zero = refl
mark-at (w ∷ ws) (suc i) = mark-at ws i

-- what is made of names and weights has them
pub weighted-apart : {P : Type 0} (ps : List (P × ℕ)) → weighted (keys_of ps) (weights_of ps) ≡ ps
weighted-apart [] = refl
weighted-apart (p ∷ ps) = ap (λ qs. p ∷ qs) (weighted-apart ps)

-- one place more that is taken changes nothing in what there was
pub restored-more : (ws : List ℕ) (taken : List (ℕ × ℕ)) (i : ℕ) → restored (slice_set ws i 0) (taken ++ (i, slice_index ws i) ∷ []) ≡ restored ws taken
restored-more ws taken i =
    restored-last (slice_set ws i 0) taken i (slice_index ws i)
    ∙ ap (λ (xs : List ℕ). restored xs taken) (set-set ws i 0 (slice_index ws i) ∙ set-get_or ws i 0)

-- the total of what is left is one mark where no other is left
pub last-mark : (others m t : ℕ) → others + m ≡ t → (t == m) ≡ (others == 0)
last-mark others m t is = grind (arith, nat_tests, is)

module _ {P : Type 0} (R : P → P → Ordering) (ns : List P) (ws : List ℕ) (taken : List (ℕ × ℕ)) (pool : IsPool R ns ws taken) where
  -- a place that has a name has a weight
  pub weighs-within : (x : P) (i : ℕ) → IsNamed R ns i x → i < length ws
  weighs-within x i named = omega (arith, named-within R x ns i named, pool.many)

  -- it is a pool after one more place was taken
  pub takes-one : (i w : ℕ) → i < length ws → IsPool R ns (slice_set ws i 0) (taken ++ (i, w) ∷ [])
  takes-one i w within =
      let same : length (slice_set ws i 0) ≡ length ws = length-set ws i 0 in
      record {
        ordered = pool.ordered;
        many = omega (arith, pool.many, same);
        within = All-push (λ (one : ℕ × ℕ). one.0 < length (slice_set ws i 0)) taken (i, w)
            (λ k d it. omega (arith, pool.within k d it, same))
            (omega (arith, within, same));
      }

  -- and after all that were taken are back
  pub gives-back : IsPool R ns (restored ws taken) []
  gives-back = record {
    ordered = pool.ordered;
    many = omega (arith, pool.many, restored-length ws taken);
    within = All-nil (λ (one : ℕ × ℕ). one.0 < length (restored ws taken));
  }

  -- and after a weight became another
  pub weighs-else : (i v : ℕ) → IsPool R ns (slice_set ws i v) taken
  weighs-else i v =
      let same : length (slice_set ws i v) ≡ length ws = length-set ws i v in
      record {
        ordered = pool.ordered;
        many = omega (arith, pool.many, same);
        within = λ k d it. omega (arith, pool.within k d it, same);
      }
