-- The ways down and up a tree of sums.
use Rattle.std.proofs.Common.{◌≡◌, ◌≢◌, refl, ◌∙◌, ap, ℕ, suc, zero, ◌+◌, ◌-◌, ◌*◌, ◌/◌, ◌^◌, ◌<◌, ◌≤◌, List, [], ◌∷◌, length, drop, slice_index, slice_set, inl, inr, arith}
use Rattle.std.specs.Prelude.{sum}
use Rattle.std.proofs.lemmas.List.{get_or-drop, get_or_past, get_or-set_same, get_or-set_other, drop-set-add, drop-set-lt, length-drop, length-set}
use Rattle.std.proofs.lemmas.List.Sums.{sum_by-cons, sum_by-set}
use Rattle.std.proofs.lemmas.Bool.{cases_lt, cases_eq}
use Rattle.resolver_sampling.specs.Choice.{IsIn, chosen}
use Rattle.resolver_sampling.specs.SumTrees.{AreSummed, AreWeights}
use Rattle.resolver_sampling.proofs.Choices.{in_no_other}
use Rattle.resolver_sampling.proofs.SumTrees.{window, window-back, window-below, leaves-root}

-- A number on its way down, at a node of the level that begins with this node: what is before the node, and the rest that is within it.
pub record Descends (ns : List ℕ) (first node rest number : ℕ) : Type 0 where
  pub positive : 0 < first
  pub from : first ≤ node
  pub below : node < first + first
  pub before : rest + window ns first (node - first) ≡ number
  pub inside : rest < slice_index ns node

pub descends-root : (depth m : ℕ) (ns : List ℕ) (number : ℕ) → AreSummed m ns → m ≡ 2 ^ depth → length ns ≤ m + m
    → number < sum (drop m ns) → Descends ns 1 1 number number
descends-root depth m ns number summed power room below = record {
  positive = omega arith;
  from = omega arith;
  below = omega arith;
  before = omega arith;
  inside = omega (arith, below, leaves-root depth m ns summed power room);
}

-- what is before a node, one level below
before-below : (m : ℕ) (ns : List ℕ) (first node rest number : ℕ) → AreSummed m ns → Descends ns first node rest number
    → first + first ≤ m → rest + window ns (2 * first) (2 * node - 2 * first) ≡ number
before-below m ns first node rest number summed so within =
    let count : 2 * node - 2 * first ≡ 2 * (node - first) = omega (arith, so.from) in
    rw (count, window-below m ns summed first (node - first) so.positive (omega (arith, so.from, so.below, within))) so.before

pub descends-left : (m : ℕ) (ns : List ℕ) (first node rest number : ℕ) → AreSummed m ns → Descends ns first node rest number
    → first + first ≤ m → rest < slice_index ns (2 * node) → Descends ns (2 * first) (2 * node) rest number
descends-left m ns first node rest number summed so within inside = record {
  positive = omega (arith, so.positive);
  from = omega (arith, so.from);
  below = omega (arith, so.below);
  before = before-below m ns first node rest number summed so within;
  inside = inside;
}

pub descends-right : (m : ℕ) (ns : List ℕ) (first node rest number : ℕ) → AreSummed m ns → Descends ns first node rest number
    → first + first ≤ m → slice_index ns (2 * node) ≤ rest
    → Descends ns (2 * first) (2 * node + 1) (rest - slice_index ns (2 * node)) number
descends-right m ns first node rest number summed so within above =
    let here : slice_index ns node ≡ slice_index ns (2 * node) + slice_index ns (2 * node + 1) =
    summed node (omega (arith, so.positive, so.from)) (omega (arith, so.below, within)) in
    let count : 2 * node + 1 - 2 * first ≡ suc (2 * node - 2 * first) = omega (arith, so.from) in
    let last : 2 * first + (2 * node - 2 * first) ≡ 2 * node = omega (arith, so.from) in
    let more : window ns (2 * first) (2 * node + 1 - 2 * first) ≡ window ns (2 * first) (2 * node - 2 * first) + slice_index ns (2 * node) =
    ap (window ns (2 * first)) count ∙ (rw (window-back ns (2 * first) (2 * node - 2 * first), last) refl) in
    record {
      positive = omega (arith, so.positive);
      from = omega (arith, so.from);
      below = omega (arith, so.below);
      before = omega (arith, more, above, before-below m ns first node rest number summed so within);
      inside = omega (arith, here, above, so.inside);
    }

-- the left one of the two below is stored
pub left-stored : (m : ℕ) (ns : List ℕ) (first node rest number : ℕ) → AreSummed m ns → Descends ns first node rest number
    → first + first ≤ m → 2 * node < length ns
left-stored m ns first node rest number summed so within =
    elim (cases_lt (2 * node) (length ns)) [
      | inl stored ↦ stored
      | inr past ↦ absurd (omega (arith, so.inside, summed node (omega (arith, so.positive, so.from)) (omega (arith, so.below, within)), get_or_past ns (2 * node) 0 past, get_or_past ns (2 * node + 1) 0 (omega (arith, past))))
    ]

pub descends-chosen : (m : ℕ) (ns : List ℕ) (node rest number : ℕ) → Descends ns m node rest number
    → node - m ≡ chosen (drop m ns) number
descends-chosen m ns node rest number so =
    let back : m + (node - m) ≡ node = omega (arith, so.from) in
    let here : slice_index (drop m ns) (node - m) ≡ slice_index ns node = get_or-drop m ns (node - m) 0 ∙ ap (slice_index ns) back in
    let inside : IsIn (drop m ns) (node - m) number = record {
      from = omega (arith, so.before);
      below = omega (arith, so.before, so.inside, here);
    } in
    in_no_other (drop m ns) (node - m) number inside

-- no node is more than the root
pub at-most-root : (m : ℕ) (ns : List ℕ) → AreSummed m ns → (n i : ℕ) → i ≤ n → 0 < i → i < m + m → slice_index ns i ≤ slice_index ns 1
at-most-root m ns summed zero i least positive within = absurd (omega (arith, least, positive))
at-most-root m ns summed (suc n) i least positive within =
    elim (cases_eq i 1) [
      | inl same ↦ rw same (omega arith)
      | inr apart ↦
          let half : ℕ = i / 2 in
          let up : slice_index ns half ≤ slice_index ns 1 = at-most-root m ns summed n half (omega (arith, least, positive, apart)) (omega (arith, positive, apart)) (omega (arith, within, positive)) in
          let two : slice_index ns half ≡ slice_index ns (2 * half) + slice_index ns (2 * half + 1) = summed half (omega (arith, positive, apart)) (omega (arith, within)) in
          elim (cases_eq i (2 * half)) [
            | inl left ↦ omega (arith, up, two, ap (slice_index ns) left)
            | inr other ↦
                let right : i ≡ 2 * half + 1 = omega (arith, other) in
                omega (arith, up, two, ap (slice_index ns) right)
          ]
    ]

-- A change of one leaf on its way up, at a node: all nodes but the one above are right, and that one lacks the change.
pub record Ascends (m place less more : ℕ) (old ns : List ℕ) (node : ℕ) : Type 0 where
  pub summed : AreSummed m old
  pub stored : m ≤ length old
  pub fits : slice_index old 1 - less + more < 2 ^ 128
  pub others : (i : ℕ) → 0 < i → i < m → i ≢ node / 2 → slice_index ns i ≡ slice_index ns (2 * i) + slice_index ns (2 * i + 1)
  pub parent : 0 < node / 2 → slice_index ns (node / 2) + more ≡ slice_index ns (2 * (node / 2)) + slice_index ns (2 * (node / 2) + 1) + less
  pub upper : (i : ℕ) → i < node → slice_index ns i ≡ slice_index old i
  pub held : less ≤ slice_index old node
  pub here : slice_index ns node + less ≡ slice_index old node + more
  pub leaves : drop m ns ≡ slice_set (drop m old) place more
  pub same_length : length ns ≡ length old
  pub positive : 0 < node
  pub within : node < m + m

-- the node above is the sum of the two below it, where one of them changed
parent-lacks : (ns new : List ℕ) (node half less more : ℕ) → half ≡ node / 2 → slice_index ns half ≡ slice_index ns (2 * half) + slice_index ns (2 * half + 1)
    → ((i : ℕ) → i ≢ node → slice_index new i ≡ slice_index ns i) → half ≢ node → slice_index new node + less ≡ slice_index ns node + more
    → slice_index new half + more ≡ slice_index new (2 * half) + slice_index new (2 * half + 1) + less
parent-lacks ns new node half less more is sums others apart here =
    elim (cases_eq node (2 * half)) [
      | inl left ↦ omega (arith, sums, others half apart, others (2 * half + 1) (λ e. omega (arith, e, left)), here, ap (slice_index new) left, ap (slice_index ns) left)
      | inr other ↦
          let right : node ≡ 2 * half + 1 = omega (arith, is, other) in
          omega (arith, sums, others half apart, others (2 * half) (λ e. omega (arith, e, other)), here, ap (slice_index new) right, ap (slice_index ns) right)
    ]

pub ascends-leaf : (m place less more : ℕ) (old : List ℕ) → AreSummed m old → 0 < m → length old ≤ m + m → m + place < length old
    → slice_index old 1 - less + more < 2 ^ 128 → less ≡ slice_index old (m + place) → Ascends m place less more old (slice_set old (m + place) more) (m + place)
ascends-leaf m place less more old summed some room within fits is =
    let other : (i : ℕ) → i ≢ m + place → slice_index (slice_set old (m + place) more) i ≡ slice_index old i = λ i apart. get_or-set_other old (m + place) i more 0 apart in
    let here : slice_index (slice_set old (m + place) more) (m + place) ≡ more = get_or-set_same old (m + place) more 0 within in
    record {
      summed = summed;
      stored = omega (arith, within);
      fits = fits;
      others = λ i positive below apart. rw (other i (λ e. omega (arith, e, below)), other (2 * i) (λ e. apart (omega (arith, e))), other (2 * i + 1) (λ e. apart (omega (arith, e)))) (summed i positive below);
      parent = λ positive. parent-lacks old (slice_set old (m + place) more) (m + place) ((m + place) / 2) less more refl
          (summed ((m + place) / 2) positive (omega (arith, room, within))) other (λ e. omega (arith, e, some)) (omega (arith, here, is));
      upper = λ i below. other i (λ e. omega (arith, e, below));
      held = omega (arith, is);
      here = omega (arith, here, is);
      leaves = drop-set-add m old place more;
      same_length = length-set old (m + place) more;
      positive = omega (arith, some);
      within = omega (arith, room, within);
    }

-- what the node above holds of the leaf that changes
pub parent-holds : (m place less more : ℕ) (old ns : List ℕ) (node : ℕ) → Ascends m place less more old ns node
    → 0 < node / 2 → less ≤ slice_index old (node / 2)
parent-holds m place less more old ns node so positive =
    let half : ℕ = node / 2 in
    let two : slice_index old half ≡ slice_index old (2 * half) + slice_index old (2 * half + 1) = so.summed half positive (omega (arith, so.within)) in
    elim (cases_eq node (2 * half)) [
      | inl left ↦ omega (arith, so.held, two, ap (slice_index old) left)
      | inr other ↦
          let right : node ≡ 2 * half + 1 = omega (arith, other) in
          omega (arith, so.held, two, ap (slice_index old) right)
    ]

pub ascends-more : (m place less more : ℕ) (old ns : List ℕ) (node value : ℕ) → Ascends m place less more old ns node
    → 0 < node / 2 → value ≡ slice_index ns (node / 2) - less + more
    → Ascends m place less more old (slice_set ns (node / 2) value) (node / 2)
ascends-more m place less more old ns node value so positive is =
    let held : less ≤ slice_index old (node / 2) = parent-holds m place less more old ns node so positive in
    let was : slice_index ns (node / 2) ≡ slice_index old (node / 2) = so.upper (node / 2) (omega (arith, so.positive)) in
    let other : (i : ℕ) → i ≢ node / 2 → slice_index (slice_set ns (node / 2) value) i ≡ slice_index ns i = λ i apart. get_or-set_other ns (node / 2) i value 0 apart in
    let here : slice_index (slice_set ns (node / 2) value) (node / 2) ≡ value =
    get_or-set_same ns (node / 2) value 0 (omega (arith, so.within, so.same_length, so.stored)) in
    let changed : slice_index (slice_set ns (node / 2) value) (node / 2) + less ≡ slice_index ns (node / 2) + more = omega (arith, here, is, held, was) in
    record {
      summed = so.summed;
      stored = so.stored;
      fits = so.fits;
      others = λ i some below apart. elim (cases_eq i (node / 2)) [
        | inl same ↦ rw (same, here, other (2 * (node / 2)) (λ e. omega (arith, e, positive)), other (2 * (node / 2) + 1) (λ e. omega (arith, e, positive))) (omega (arith, is, so.parent positive, held, was))
        | inr away ↦ rw (other i away, other (2 * i) (λ e. apart (omega (arith, e))), other (2 * i + 1) (λ e. apart (omega (arith, e)))) (so.others i some below away)
      ];
      parent = λ some. parent-lacks ns (slice_set ns (node / 2) value) (node / 2) (node / 2 / 2) less more refl
          (so.others (node / 2 / 2) some (omega (arith, so.within)) (λ e. omega (arith, e, positive))) other (λ e. omega (arith, e, positive)) changed;
      upper = λ i below. other i (λ e. omega (arith, e, below)) ∙ so.upper i (omega (arith, below));
      held = held;
      here = omega (arith, changed, was);
      leaves = drop-set-lt m ns (node / 2) value (omega (arith, so.within)) ∙ so.leaves;
      same_length = length-set ns (node / 2) value ∙ so.same_length;
      positive = positive;
      within = omega (arith, so.within);
    }

pub ascends-summed : (m place less more : ℕ) (old ns : List ℕ) (node : ℕ) → node ≡ 1 → Ascends m place less more old ns node → AreSummed m ns
ascends-summed m place less more old ns node is so i positive below = so.others i positive below (λ e. omega (arith, e, is, positive))

-- the change fits the node above
pub parent-fits : (m place less more : ℕ) (old ns : List ℕ) (node : ℕ) → Ascends m place less more old ns node
    → 0 < node / 2 → slice_index ns (node / 2) - less + more < 2 ^ 128
parent-fits m place less more old ns node so positive =
    omega (arith, so.upper (node / 2) (omega (arith, so.positive)), so.fits, at-most-root m old so.summed node (node / 2) (omega arith) positive (omega (arith, so.within)))

-- the sum of weights
pub weights-fit : (ws : List ℕ) → AreWeights ws → sum ws ≤ length ws * (2 ^ 64 - 1)
weights-fit [] small = omega arith
weights-fit (w ∷ ws) small =
    omega (arith, small 0, sum_by-cons (λ x. x) w ws, weights-fit ws (λ place. small (suc place)))

pub weights-set : (ws : List ℕ) (place more : ℕ) → AreWeights ws → place < length ws → more < 2 ^ 64 → AreWeights (slice_set ws place more)
weights-set ws place more small within fits i =
    elim (cases_eq i place) [
      | inl same ↦ rw (same, get_or-set_same ws place more 0 within) fits
      | inr apart ↦ rw (get_or-set_other ws place i more 0 apart) (small i)
    ]

pub sum-set : (ws : List ℕ) (place more : ℕ) → place < length ws → sum (slice_set ws place more) + slice_index ws place ≡ sum ws + more
sum-set ws place more within = sum_by-set (λ x. x) ws place more 0 within

-- the root after a change of a leaf
pub root-fits : (depth m place more : ℕ) (old : List ℕ) → AreSummed m old → m ≡ 2 ^ depth → length old ≤ m + m → m + place < length old → m ≤ 2 ^ 63
    → AreWeights (drop m old) → more < 2 ^ 64 → slice_index old 1 - slice_index old (m + place) + more < 2 ^ 128
root-fits depth m place more old summed power room within small weights fits =
    let count : length (drop m old) ≡ length old - m = length-drop m old in
    let inside : place < length (drop m old) = omega (arith, count, within) in
    let new : List ℕ = slice_set (drop m old) place more in
    let bound : sum (slice_set (drop m old) place more) ≤ length (slice_set (drop m old) place more) * (2 ^ 64 - 1) =
    weights-fit (slice_set (drop m old) place more) (weights-set (drop m old) place more weights inside fits) in
    let same : length (slice_set (drop m old) place more) ≡ length (drop m old) = length-set (drop m old) place more in
    let was : slice_index (drop m old) place ≡ slice_index old (m + place) = get_or-drop m old place 0 in
    let few : length (slice_set (drop m old) place more) ≤ 2 ^ 63 = omega (arith, same, count, room, small) in
    omega (arith, bound, few, was, sum-set (drop m old) place more inside, leaves-root depth m old summed power room)
