-- What the nodes of a tree of sums add up to.
use Rattle.std.proofs.Common.{◌≡◌, refl, sym, ◌∙◌, ap, ℕ, suc, zero, ◌+◌, ◌-◌, ◌*◌, ◌^◌, ◌<◌, ◌≤◌, List, [], ◌∷◌, length, take, drop, slice_index, slice_set, inl, inr, arith}
use Rattle.std.specs.Prelude.{sum}
use Rattle.std.proofs.lemmas.List.{get_or-drop, get_or-set_same, get_or-set_other, drop-set-lt, length-drop, length-set, take_all}
use Rattle.std.proofs.lemmas.List.Sums.{sum_by-cons}
use Rattle.std.proofs.lemmas.Bool.{cases_eq}
use Rattle.std.proofs.Math.Nat.{pow-suc, one-le-pow}
use Rattle.std.proofs.Math.Seq.{take-nil}
use Rattle.resolver_sampling.specs.SumTrees.{AreSummed}

-- the sum of so many nodes from one on
abbrev pub window : List ℕ → (from count : ℕ) → ℕ
window nodes from count = sum (take count (drop from nodes))

take-front : (xs : List ℕ) (n : ℕ) → sum (take (suc n) xs) ≡ slice_index xs 0 + sum (take n (drop 1 xs))
take-front [] n = rw take-nil refl
take-front (x ∷ xs) n = sum_by-cons (λ x. x) x (take n xs)

drop-next : (xs : List ℕ) (from : ℕ) → drop 1 (drop from xs) ≡ drop (suc from) xs
drop-next xs zero = refl
drop-next [] (suc from) = refl
drop-next (x ∷ xs) (suc from) = drop-next xs from

pub window-front : (ns : List ℕ) (from n : ℕ) → window ns from (suc n) ≡ slice_index ns from + window ns (suc from) n
window-front ns from n =
    let same : from + 0 ≡ from = omega arith in
    let here : slice_index (drop from ns) 0 ≡ slice_index ns from = get_or-drop from ns 0 0 ∙ ap (slice_index ns) same in
    take-front (drop from ns) n ∙ (rw (here, drop-next ns from) refl)

pub window-back : (ns : List ℕ) (from n : ℕ) → window ns from (suc n) ≡ window ns from n + slice_index ns (from + n)
window-back ns from zero =
    let same : from + 0 ≡ from = omega arith in
    rw (same, window-front ns from 0) (omega arith)
window-back ns from (suc n) =
    let next : suc from + n ≡ from + suc n = omega arith in
    rw (window-front ns from (suc n), window-back ns (suc from) n, window-front ns from n, next) (omega arith)

-- Nodes beside one another add up to those below them.
pub window-below : (m : ℕ) (ns : List ℕ) → AreSummed m ns → (from n : ℕ) → 0 < from → from + n ≤ m
    → window ns (2 * from) (2 * n) ≡ window ns from n
window-below m ns summed from zero positive within = refl
window-below m ns summed from (suc n) positive within =
    let here : slice_index ns from ≡ slice_index ns (2 * from) + slice_index ns (2 * from + 1) =
    summed from positive (omega (arith, within)) in
    let two : 2 * suc n ≡ suc (suc (2 * n)) = omega arith in
    let right : suc (2 * from) ≡ 2 * from + 1 = omega arith in
    let next : suc (2 * from + 1) ≡ 2 * suc from = omega arith in
    rw (two, window-front ns (2 * from) (suc (2 * n)), right, window-front ns (2 * from + 1) (2 * n), next, window-below m ns summed (suc from) n (omega arith) (omega (arith, within)), window-front ns from n, here) (omega arith)

-- one level adds up to the root
pub window-root : (m : ℕ) (ns : List ℕ) → AreSummed m ns → (t : ℕ) → 2 ^ t ≤ m
    → window ns (2 ^ t) (2 ^ t) ≡ slice_index ns 1
window-root m ns summed zero within = rw (window-front ns 1 0) (omega arith)
window-root m ns summed (suc t) within =
    let twice : 2 ^ suc t ≡ 2 * 2 ^ t = omega (arith, pow-suc 2 t) in
    let inside : 2 * 2 ^ t ≤ m = omega (arith, twice, within) in
    rw (twice, window-below m ns summed (2 ^ t) (2 ^ t) (one-le-pow t 2 (omega arith)) (omega (arith, inside))) (window-root m ns summed t (omega (arith, inside)))

-- the leaves add up to the root
pub leaves-root : (depth m : ℕ) (ns : List ℕ) → AreSummed m ns → m ≡ 2 ^ depth → length ns ≤ m + m
    → sum (drop m ns) ≡ slice_index ns 1
leaves-root depth m ns summed power room =
    let few : length (drop m ns) ≤ m = omega (arith, length-drop m ns) in
    let whole : window ns m m ≡ sum (drop m ns) = ap sum (take_all m (drop m ns) few) in
    let level : window ns m m ≡ slice_index ns 1 = rw power (window-root (2 ^ depth) ns (rw (← power) summed) depth (omega arith)) in
    sym whole ∙ level

-- What holds while the nodes from one on are summed up.
pub record IsSummedFrom (node m : ℕ) (old ns : List ℕ) : Type 0 where
  pub positive : 0 < node
  pub within : node ≤ m
  pub summed : (i : ℕ) → node ≤ i → i < m → slice_index ns i ≡ slice_index ns (2 * i) + slice_index ns (2 * i + 1)
  pub frontier : window ns node node ≡ sum (drop m old)
  pub leaves : drop m ns ≡ drop m old
  pub same_length : length ns ≡ length old

pub summed-none : (m : ℕ) (ns : List ℕ) → 0 < m → length ns ≤ m + m → IsSummedFrom m m ns ns
summed-none m ns positive room =
    let few : length (drop m ns) ≤ m = omega (arith, length-drop m ns) in
    record {
      positive = positive;
      within = omega arith;
      summed = λ i from below. absurd (omega (arith, from, below));
      frontier = ap sum (take_all m (drop m ns) few);
      leaves = refl;
      same_length = refl;
    }

-- the two below the node before
frontier-last : (ns : List ℕ) (q : ℕ) → 0 < q
    → window ns (q + 1) (q + 1) ≡ window ns (q + 1) (q - 1) + slice_index ns (2 * q) + slice_index ns (2 * q + 1)
frontier-last ns q positive =
    let count : q + 1 ≡ suc (suc (q - 1)) = omega (arith, positive) in
    let left : q + 1 + (q - 1) ≡ 2 * q = omega (arith, positive) in
    let right : q + 1 + suc (q - 1) ≡ 2 * q + 1 = omega (arith, positive) in
    ap (window ns (q + 1)) count
    ∙ window-back ns (q + 1) (suc (q - 1))
    ∙ (rw (window-back ns (q + 1) (q - 1), left, right) refl)

-- both numbers below a node are within the sum of the leaves
pub frontier-fits : (m q : ℕ) (old ns : List ℕ) → IsSummedFrom (q + 1) m old ns → 0 < q
    → slice_index ns (2 * q) + slice_index ns (2 * q + 1) ≤ sum (drop m old)
frontier-fits m q old ns so positive = omega (arith, so.frontier, frontier-last ns q positive)

pub summed-more : (m q value : ℕ) (old ns : List ℕ) → IsSummedFrom (q + 1) m old ns → 0 < q → m ≤ length old
    → value ≡ slice_index ns (2 * q) + slice_index ns (2 * q + 1)
    → IsSummedFrom q m old (slice_set ns q value)
summed-more m q value old ns so positive stored is =
    let within : q < length ns = omega (arith, so.within, so.same_length, stored) in
    let other : (i : ℕ) → q < i → slice_index (slice_set ns q value) i ≡ slice_index ns i =
    λ i above. get_or-set_other ns q i value 0 (λ e. omega (arith, e, above)) in
    let here : slice_index (slice_set ns q value) q ≡ value = get_or-set_same ns q value 0 within in
    let behind : drop (q + 1) (slice_set ns q value) ≡ drop (q + 1) ns = drop-set-lt (q + 1) ns q value (omega arith) in
    let rest : window (slice_set ns q value) (q + 1) (q - 1) ≡ window ns (q + 1) (q - 1) = ap (λ (xs : List ℕ). sum (take (q - 1) xs)) behind in
    let count : suc (q - 1) ≡ q = omega (arith, positive) in
    let more : suc q ≡ q + 1 = omega arith in
    let front : window (slice_set ns q value) q q ≡ value + window ns (q + 1) (q - 1) =
    ap (window (slice_set ns q value) q) (sym count) ∙ window-front (slice_set ns q value) q (q - 1) ∙ (rw (here, more, rest) refl) in
    record {
      positive = positive;
      within = omega (arith, so.within);
      summed = λ i from below. elim (cases_eq i q) [
        | inl same ↦ rw (same, here, other (2 * q) (omega (arith, positive)), other (2 * q + 1) (omega arith)) is
        | inr apart ↦ rw (other i (omega (arith, from, apart)), other (2 * i) (omega (arith, from, positive)), other (2 * i + 1) (omega (arith, from)))
            (so.summed i (omega (arith, from, apart)) below)
      ];
      frontier = omega (arith, front, is, so.frontier, frontier-last ns q positive);
      leaves = drop-set-lt m ns q value (omega (arith, so.within)) ∙ so.leaves;
      same_length = length-set ns q value ∙ so.same_length;
    }
