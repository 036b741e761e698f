-- What a search finds among names in their order.
use Rattle.std.proofs.Common.{◌≡◌, refl, ap, sym, ◌∙◌, ℕ, zero, suc, ◌+◌, ◌<◌, Bool, true, false, ◌||◌, List, [], ◌∷◌, length, get_or, inl, inr, arith}
use Rattle.std.proofs.lemmas.Bool.{cases_lt}
use Rattle.std.proofs.lemmas.Cmp.{alike_right}
use Rattle.std.proofs.lemmas.List.Sorted.{searchable_from_sorted}
use Rattle.std.proofs.lemmas.Map.Keys.{Less-from_sorted}
use Rattle.std.specs.Cmp.{IsTotalOrder}
use Rattle.std.specs.List.{AllByRecursion}
use Rattle.std.specs.List.Sorted.{IsNonDecreasingBy, IsPartitionPoint, IsStrictlySortedBy}
use Rattle.std.specs.Ordering.{is_eq, is_lt, ordering_index, ordering_reverse}
use Rattle.std.specs.declared.cmp.Ordering.{Ordering}
use Rattle.std.specs.declared.cmp.Ordering.TheVariants.{Less, Equal, Greater}
use Rattle.resolver_fetch_scan.specs.Pools.{IsNamed, is_named}
use Rattle.resolver_fetch_scan.proofs.Tried.{equal-is}

pub or-neither : (a b : Bool) → (a || b) ≡ false → (a ≡ false) × (b ≡ false)
or-neither false b none = (refl, none)
or-neither true b none = absurd cc

module _ {P : Type 0} (R : P → P → Ordering) (x : P) where
  -- the name at a place is found there
  named-at : (ns : List P) (i : ℕ) → i < length ns → ((d : P) → R (get_or ns i d) x ≡ Equal) → IsNamed R ns i x
  named-at [] i within is = absurd (omega (arith, within))
  named-at (n ∷ ns) zero within is = ap is_eq (is n)
  named-at (n ∷ ns) (suc i) within is = named-at ns i (omega (arith, within)) is

  -- where none is the peer's it is not one of them
  none-named : (ns : List P) → ((i : ℕ) (d : P) → i < length ns → is_eq (R (get_or ns i d) x) ≡ false) → is_named R ns x ≡ false
  none-named [] none = refl
  none-named (n ∷ ns) none =
      let here : is_eq (R n x) ≡ false = none 0 n (omega arith) in
      let rest = none-named ns (λ i d within. none (suc i) d (omega (arith, within))) in
      rw here rest

  -- a place that has a name is one of all
  pub named-within : (ns : List P) (i : ℕ) → IsNamed R ns i x → i < length ns
  named-within [] i named = absurd named
  named-within (n ∷ ns) zero named = omega arith
  named-within (n ∷ ns) (suc i) named = omega (arith, named-within ns i named)

module _ {P : Type 0} {R : P → P → Ordering} (total : IsTotalOrder R) (x : P) where
  module _ (ns : List P) (sorted : IsStrictlySortedBy R ns) where
    not-after : (k : ℕ) (d : P) → k + 1 < length ns → is_lt (R (get_or ns (k + 1) d) (get_or ns k d)) ≡ false
    not-after k d within =
        ap is_lt (total.antisymm (get_or ns (k + 1) d) (get_or ns k d) ∙ ap ordering_reverse (Less-from_sorted R ns k (k + 1) d sorted (omega arith) within))

    rises : IsNonDecreasingBy (λ y. ordering_index (R y x)) ns
    rises = searchable_from_sorted total (λ y. y) ns x (λ k d low high. not-after k d high)

    -- what was found has the name
    pub found : (i : ℕ) → i < length ns → ((d : P) → R (get_or ns i d) x ≡ Equal) → IsNamed R ns i x
    found i within is = named-at R x ns i within is

    -- and what was not found is none of them
    pub not-found : (i : ℕ) → (IsNonDecreasingBy (λ y. ordering_index (R y x)) ns → IsPartitionPoint (λ y. R y x ≡ Less) (λ y. R y x ≡ Greater) ns i)
        → is_named R ns x ≡ false
    not-found i parted =
        let parts = parted rises in
        none-named R x ns (λ k d within.
        elim (cases_lt k i) [
          | inl below ↦ ap is_eq (parts.0 k d (omega arith) below)
          | inr above ↦ ap is_eq (parts.1 k d above within)
        ])

  -- none behind a name that is the peer's is the peer's
  pub none-behind : (n : P) → R n x ≡ Equal → (ns : List P) → AllByRecursion (λ m. R n m ≡ Less) ns → is_named R ns x ≡ false
  none-behind n same [] all = refl
  none-behind n same (m ∷ ns) all =
      let rest = none-behind n same ns all.1 in
      let here : is_eq (R m x) ≡ false = ap is_eq (total.antisymm m x ∙ ap ordering_reverse (sym (total.congr n x m same) ∙ all.0)) in
      rw here rest

  -- a name before one that is the peer's is not the peer's
  pub before-named : (n : P) (ns : List P) (i : ℕ) → AllByRecursion (λ m. R n m ≡ Less) ns → IsNamed R ns i x → R n x ≡ Less
  before-named n [] i all named = absurd named
  before-named n (m ∷ ns) zero all named = sym (alike_right total m x n (equal-is (R m x) named)) ∙ all.0
  before-named n (m ∷ ns) (suc i) all named = before-named n ns i all.1 named
