-- Subscribers that are put into an ordered map, and taken back.
use Rattle.std.proofs.Common.{◌≡◌, ◌+◌, ◌∙◌, sym, ap, refl, ℕ, true, false, cond, List, [], ◌∷◌, ◌++◌, Some, is_some, append_assoc, arith, length, get_or, suc}
use Rattle.std.proofs.lemmas.List.{append-nil}
use Rattle.std.specs.Cmp.{IsTotalOrder}
use Rattle.std.specs.List.{AllAdjacentBelow, AllByRecursion}
use Rattle.std.specs.List.Sorted.{IsStrictlySortedBy}
use Rattle.std.specs.Map.{keys_of, lookup}
use Rattle.std.specs.BTreeMap.{insert_entry, is_at}
use Rattle.std.specs.Ordering.{is_eq, match_ordering, ordering_reverse}
use Rattle.std.specs.declared.cmp.Ordering.{Ordering}
use Rattle.std.specs.declared.cmp.Ordering.TheVariants.{Less, Equal, Greater}
use Rattle.resolver_types.specs.Subscribers.{attached, attached_all}

module _ {S : Type 0} (cmp : S → S → Ordering) where
  -- one that isn't there goes to its place
  pub attached-absent : (ts : List (S × ℕ)) (s : S × ℕ) → is_some (lookup (is_at (cmp s.0)) ts) ≡ false → attached cmp ts s ≡ insert_entry cmp ts s.0 s.1
  attached-absent [] s h = refl
  attached-absent (t ∷ ts) s h = split (attached-absent ts s) (cmp s.0 t.0) h where
    split : (is_some (lookup (is_at (cmp s.0)) ts) ≡ false → attached cmp ts s ≡ insert_entry cmp ts s.0 s.1) → (o : Ordering) → is_some (cond (is_eq o) (Some t.1) (lookup (is_at (cmp s.0)) ts)) ≡ false
        → match_ordering o (s ∷ t ∷ ts) (t ∷ ts) (t ∷ attached cmp ts s) ≡ match_ordering o ((s.0, s.1) ∷ t ∷ ts) ((t.0, s.1) ∷ ts) (t ∷ insert_entry cmp ts s.0 s.1)
    split more Less is = refl
    split more Equal is = absurd (let wrong = is in cc)
    split more Greater is = ap (λ rest. t ∷ rest) (more is)

  -- where a subscriber is below all, it isn't there
  absent-below : (k : S) (ts : List (S × ℕ)) → AllByRecursion (λ y. cmp k y ≡ Less) (keys_of ts) → is_some (lookup (is_at (cmp k)) ts) ≡ false
  absent-below k [] all = refl
  absent-below k (t ∷ ts) all = rw all.0 (absent-below k ts all.1)

module _ {S : Type 0} (cmp : S → S → Ordering) (total : IsTotalOrder cmp) where
  above-all : (k j : S) (ks : List S) → cmp k j ≡ Less → AllByRecursion (λ y. cmp j y ≡ Less) ks → AllByRecursion (λ y. cmp k y ≡ Less) ks
  above-all k j [] h all = tt
  above-all k j (x ∷ ks) h all = (total.trans k j x h all.0, above-all k j ks h all.1)

  -- one that is there stays
  pub attached-present : (ts : List (S × ℕ)) (s : S × ℕ) → IsStrictlySortedBy cmp (keys_of ts) → is_some (lookup (is_at (cmp s.0)) ts) ≡ true → attached cmp ts s ≡ ts
  unfolding IsStrictlySortedBy
  attached-present [] s h there = absurd (let wrong = there in cc)
  attached-present (t ∷ ts) s h there = split (attached-present ts s h.1) (cmp s.0 t.0) refl there where
    split : (is_some (lookup (is_at (cmp s.0)) ts) ≡ true → attached cmp ts s ≡ ts) → (o : Ordering) → cmp s.0 t.0 ≡ o → is_some (cond (is_eq o) (Some t.1) (lookup (is_at (cmp s.0)) ts)) ≡ true
        → match_ordering o (s ∷ t ∷ ts) (t ∷ ts) (t ∷ attached cmp ts s) ≡ t ∷ ts
    split more Less e is = let absent = absent-below cmp s.0 ts (above-all s.0 t.0 (keys_of ts) e h.0) in absurd (let wrong : true ≡ false = sym is ∙ absent in cc)
    split more Equal e is = refl
    split more Greater e is = ap (λ rest. t ∷ rest) (more is)

  -- one that is above all goes last
  pub inserted-last : (es rest : List (S × ℕ)) (s : S × ℕ) → IsStrictlySortedBy cmp (keys_of (es ++ s ∷ rest)) → insert_entry cmp es s.0 s.1 ≡ es ++ s ∷ []
  unfolding IsStrictlySortedBy
  inserted-last [] rest s h = refl
  inserted-last (e ∷ es) rest s h =
      let below : cmp e.0 s.0 ≡ Less = first e.0 es h.0 in
      let above : cmp s.0 e.0 ≡ Greater = total.antisymm s.0 e.0 ∙ ap ordering_reverse below in
      rw above (ap (λ more. e ∷ more) (inserted-last es rest s h.1)) where
        first : (k : S) (es : List (S × ℕ)) → AllByRecursion (λ y. cmp k y ≡ Less) (keys_of (es ++ s ∷ rest)) → cmp k s.0 ≡ Less
        first k [] all = all.0
        first k (x ∷ es) all = first k es all.1

  -- of a list in order, the next one goes behind those so far
  pub placed-next : (list es rest : List (S × ℕ)) (s : S × ℕ) → es ++ s ∷ rest ≡ list → IsStrictlySortedBy cmp (keys_of list) → insert_entry cmp es s.0 s.1 ++ rest ≡ list
  placed-next list es rest s is h =
      ap (λ some. some ++ rest) (inserted-last es rest s (rw is h)) ∙ append_assoc es (s ∷ []) rest ∙ is

  attached-last : (es rest : List (S × ℕ)) (s : S × ℕ) → IsStrictlySortedBy cmp (keys_of (es ++ s ∷ rest)) → attached cmp es s ≡ es ++ s ∷ []
  unfolding IsStrictlySortedBy
  attached-last [] rest s h = refl
  attached-last (e ∷ es) rest s h =
      let below : cmp e.0 s.0 ≡ Less = first e.0 es h.0 in
      let above : cmp s.0 e.0 ≡ Greater = total.antisymm s.0 e.0 ∙ ap ordering_reverse below in
      rw above (ap (λ more. e ∷ more) (attached-last es rest s h.1)) where
        first : (k : S) (es : List (S × ℕ)) → AllByRecursion (λ y. cmp k y ≡ Less) (keys_of (es ++ s ∷ rest)) → cmp k s.0 ≡ Less
        first k [] all = all.0
        first k (x ∷ es) all = first k es all.1

  -- of a list in order, those that are left go behind those so far
  attached_all-last : (es rest list : List (S × ℕ)) → es ++ rest ≡ list → IsStrictlySortedBy cmp (keys_of list) → attached_all cmp es rest ≡ list
  attached_all-last es [] list is h = sym (append-nil es) ∙ is
  attached_all-last es (s ∷ rest) list is h =
      let placed : attached cmp es s ≡ es ++ s ∷ [] = attached-last es rest s (rw is h) in
      ap (λ some. attached_all cmp some rest) placed
      ∙ attached_all-last (es ++ s ∷ []) rest list (append_assoc es (s ∷ []) rest ∙ is) h

  -- a list in order, attached to none, is what it was
  pub attached-ordered-all : (list : List (S × ℕ)) → IsStrictlySortedBy cmp (keys_of list) → attached_all cmp [] list ≡ list
  attached-ordered-all list h = attached_all-last [] list list refl h

  -- where each is below the next one, they stand in their order
  pub sorted-from-adjacent : (ts : List (S × ℕ)) → AllAdjacentBelow (λ s t. cmp s.0 t.0 ≡ Less) ts (length ts) → IsStrictlySortedBy cmp (keys_of ts)
  unfolding IsStrictlySortedBy
  sorted-from-adjacent [] all = tt
  sorted-from-adjacent (s ∷ []) all = (tt, tt)
  sorted-from-adjacent (s ∷ t ∷ ts) all =
      let rest : IsStrictlySortedBy cmp (keys_of (t ∷ ts)) = sorted-from-adjacent (t ∷ ts) (λ k d h. let on : suc k + 1 ≡ suc (k + 1) = omega arith in ap (λ j. cmp (get_or (t ∷ ts) k d).0 (get_or (s ∷ t ∷ ts) j d).0) (sym on) ∙ all (suc k) d (omega (arith, h))) in
      let first : cmp s.0 t.0 ≡ Less = all 0 s (omega arith) in
      ((first, above-all s.0 t.0 (keys_of ts) first rest.0), rest)
