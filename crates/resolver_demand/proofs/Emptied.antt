-- The keys that a test leaves without subscribers, and those that it keeps.
use Rattle.std.proofs.Common.{◌≡◌, Bool, true, false, ℕ, List, [], ◌∷◌, length, filter, map, not, cond, nat_lt, arith, subst}
use Rattle.std.proofs.lemmas.Grind.{common_steps}
use Rattle.std.specs.List.Sorted.{IsStrictlySortedBy}
use Rattle.std.specs.declared.cmp.Ordering.{Ordering}
use Rattle.std.specs.declared.cmp.Ordering.TheVariants.{Less}
use Rattle.std.specs.List.{AllByRecursion, list_any}
use Rattle.std.specs.Map.{keys_of}
use Rattle.std.specs.Map.Calls.{RetainsPairs}
use Rattle.resolver_types.specs.Table.{kept, emptied, has_subscribers, pruned}
use Rattle.resolver_types.proofs.Filtered.{list_any-filter}

module _ {K S : Type 0} (keep : K → S → Bool) where
  -- the first key keeps a subscriber
  pub emptied-kept : (k : K) (v : List (S × ℕ)) (es : List (K × List (S × ℕ))) → list_any (λ s. keep k s.0) v ≡ true → emptied keep ((k, v) ∷ es) ≡ emptied keep es
  emptied-kept k v es h = let has = list_any-filter (λ (s : S × ℕ). keep k s.0) v in grind (arith, common_steps, has)

  -- the first key keeps none
  pub emptied-gone : (k : K) (v : List (S × ℕ)) (es : List (K × List (S × ℕ))) → list_any (λ s. keep k s.0) v ≡ false → emptied keep ((k, v) ∷ es) ≡ k ∷ emptied keep es
  emptied-gone k v es h = let has = list_any-filter (λ (s : S × ℕ). keep k s.0) v in grind (arith, common_steps, has)

  -- a closure that prunes each list, and keeps the keys that have one left
  pub kept-from_retain : {F : Type 0} (T : F → K → List (S × ℕ) → Bool → List (S × ℕ) → F → Type 0) (f : F)
      → ((k : K) (v : List (S × ℕ)) (b : Bool) (w : List (S × ℕ)) (f' : F) → T f k v b w f' → (b ≡ nat_lt 0 (length w)) × (w ≡ filter (λ s. keep k s.0) v) × (f' ≡ f))
      → (es left : List (K × List (S × ℕ))) → RetainsPairs T f es left → left ≡ kept keep es
  kept-from_retain T f h [] left r = r
  kept-from_retain T f h (e ∷ es) left (b, w, f', rest, t, r, is) =
      let a = h e.0 e.1 b w f' t in
      let more : rest ≡ kept keep es = kept-from_retain T f h es rest (subst (λ u. RetainsPairs T u es rest) a.2 r) in
      rw (is, a.0, a.1, more)

  below-emptied : (P : K → Type 0) (d : List (K × List (S × ℕ))) → AllByRecursion P (keys_of d) → AllByRecursion P (emptied keep d)
  below-emptied P [] all = tt
  below-emptied P (e ∷ d) all =
      let more : AllByRecursion P (emptied keep d) = below-emptied P d all.1 in
      elim (has_subscribers (pruned keep e)) as (λ b. AllByRecursion P (keys_of (cond (not b) (pruned keep e ∷ filter (λ e. not (has_subscribers e)) (map (pruned keep) d)) (filter (λ e. not (has_subscribers e)) (map (pruned keep) d))))) [ true ↦ more | false ↦ (all.0, more) ]

  -- the keys that are left without subscribers stay in their order
  pub emptied-ordered : (cmp : K → K → Ordering) (d : List (K × List (S × ℕ))) → IsStrictlySortedBy cmp (keys_of d) → IsStrictlySortedBy cmp (emptied keep d)
  unfolding IsStrictlySortedBy
  emptied-ordered cmp [] h = tt
  emptied-ordered cmp (e ∷ d) h =
      let more : IsStrictlySortedBy cmp (emptied keep d) = emptied-ordered cmp d h.1 in
      let below : AllByRecursion (λ y. cmp e.0 y ≡ Less) (emptied keep d) = below-emptied (λ y. cmp e.0 y ≡ Less) d h.0 in
      elim (has_subscribers (pruned keep e)) as (λ b. IsStrictlySortedBy cmp (keys_of (cond (not b) (pruned keep e ∷ filter (λ e. not (has_subscribers e)) (map (pruned keep) d)) (filter (λ e. not (has_subscribers e)) (map (pruned keep) d))))) [ true ↦ more | false ↦ (below, more) ]
