-- Each key of a table has subscribers in their order, whatever is done to it.
use Rattle.std.proofs.Common.{◌≡◌, ◌<◌, ℕ, Bool, true, false, not, cond, List, [], ◌∷◌, Option, None, Some, IfSome, length, filter, arith, rules, refl, sym, ap, ◌∙◌, Bor}
use Rattle.std.proofs.lemmas.Grind.{common_steps}
use Rattle.std.specs.Option.{MatchOption, option_copied}
use Rattle.std.specs.Cmp.{IsTotalOrder}
use Rattle.std.specs.List.{AllByRecursion}
use Rattle.std.specs.List.Sorted.{IsStrictlySortedBy}
use Rattle.std.proofs.lemmas.List.Kept.{IsStrictlySortedBy-filter}
use Rattle.std.specs.Map.{keys_of, lookup, set_value, remove_entry}
use Rattle.std.specs.BTreeMap.{insert_entry}
use Rattle.std.specs.Ordering.{match_ordering, ordering_reverse}
use Rattle.std.specs.declared.cmp.Ordering.{Ordering}
use Rattle.std.specs.declared.cmp.Ordering.TheVariants.{Less, Equal, Greater}
use Rattle.resolver_types.specs.Subscribers.{attached, attached_all, without, is_among}
use Rattle.resolver_types.specs.Table.{has_subscribers, kept, pruned}
use Rattle.resolver_demand.specs.Rows.{IsListed, AreListed}

-- the keys of the entries that pass by their keys
pub keys_of-filter : {K X : Type 0} (p : K → Bool) (es : List (K × X)) → keys_of (filter (λ e. p e.0) es) ≡ filter p (keys_of es)
keys_of-filter p [] = refl
keys_of-filter p (e ∷ es) = let rest = keys_of-filter p es in grind (arith, common_steps, rest)

module _ {S : Type 0} (cmp : S → S → Ordering) (total : IsTotalOrder cmp) where
  -- what is below all and below one more, is below all with it
  below-attached : (k : S) (ts : List (S × ℕ)) (s : S × ℕ) → cmp k s.0 ≡ Less → AllByRecursion (λ y. cmp k y ≡ Less) (keys_of ts) → AllByRecursion (λ y. cmp k y ≡ Less) (keys_of (attached cmp ts s))
  below-attached k [] s h all = (h, tt)
  below-attached k (t ∷ ts) s h all =
      elim (cmp s.0 t.0) as (λ o. AllByRecursion (λ y. cmp k y ≡ Less) (keys_of (match_ordering o (s ∷ t ∷ ts) (t ∷ ts) (t ∷ attached cmp ts s))))
      [ Less ↦ (h, all) | Equal ↦ all | Greater ↦ (all.0, below-attached k ts s h all.1) ]

  above-all : (k j : S) (ks : List S) → cmp k j ≡ Less → AllByRecursion (λ y. cmp j y ≡ Less) ks → AllByRecursion (λ y. cmp k y ≡ Less) ks
  above-all k j [] h all = tt
  above-all k j (x ∷ ks) h all = (total.trans k j x h all.0, above-all k j ks h all.1)

  pub attached-ordered : (ts : List (S × ℕ)) (s : S × ℕ) → IsStrictlySortedBy cmp (keys_of ts) → IsStrictlySortedBy cmp (keys_of (attached cmp ts s))
  unfolding IsStrictlySortedBy
  attached-ordered [] s h = (tt, tt)
  attached-ordered (t ∷ ts) s h =
      let split : (o : Ordering) → cmp s.0 t.0 ≡ o → IsStrictlySortedBy cmp (keys_of (match_ordering o (s ∷ t ∷ ts) (t ∷ ts) (t ∷ attached cmp ts s))) =
      λ o. elim o as (λ o. cmp s.0 t.0 ≡ o → IsStrictlySortedBy cmp (keys_of (match_ordering o (s ∷ t ∷ ts) (t ∷ ts) (t ∷ attached cmp ts s)))) [
        | Less ↦ λ is. ((is, above-all s.0 t.0 (keys_of ts) is h.0), h)
        | Equal ↦ λ is. h
        | Greater ↦ λ is. (below-attached t.0 ts s (total.antisymm t.0 s.0 ∙ ap ordering_reverse is) h.0, attached-ordered ts s h.1)
      ] in
      split (cmp s.0 t.0) refl

  -- no subscriber
  pub sorted-nil : IsStrictlySortedBy cmp []
  unfolding IsStrictlySortedBy
  sorted-nil = tt

  attached-positive : (ts : List (S × ℕ)) (s : S × ℕ) → 0 < length (attached cmp ts s)
  attached-positive [] s = search rules
  attached-positive (t ∷ ts) s = elim (cmp s.0 t.0) as (λ o. 0 < length (match_ordering o (s ∷ t ∷ ts) (t ∷ ts) (t ∷ attached cmp ts s))) [ Less ↦ search rules | Equal ↦ search rules | Greater ↦ search rules ]

  -- a list that has subscribers in their order keeps them so
  pub attached_all-listed : (ts ss : List (S × ℕ)) → IsListed cmp ts → IsListed cmp (attached_all cmp ts ss)
  attached_all-listed ts [] h = h
  attached_all-listed ts (s ∷ ss) h = attached_all-listed (attached cmp ts s) ss (record { some = attached-positive ts s; ordered = attached-ordered ts s h.ordered })

  -- a list made of some subscribers has them in their order
  pub attached_all-listed-new : (ss : List (S × ℕ)) → 0 < length ss → IsListed cmp (attached_all cmp [] ss)
  attached_all-listed-new [] some = absurd (omega (arith, some))
  attached_all-listed-new (s ∷ ss) some = attached_all-listed (s ∷ []) ss (record { some = search rules; ordered = attached-ordered [] s (sorted-nil) })

module _ {S : Type 0} (cmp : S → S → Ordering) where
  filtered-listed : (p : S → Bool) (ts : List (S × ℕ)) → IsStrictlySortedBy cmp (keys_of ts) → 0 < length (filter (λ s. p s.0) ts) → IsListed cmp (filter (λ s. p s.0) ts)
  filtered-listed p ts h some = record { some = some; ordered = rw (keys_of-filter p ts) (IsStrictlySortedBy-filter cmp p (keys_of ts) h) }

  -- those that aren't named stay in their order
  pub without-listed : (named ts : List (S × ℕ)) → IsListed cmp ts → 0 < length (without cmp named ts) → IsListed cmp (without cmp named ts)
  without-listed named ts h some = filtered-listed (λ s. not (is_among cmp named s)) ts h.ordered some

module _ {K S : Type 0} (cmp : S → S → Ordering) where
  pub all-remove : (test : K → Bool) (d : List (K × List (S × ℕ))) → AreListed cmp d → AreListed cmp (remove_entry test d)
  all-remove test [] h = h
  all-remove test (e ∷ d) h = elim (test e.0) as (λ b. AreListed cmp (cond b d (e ∷ remove_entry test d))) [ true ↦ h.1 | false ↦ (h.0, all-remove test d h.1) ]

  pub all-set : (test : K → Bool) (d : List (K × List (S × ℕ))) (v : List (S × ℕ)) → IsListed cmp v → AreListed cmp d → AreListed cmp (set_value test d v)
  all-set test [] v some h = h
  all-set test (e ∷ d) v some h = elim (test e.0) as (λ b. AreListed cmp (cond b ((e.0, v) ∷ d) (e ∷ set_value test d v))) [ true ↦ (some, h.1) | false ↦ (h.0, all-set test d v some h.1) ]

  pub all-insert : (by_key : K → K → Ordering) (d : List (K × List (S × ℕ))) (k : K) (v : List (S × ℕ)) → IsListed cmp v → AreListed cmp d → AreListed cmp (insert_entry by_key d k v)
  all-insert by_key [] k v some h = (some, tt)
  all-insert by_key (e ∷ d) k v some h =
      elim (by_key k e.0) as (λ o. AreListed cmp (match_ordering o ((k, v) ∷ e ∷ d) ((e.0, v) ∷ d) (e ∷ insert_entry by_key d k v)))
      [ Less ↦ (some, h) | Equal ↦ (some, h.1) | Greater ↦ (h.0, all-insert by_key d k v some h.1) ]

  pub all-kept : (keep : K → S → Bool) (d : List (K × List (S × ℕ))) → AreListed cmp d → AreListed cmp (kept keep d)
  all-kept keep [] h = tt
  all-kept keep (e ∷ d) h =
      let split : (b : Bool) → has_subscribers (pruned keep e) ≡ b → AreListed cmp (cond b (pruned keep e ∷ kept keep d) (kept keep d)) =
      λ b. elim b as (λ b. has_subscribers (pruned keep e) ≡ b → AreListed cmp (cond b (pruned keep e ∷ kept keep d) (kept keep d))) [
        | true ↦ λ is. (filtered-listed cmp (keep e.0) e.1 h.0.ordered (search (rules, is)), all-kept keep d h.1)
        | false ↦ λ is. all-kept keep d h.1
      ] in
      split (has_subscribers (pruned keep e)) refl

  pub listed-of : (test : K → Bool) (d : List (K × List (S × ℕ))) (v : List (S × ℕ)) → AreListed cmp d → lookup test d ≡ Some v → IsListed cmp v
  listed-of test [] v h found = cc
  listed-of test (e ∷ d) v h found =
      let split : (b : Bool) → cond b (Some e.1) (lookup test d) ≡ Some v → IsListed cmp v =
      λ b. elim b as (λ b. cond b (Some e.1) (lookup test d) ≡ Some v → IsListed cmp v) [
        | true ↦ λ is. let same : e.1 ≡ v = cc in rw (← same) h.0
        | false ↦ λ is. listed-of test d v h.1 is
      ] in
      split (test e.0) found

  -- a key takes some subscribers if it is there, and nothing changes else
  pub all-offered : IsTotalOrder cmp → (test : K → Bool) (d new : List (K × List (S × ℕ))) (ss : List (S × ℕ)) (A B : Type 0) (o : Option (List (S × ℕ)))
      → lookup test d ≡ o → MatchOption o (A × (new ≡ d)) (λ ts. B × (new ≡ set_value test d (attached_all cmp ts ss)))
      → AreListed cmp d → AreListed cmp new
  all-offered total test d new ss A B None found is h = rw is.1 h
  all-offered total test d new ss A B (Some ts) found is h =
      rw is.1 (all-set test d _ (attached_all-listed cmp total ts ss (listed-of test d ts h found)) h)

  -- a key that is found has subscribers in their order
  pub listed-found : (test : K → Bool) (d : List (K × List (S × ℕ))) (o : Option (Bor (List (S × ℕ))))
      → option_copied o ≡ lookup test d → AreListed cmp d → IfSome o (λ ts. IsListed cmp ts.now)
  listed-found test d None found h = tt
  listed-found test d (Some ts) found h = listed-of test d ts.now h (sym found)
