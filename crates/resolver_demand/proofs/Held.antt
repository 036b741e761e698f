-- The value at a key that is there.
use Rattle.std.proofs.Common.{◌≡◌, Bool, List, [], ◌∷◌, None, Some, arith, refl}
use Rattle.std.proofs.lemmas.Grind.{common_steps}
use Rattle.std.specs.Cmp.{IsTotalOrder}
use Rattle.std.specs.List.{AllByRecursion}
use Rattle.std.specs.List.Sorted.{IsStrictlySortedBy}
use Rattle.std.specs.Map.{keys_of, lookup, remove_entry, set_value}
use Rattle.std.specs.BTreeMap.{insert_entry, is_at}
use Rattle.std.specs.Ordering.{match_ordering}
use Rattle.std.specs.declared.cmp.Ordering.{Ordering}
use Rattle.std.specs.declared.cmp.Ordering.TheVariants.{Less, Equal, Greater}

-- where a key isn't there, nothing is taken out
pub remove_entry-absent : {K X : Type 0} (test : K → Bool) (es : List (K × X)) → lookup test es ≡ None → remove_entry test es ≡ es
remove_entry-absent test [] none = refl
remove_entry-absent test (e ∷ es) none = let rest = remove_entry-absent test es in grind (arith, common_steps, rest, none)

module _ {K X : Type 0} {cmp : K → K → Ordering} (total : IsTotalOrder cmp) where
  -- what is below all keys is none of them
  absent-below : (k j : K) (es : List (K × X)) → cmp k j ≡ Less → AllByRecursion (λ y. cmp j y ≡ Less) (keys_of es) → lookup (is_at (cmp k)) es ≡ None
  absent-below k j [] below all = refl
  absent-below k j (e ∷ es) below all =
      let here = total.trans k j e.0 below all.0 in
      let rest = absent-below k j es below all.1 in
      grind (arith, common_steps, here, rest)

  -- where a key is there, its value is another one
  pub insert_entry-there : (k : K) (v w : X) (es : List (K × X)) → IsStrictlySortedBy cmp (keys_of es) → lookup (is_at (cmp k)) es ≡ Some v
      → insert_entry cmp es k w ≡ set_value (is_at (cmp k)) es w
  unfolding IsStrictlySortedBy
  insert_entry-there k v w [] sorted there = cc
  insert_entry-there k v w (e ∷ es) sorted there =
      let split : (o : Ordering) → cmp k e.0 ≡ o → match_ordering o ((k, w) ∷ e ∷ es) ((e.0, w) ∷ es) (e ∷ insert_entry cmp es k w) ≡ set_value (is_at (cmp k)) (e ∷ es) w =
      λ o. elim o as (λ o. cmp k e.0 ≡ o → match_ordering o ((k, w) ∷ e ∷ es) ((e.0, w) ∷ es) (e ∷ insert_entry cmp es k w) ≡ set_value (is_at (cmp k)) (e ∷ es) w) [
        | Less ↦ λ is. let none = absent-below k e.0 es is sorted.0 in grind (arith, common_steps, is, none, there)
        | Equal ↦ λ is. grind (arith, common_steps, is)
        | Greater ↦ λ is. let rest = insert_entry-there k v w es sorted.1 in grind (arith, common_steps, is, rest, there)
      ] in
      split (cmp k e.0) refl
