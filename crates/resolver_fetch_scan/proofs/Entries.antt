-- Entries that a test doesn't find.
use Rattle.std.proofs.Common.{◌≡◌, refl, ap, sym, ◌∙◌, Bool, List, [], ◌∷◌, None, Some, cond, arith}
use Rattle.std.proofs.lemmas.Grind.{common_steps}
use Rattle.std.proofs.lemmas.Map.{lookup-none}
use Rattle.std.proofs.lemmas.Map.Entries.{none_below_head}
use Rattle.std.proofs.lemmas.Map.Keys.{sorted_tail}
use Rattle.std.specs.Cmp.{IsTotalOrder}
use Rattle.std.specs.List.Sorted.{IsStrictlySortedBy}
use Rattle.std.specs.Map.{keys_of, lookup, set_value}
use Rattle.std.specs.BTreeMap.{insert_entry, is_at}
use Rattle.std.specs.Ordering.{is_eq, match_ordering}
use Rattle.std.specs.declared.cmp.Ordering.{Ordering}
use Rattle.std.specs.declared.cmp.Ordering.TheVariants.{Less, Equal, Greater}

module _ {K X : Type 0} where
  -- nothing is set where nothing is found
  pub set_value-none : (test : K → Bool) (es : List (K × X)) (w : X) → lookup test es ≡ None → set_value test es w ≡ es
  set_value-none test [] w none = refl
  set_value-none test (e ∷ es) w none = let rest = set_value-none test es w in grind (arith, common_steps, rest)

  -- an entry whose key is there takes the value
  pub insert-held : {cmp : K → K → Ordering} → IsTotalOrder cmp → (k : K) (v x : X) (es : List (K × X)) → IsStrictlySortedBy cmp (keys_of es)
      → lookup (is_at (cmp k)) es ≡ Some x → insert_entry cmp es k v ≡ set_value (is_at (cmp k)) es v
  insert-held {cmp} total k v x [] sorted there = absurd cc
  insert-held {cmp} total k v x (e ∷ es) sorted there =
      at (cmp k e.0) refl there (insert-held total k v x es (sorted_tail cmp e.0 (keys_of es) sorted)) where
        at : (o : Ordering) → cmp k e.0 ≡ o → cond (is_eq o) (Some e.1) (lookup (is_at (cmp k)) es) ≡ Some x
            → (lookup (is_at (cmp k)) es ≡ Some x → insert_entry cmp es k v ≡ set_value (is_at (cmp k)) es v)
            → match_ordering o ((k, v) ∷ e ∷ es) ((e.0, v) ∷ es) (e ∷ insert_entry cmp es k v) ≡ cond (is_eq o) ((e.0, v) ∷ es) (e ∷ set_value (is_at (cmp k)) es v)
        at Less is found rest =
            let none : lookup (is_at (cmp k)) (e ∷ es) ≡ None = lookup-none (is_at (cmp k)) (e ∷ es) (none_below_head total k e es sorted is) in
            let no_value : None ≡ Some x = sym none ∙ there in
            absurd cc
        at Equal is found rest = refl
        at Greater is found rest = ap (λ (tail : List (K × X)). e ∷ tail) (rest found)
