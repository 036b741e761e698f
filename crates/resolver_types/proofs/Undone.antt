-- What was put is taken back.
use Rattle.std.proofs.Common.{◌≡◌, ap, refl, ℕ, true, false, cond, List, [], ◌∷◌, ◌++◌, Option, None, Some, is_some}
use Rattle.std.specs.Map.{lookup, remove_entry}
use Rattle.std.specs.BTreeMap.{insert_entry, is_at}
use Rattle.std.specs.Ordering.{is_eq, match_ordering}
use Rattle.std.specs.declared.cmp.Ordering.{Ordering}
use Rattle.std.specs.declared.cmp.Ordering.TheVariants.{Less, Equal, Greater}
use Rattle.resolver_types.specs.Undone.{without_each}

-- what is not there is none
pub none-of : {X : Type 0} (x : Option X) → is_some x ≡ false → x ≡ None
none-of None is = refl
none-of (Some x) is = cc

module _ {K X : Type 0} (cmp : K → K → Ordering) where
  -- what was put in as a new key, taken out again
  pub removed-inserted : (k : K) (es : List (K × X)) (v : X) → is_eq (cmp k k) ≡ true → lookup (is_at (cmp k)) es ≡ None
      → remove_entry (is_at (cmp k)) (insert_entry cmp es k v) ≡ es
  removed-inserted k [] v reflects none = rw reflects refl
  removed-inserted k (e ∷ es) v reflects none = at (cmp k e.0) refl none (λ later. removed-inserted k es v reflects later)
    where
      at : (o : Ordering) → cmp k e.0 ≡ o → cond (is_eq o) (Some e.1) (lookup (is_at (cmp k)) es) ≡ None
          → (lookup (is_at (cmp k)) es ≡ None → remove_entry (is_at (cmp k)) (insert_entry cmp es k v) ≡ es)
          → remove_entry (is_at (cmp k)) (match_ordering o ((k, v) ∷ e ∷ es) ((e.0, v) ∷ es) (e ∷ insert_entry cmp es k v)) ≡ e ∷ es
      at Less is none rest = rw reflects refl
      at Equal is none rest = cc
      at Greater is none rest = rw (is, rest none) refl

module _ {S : Type 0} (cmp : S → S → Ordering) where
  -- the last one first
  pub without_each-last : (ss : List S) (s : S) (ts : List (S × ℕ)) → without_each cmp (ss ++ s ∷ []) ts ≡ without_each cmp ss (remove_entry (is_at (cmp s)) ts)
  without_each-last [] s ts = refl
  without_each-last (x ∷ ss) s ts = ap (λ rest. remove_entry (is_at (cmp x)) rest) (without_each-last ss s ts)
