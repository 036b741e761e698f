-- Rows by key: what is found after a change, and that no two have the same key.
use Rattle.std.proofs.Common.{◌≡◌, refl, ap, sym, ◌∙◌, subst, Bool, true, false, cond, List, [], ◌∷◌, None, Some, is_some}
use Rattle.std.specs.List.{IsDistinct, AllByRecursion}
use Rattle.std.specs.Map.{lookup, set_value, remove_entry, keys_of}
use Rattle.std.specs.BTreeMap.{insert_entry}
use Rattle.std.specs.Cmp.{IsEquivalence}
use Rattle.std.specs.Ordering.{match_ordering, is_eq}
use Rattle.std.specs.declared.cmp.Ordering.{Ordering}
use Rattle.std.specs.declared.cmp.Ordering.TheVariants.{Less, Equal, Greater}
use Rattle.std.proofs.lemmas.Map.{lookup-set_value, lookup-remove_entry, keys-set_value, none_passes_from_lookup, NonePasses}
use Rattle.std.proofs.lemmas.Map.Keys.{IsDistinct-head, IsDistinct-tail, IsDistinct-cons}
use Rattle.resolver_types.specs.Names.{Names, same_key}
use Rattle.resolver_model.specs.Lawful.{Each}

module _ {K S : Type 0} (n : Names K S) (laws : IsEquivalence (same_key n)) where
  module _ {X : Type 0} where
    pub lookup-set : (k q : K) (es : List (K × X)) (v w : X) → lookup (same_key n k) es ≡ Some v
        → lookup (same_key n q) (set_value (same_key n k) es w) ≡ cond (same_key n k q) (Some w) (lookup (same_key n q) es)
    lookup-set k q es v w found = lookup-set_value laws (same_key n k) (λ x y. laws.congr k x y) q w es (ap is_some found)

    pub lookup-removed : (k q : K) (es : List (K × X)) → IsDistinct (same_key n) (keys_of es)
        → lookup (same_key n q) (remove_entry (same_key n k) es) ≡ cond (same_key n k q) None (lookup (same_key n q) es)
    lookup-removed k q es distinct = lookup-remove_entry laws (same_key n k) (λ x y. laws.congr k x y) q es distinct

    -- equal keys find the same
    pub lookup-same : (k q : K) (es : List (K × X)) → same_key n k q ≡ true → lookup (same_key n q) es ≡ lookup (same_key n k) es
    lookup-same k q [] same = refl
    lookup-same k q (e ∷ es) same = rw (laws.congr k q e.0 same, lookup-same k q es same) refl

    pub lookup-inserted : (k q : K) (es : List (K × X)) (v : X) → lookup (same_key n k) es ≡ None
        → lookup (same_key n q) (insert_entry n.key es k v) ≡ cond (same_key n k q) (Some v) (lookup (same_key n q) es)
    lookup-inserted k q [] v none = rw (laws.symm q k) refl
    lookup-inserted k q (e ∷ es) v none = at (n.key k e.0) refl none (lookup-inserted k q es v)
      where
        at : (o : Ordering) → n.key k e.0 ≡ o → cond (is_eq o) (Some e.1) (lookup (same_key n k) es) ≡ None
            → (lookup (same_key n k) es ≡ None → lookup (same_key n q) (insert_entry n.key es k v) ≡ cond (same_key n k q) (Some v) (lookup (same_key n q) es))
            → lookup (same_key n q) (match_ordering o ((k, v) ∷ e ∷ es) ((e.0, v) ∷ es) (e ∷ insert_entry n.key es k v))
            ≡ cond (same_key n k q) (Some v) (cond (same_key n q e.0) (Some e.1) (lookup (same_key n q) es))
        at Less is none rest = rw (laws.symm q k) refl
        at Equal is none rest = cc
        at Greater is none rest = rw (rest none) (swap (same_key n k q) refl (same_key n q e.0) refl)
          where
            swap : (a : Bool) → same_key n k q ≡ a → (b : Bool) → same_key n q e.0 ≡ b
                → cond b (Some e.1) (cond a (Some v) (lookup (same_key n q) es)) ≡ cond a (Some v) (cond b (Some e.1) (lookup (same_key n q) es))
            swap true k_q true q_e = let tied : is_eq (n.key k e.0) ≡ true = laws.congr k q e.0 k_q ∙ q_e in cc
            swap true k_q false q_e = refl
            swap false k_q b q_e = refl

    Keys-inserted : (P : K → Type 0) (k : K) (es : List (K × X)) (v : X) → AllByRecursion P (keys_of es) → P k → AllByRecursion P (keys_of (insert_entry n.key es k v))
    Keys-inserted P k [] v ps p = (p, tt)
    Keys-inserted P k (e ∷ es) v ps p = at (n.key k e.0) (Keys-inserted P k es v ps.1 p)
      where
        at : (o : Ordering) → AllByRecursion P (keys_of (insert_entry n.key es k v)) → AllByRecursion P (keys_of (match_ordering o ((k, v) ∷ e ∷ es) ((e.0, v) ∷ es) (e ∷ insert_entry n.key es k v)))
        at Less rest = (p, ps)
        at Equal rest = ps
        at Greater rest = (ps.0, rest)

    none_of_keys : (k : K) (es : List (K × X)) → NonePasses (same_key n k) es → AllByRecursion (λ y. same_key n k y ≡ false) (keys_of es)
    none_of_keys k [] none = tt
    none_of_keys k (e ∷ es) none = (none.0, none_of_keys k es none.1)

    pub Distinct-inserted : (k : K) (es : List (K × X)) (v : X) → lookup (same_key n k) es ≡ None → IsDistinct (same_key n) (keys_of es)
        → IsDistinct (same_key n) (keys_of (insert_entry n.key es k v))
    Distinct-inserted k [] v none distinct = IsDistinct-cons (same_key n) k [] (none_of_keys k [] (none_passes_from_lookup (same_key n k) [] none)) distinct
    Distinct-inserted k (e ∷ es) v none distinct = at (n.key k e.0) refl none (Distinct-inserted k es v)
      where
        at : (o : Ordering) → n.key k e.0 ≡ o → cond (is_eq o) (Some e.1) (lookup (same_key n k) es) ≡ None
            → (lookup (same_key n k) es ≡ None → IsDistinct (same_key n) (keys_of es) → IsDistinct (same_key n) (keys_of (insert_entry n.key es k v)))
            → IsDistinct (same_key n) (keys_of (match_ordering o ((k, v) ∷ e ∷ es) ((e.0, v) ∷ es) (e ∷ insert_entry n.key es k v)))
        at Less is none' rest = IsDistinct-cons (same_key n) k (keys_of (e ∷ es)) (none_of_keys k (e ∷ es) (none_passes_from_lookup (same_key n k) (e ∷ es) none)) distinct
        at Equal is none' rest = cc
        at Greater is none' rest =
            IsDistinct-cons (same_key n) e.0 (keys_of (insert_entry n.key es k v))
            (Keys-inserted (λ y. same_key n e.0 y ≡ false) k es v (IsDistinct-head (same_key n) e.0 (keys_of es) distinct) (laws.symm e.0 k ∙ ap is_eq is))
            (rest none' (IsDistinct-tail (same_key n) e.0 (keys_of es) distinct))

    Keys-removed : (P : K → Type 0) (test : K → Bool) (es : List (K × X)) → AllByRecursion P (keys_of es) → AllByRecursion P (keys_of (remove_entry test es))
    Keys-removed P test [] ps = tt
    Keys-removed P test (e ∷ es) ps = at (test e.0) (Keys-removed P test es ps.1)
      where
        at : (b : Bool) → AllByRecursion P (keys_of (remove_entry test es)) → AllByRecursion P (keys_of (cond b es (e ∷ remove_entry test es)))
        at true rest = ps.1
        at false rest = (ps.0, rest)

    pub Distinct-removed : (test : K → Bool) (es : List (K × X)) → IsDistinct (same_key n) (keys_of es) → IsDistinct (same_key n) (keys_of (remove_entry test es))
    Distinct-removed test [] distinct = distinct
    Distinct-removed test (e ∷ es) distinct = at (test e.0) (Distinct-removed test es (IsDistinct-tail (same_key n) e.0 (keys_of es) distinct))
      where
        at : (b : Bool) → IsDistinct (same_key n) (keys_of (remove_entry test es)) → IsDistinct (same_key n) (keys_of (cond b es (e ∷ remove_entry test es)))
        at true rest = IsDistinct-tail (same_key n) e.0 (keys_of es) distinct
        at false rest =
            IsDistinct-cons (same_key n) e.0 (keys_of (remove_entry test es))
            (Keys-removed (λ y. same_key n e.0 y ≡ false) test es (IsDistinct-head (same_key n) e.0 (keys_of es) distinct)) rest

    pub Distinct-set : (test : K → Bool) (es : List (K × X)) (w : X) → IsDistinct (same_key n) (keys_of es) → IsDistinct (same_key n) (keys_of (set_value test es w))
    Distinct-set test es w distinct = subst (IsDistinct (same_key n)) (sym (keys-set_value test es w)) distinct

    -- each row is found by its key
    pub each_found : (es : List (K × X)) → IsDistinct (same_key n) (keys_of es) → Each (λ e. lookup (same_key n e.0) es ≡ Some e.1) es
    each_found [] distinct = tt
    each_found (e ∷ es) distinct =
        (rw (laws.refl e.0) refl, later es (each_found es (IsDistinct-tail (same_key n) e.0 (keys_of es) distinct)) (IsDistinct-head (same_key n) e.0 (keys_of es) distinct))
      where
        later : (fs : List (K × X)) → Each (λ f. lookup (same_key n f.0) es ≡ Some f.1) fs → AllByRecursion (λ y. same_key n e.0 y ≡ false) (keys_of fs)
            → Each (λ f. lookup (same_key n f.0) (e ∷ es) ≡ Some f.1) fs
        later [] found apart = tt
        later (f ∷ fs) found apart = (rw (laws.symm f.0 e.0, apart.0) found.0, later fs found.1 apart.1)
        -- the row of a key after a change of each row that leaves the keys
