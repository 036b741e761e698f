-- Lists of entries in the order of their keys, around the place of one key.
use Rattle.std.proofs.Common.{◌≡◌, refl, ap, sym, ◌∙◌, subst, Bool, true, false, cond, List, [], ◌∷◌, ◌++◌, map, Option, None, Some}
use Rattle.std.proofs.lemmas.Cmp.{tied_itself}
use Rattle.std.proofs.lemmas.List.{map-append}
use Rattle.std.proofs.lemmas.List.Elements.{filter_map-append}
use Rattle.std.proofs.lemmas.Map.Keys.{sorted_head, sorted_tail}
use Rattle.std.specs.Option.{option_map, option_and_then}
use Rattle.std.specs.Cmp.{IsTotalOrder}
use Rattle.std.specs.List.{AllByRecursion, cons_option, filter_map}
use Rattle.std.specs.List.Sorted.{IsStrictlySortedBy}
use Rattle.std.specs.Map.{keys_of, lookup, remove_entry, set_value}
use Rattle.std.specs.BTreeMap.{insert_entry, is_at}
use Rattle.std.specs.Ordering.{is_eq, ordering_reverse}
use Rattle.std.specs.declared.cmp.Ordering.{Ordering}
use Rattle.std.specs.declared.cmp.Ordering.TheVariants.{Less, Equal, Greater}
use Rattle.resolver_priority_set.proofs.Ordered.{above-less}
use Rattle.resolver_model_peer.specs.PeerRows.{change_entry}

-- what stands under a key, between the entries before and after it
abbrev pub slot : {K X : Type 0} → (before : List (K × X)) → K → Option X → (after : List (K × X)) → List (K × X)
slot before key was after = before ++ cons_option (option_map (λ x. (key, x)) was) after

module _ {K : Type 0} {cmp : K → K → Ordering} (o : IsTotalOrder cmp) where
  -- the keys before are less, those after are greater
  pub record IsAround {X : Type 0} (before : List (K × X)) (key : K) (after : List (K × X)) : Type 0 where
    pub above : AllByRecursion (λ k. cmp key k ≡ Greater) (keys_of before)
    pub below : AllByRecursion (λ k. cmp key k ≡ Less) (keys_of after)

  -- a list, around what stands under a key
  pub record Around {X : Type 0} (es : List (K × X)) (key : K) (was : Option X) : Type 0 where
    pub before : List (K × X)
    pub after : List (K × X)
    pub whole : es ≡ slot before key was after
    pub around : IsAround before key after

  all-imply : {X : Type 0} (P Q : K → Type 0) → ((k : K) → P k → Q k) → (es : List (K × X)) → AllByRecursion P (keys_of es) → AllByRecursion Q (keys_of es)
  all-imply P Q imply [] all = tt
  all-imply P Q imply (e ∷ es) all = (imply e.0 all.0, all-imply P Q imply es all.1)

  -- a key that is equal stands at the same place
  pub around-equal : {X : Type 0} (k key : K) (before after : List (K × X)) → cmp k key ≡ Equal → IsAround before key after → IsAround before k after
  around-equal k key before after same i = record {
    above = all-imply (λ e. cmp key e ≡ Greater) (λ e. cmp k e ≡ Greater) (λ e there. o.congr k key e same ∙ there) before i.above;
    below = all-imply (λ e. cmp key e ≡ Less) (λ e. cmp k e ≡ Less) (λ e there. o.congr k key e same ∙ there) after i.below;
  }

  module _ {X : Type 0} where
    -- where a key is that is not there
    pub around-none : (es : List (K × X)) (key : K) → IsStrictlySortedBy cmp (keys_of es) → lookup (is_at (cmp key)) es ≡ None → Around es key None
    around-none [] key ordered none = record { before = []; after = []; whole = refl; around = record { above = tt; below = tt } }
    around-none (e ∷ es) key ordered none = at (cmp key e.0) refl none (around-none es key (sorted_tail cmp e.0 (keys_of es) ordered))
      where
        at : (r : Ordering) → cmp key e.0 ≡ r → cond (is_eq r) (Some e.1) (lookup (is_at (cmp key)) es) ≡ None
            → (lookup (is_at (cmp key)) es ≡ None → Around es key None) → Around (e ∷ es) key None
        at Less is none rest = record {
          before = [];
          after = e ∷ es;
          whole = refl;
          around = record { above = tt; below = (is, above-less o key e.0 (keys_of es) is (sorted_head cmp e.0 (keys_of es) ordered)) };
        }
        at Equal is none rest = absurd cc
        at Greater is none rest = let b = rest none in record {
          before = e ∷ b.before;
          after = b.after;
          whole = ap (λ es. e ∷ es) b.whole;
          around = record { above = (is, b.around.above); below = b.around.below };
        }

    -- where a key is that is there, under its own name
    pub record Found (es : List (K × X)) (key : K) (x : X) : Type 0 where
      pub own : K
      pub same : cmp key own ≡ Equal
      pub at : Around es own (Some x)

    pub around-some : (es : List (K × X)) (key : K) (x : X) → IsStrictlySortedBy cmp (keys_of es) → lookup (is_at (cmp key)) es ≡ Some x → Found es key x
    around-some [] key x ordered found = absurd cc
    around-some (e ∷ es) key x ordered found = at (cmp key e.0) refl found (around-some es key x (sorted_tail cmp e.0 (keys_of es) ordered))
      where
        some : (y : X) → Some y ≡ Some x → y ≡ x
        some y is = cc

        here : e.1 ≡ x → cmp key e.0 ≡ Equal → Found (e ∷ es) key x
        here is same = record {
          own = e.0;
          same = same;
          at = record {
            before = [];
            after = es;
            whole = ap (λ x. (e.0, x) ∷ es) is;
            around = record { above = tt; below = sorted_head cmp e.0 (keys_of es) ordered };
          };
        }

        later : cmp key e.0 ≡ Greater → Found es key x → Found (e ∷ es) key x
        later is f = record {
          own = f.own;
          same = f.same;
          at = record {
            before = e ∷ f.at.before;
            after = f.at.after;
            whole = ap (λ es. e ∷ es) f.at.whole;
            around = record { above = (sym (o.congr key f.own e.0 f.same) ∙ is, f.at.around.above); below = f.at.around.below };
          };
        }

        none-below : (r : Ordering) → cmp key e.0 ≡ Less → lookup (is_at (cmp key)) es ≡ Some x → ⊥
        none-below r is found = clash (lookup-below es (above-less o key e.0 (keys_of es) is (sorted_head cmp e.0 (keys_of es) ordered)) ∙ sym refl) found
          where
            lookup-below : (es : List (K × X)) → AllByRecursion (λ k. cmp key k ≡ Less) (keys_of es) → lookup (is_at (cmp key)) es ≡ None
            lookup-below [] below = refl
            lookup-below (y ∷ ys) below = rw (below.0, lookup-below ys below.1) refl

            clash : lookup (is_at (cmp key)) es ≡ None → lookup (is_at (cmp key)) es ≡ Some x → ⊥
            clash none some = cc

        at : (r : Ordering) → cmp key e.0 ≡ r → cond (is_eq r) (Some e.1) (lookup (is_at (cmp key)) es) ≡ Some x
            → (lookup (is_at (cmp key)) es ≡ Some x → Found es key x) → Found (e ∷ es) key x
        at Less is found rest = absurd (none-below Less is found)
        at Equal is found rest = here (some e.1 found) is
        at Greater is found rest = later is (rest found)

    -- of the key itself
    pub around-own : (before after : List (K × X)) (key : K) (x : X) → IsStrictlySortedBy cmp (keys_of (before ++ (key, x) ∷ after)) → IsAround before key after
    around-own [] after key x ordered = record { above = tt; below = sorted_head cmp key (keys_of after) ordered }
    around-own (e ∷ before) after key x ordered =
        let rest = around-own before after key x (sorted_tail cmp e.0 (keys_of (before ++ (key, x) ∷ after)) ordered) in
        record {
          above = (o.antisymm key e.0 ∙ ap ordering_reverse (own before (sorted_head cmp e.0 (keys_of (before ++ (key, x) ∷ after)) ordered)), rest.above);
          below = rest.below;
        }
      where
        own : (xs : List (K × X)) → AllByRecursion (λ k. cmp e.0 k ≡ Less) (keys_of (xs ++ (key, x) ∷ after)) → cmp e.0 key ≡ Less
        own [] all = all.0
        own (y ∷ ys) all = own ys all.1

    -- what each call does there
    pub lookup-slot : (before after : List (K × X)) (key : K) (was : Option X) → IsAround before key after → lookup (is_at (cmp key)) (slot before key was after) ≡ was
    lookup-slot [] [] key None i = refl
    lookup-slot [] (e ∷ after) key None i = rw (i.below.0, lookup-slot [] after key None (record { above = tt; below = i.below.1 })) refl
    lookup-slot [] after key (Some x) i = rw (tied_itself o key) refl
    lookup-slot (e ∷ before) after key was i = rw (i.above.0, lookup-slot before after key was (record { above = i.above.1; below = i.below })) refl

    pub insert-slot : (before after : List (K × X)) (key : K) (was : Option X) (v : X) → IsAround before key after
        → insert_entry cmp (slot before key was after) key v ≡ slot before key (Some v) after
    insert-slot [] [] key None v i = refl
    insert-slot [] (e ∷ after) key None v i = rw i.below.0 refl
    insert-slot [] after key (Some x) v i = rw (tied_itself o key) refl
    insert-slot (e ∷ before) after key was v i = rw (i.above.0, insert-slot before after key was v (record { above = i.above.1; below = i.below })) refl

    -- a key that is there keeps its own name
    pub insert-found : (before after : List (K × X)) (k key : K) (x v : X) → cmp k key ≡ Equal → IsAround before key after
        → insert_entry cmp (slot before key (Some x) after) k v ≡ slot before key (Some v) after
    insert-found [] after k key x v same i = rw same refl
    insert-found (e ∷ before) after k key x v same i =
        rw (o.congr k key e.0 same ∙ i.above.0, insert-found before after k key x v same (record { above = i.above.1; below = i.below })) refl

    pub remove-slot : (before after : List (K × X)) (key : K) (was : Option X) → IsAround before key after
        → remove_entry (is_at (cmp key)) (slot before key was after) ≡ slot before key None after
    remove-slot [] [] key None i = refl
    remove-slot [] (e ∷ after) key None i = rw (i.below.0, remove-slot [] after key None (record { above = tt; below = i.below.1 })) refl
    remove-slot [] after key (Some x) i = rw (tied_itself o key) refl
    remove-slot (e ∷ before) after key was i = rw (i.above.0, remove-slot before after key was (record { above = i.above.1; below = i.below })) refl

    pub set-slot : (before after : List (K × X)) (key : K) (x v : X) → IsAround before key after
        → set_value (is_at (cmp key)) (slot before key (Some x) after) v ≡ slot before key (Some v) after
    set-slot [] after key x v i = rw (tied_itself o key) refl
    set-slot (e ∷ before) after key x v i = rw (i.above.0, set-slot before after key x v (record { above = i.above.1; below = i.below })) refl

    pub change-slot : (f : X → X) (before after : List (K × X)) (key : K) (x : X) → IsAround before key after
        → change_entry (is_at (cmp key)) f (slot before key (Some x) after) ≡ slot before key (Some (f x)) after
    change-slot f [] after key x i = rw (tied_itself o key) refl
    change-slot f (e ∷ before) after key x i = rw (i.above.0, change-slot f before after key x (record { above = i.above.1; below = i.below })) refl

    -- a key that is equal finds what stands there, under its own name
    pub lookup-found : (before after : List (K × X)) (k key : K) (was : Option X) → cmp k key ≡ Equal → IsAround before key after → lookup (is_at (cmp k)) (slot before key was after) ≡ was
    lookup-found [] [] k key None same i = refl
    lookup-found [] (e ∷ after) k key None same i = rw (o.congr k key e.0 same ∙ i.below.0, lookup-found [] after k key None same (record { above = tt; below = i.below.1 })) refl
    lookup-found [] after k key (Some x) same i = rw same refl
    lookup-found (e ∷ before) after k key was same i = rw (o.congr k key e.0 same ∙ i.above.0, lookup-found before after k key was same (record { above = i.above.1; below = i.below })) refl

    pub remove-found : (before after : List (K × X)) (k key : K) (was : Option X) → cmp k key ≡ Equal → IsAround before key after → remove_entry (is_at (cmp k)) (slot before key was after) ≡ slot before key None after
    remove-found [] [] k key None same i = refl
    remove-found [] (e ∷ after) k key None same i = rw (o.congr k key e.0 same ∙ i.below.0, remove-found [] after k key None same (record { above = tt; below = i.below.1 })) refl
    remove-found [] after k key (Some x) same i = rw same refl
    remove-found (e ∷ before) after k key was same i = rw (o.congr k key e.0 same ∙ i.above.0, remove-found before after k key was same (record { above = i.above.1; below = i.below })) refl

    pub set-found : (before after : List (K × X)) (k key : K) (x v : X) → cmp k key ≡ Equal → IsAround before key after → set_value (is_at (cmp k)) (slot before key (Some x) after) v ≡ slot before key (Some v) after
    set-found [] after k key x v same i = rw same refl
    set-found (e ∷ before) after k key x v same i = rw (o.congr k key e.0 same ∙ i.above.0, set-found before after k key x v same (record { above = i.above.1; below = i.below })) refl

    pub change-found : (f : X → X) (before after : List (K × X)) (k key : K) (x : X) → cmp k key ≡ Equal → IsAround before key after → change_entry (is_at (cmp k)) f (slot before key (Some x) after) ≡ slot before key (Some (f x)) after
    change-found f [] after k key x same i = rw same refl
    change-found f (e ∷ before) after k key x same i = rw (o.congr k key e.0 same ∙ i.above.0, change-found f before after k key x same (record { above = i.above.1; below = i.below })) refl

    all-slot : (Q : K → Type 0) (before after : List (K × X)) (key : K) (was now : Option X) → Q key → AllByRecursion Q (keys_of (slot before key was after)) → AllByRecursion Q (keys_of (slot before key now after))
    all-slot Q [] after key None None here all = all
    all-slot Q [] after key None (Some y) here all = (here, all)
    all-slot Q [] after key (Some x) None here all = all.1
    all-slot Q [] after key (Some x) (Some y) here all = (here, all.1)
    all-slot Q (e ∷ before) after key was now here all = (all.0, all-slot Q before after key was now here all.1)

    -- the order of the keys stays
    pub ordered-slot : (before after : List (K × X)) (key : K) (was now : Option X) → IsAround before key after
        → IsStrictlySortedBy cmp (keys_of (slot before key was after)) → IsStrictlySortedBy cmp (keys_of (slot before key now after))
    unfolding IsStrictlySortedBy
    ordered-slot [] after key None None i ordered = ordered
    ordered-slot [] after key None (Some y) i ordered = (i.below, ordered)
    ordered-slot [] after key (Some x) None i ordered = ordered.1
    ordered-slot [] after key (Some x) (Some y) i ordered = (i.below, ordered.1)
    ordered-slot (e ∷ before) after key was now i ordered = (
      all-slot (λ k. cmp e.0 k ≡ Less) before after key was now (o.antisymm e.0 key ∙ ap ordering_reverse i.above.0) ordered.0,
      ordered-slot before after key was now (record { above = i.above.1; below = i.below }) ordered.1,
    )

  module _ {X Y : Type 0} (h : X → Option Y) where
    -- what a table gives of the values, by key
    abbrev pub given : K × X → Option (K × Y)
    given e = option_map (λ y. (e.0, y)) (h e.1)

    pub given-slot : (before after : List (K × X)) (key : K) (was : Option X)
        → filter_map given (slot before key was after) ≡ slot (filter_map given before) key (option_and_then h was) (filter_map given after)
    given-slot before after key was = filter_map-append given before (cons_option (option_map (λ x. (key, x)) was) after) ∙ at was
      where
        at : (was : Option X) → filter_map given before ++ filter_map given (cons_option (option_map (λ x. (key, x)) was) after)
            ≡ slot (filter_map given before) key (option_and_then h was) (filter_map given after)
        at None = refl
        at (Some x) = refl

    all-given : (Q : K → Type 0) (es : List (K × X)) → AllByRecursion Q (keys_of es) → AllByRecursion Q (keys_of (filter_map given es))
    all-given Q [] all = tt
    all-given Q (e ∷ es) all = at (h e.1) all.0 (all-given Q es all.1)
      where
        at : (r : Option Y) → Q e.0 → AllByRecursion Q (keys_of (filter_map given es)) → AllByRecursion Q (keys_of (cons_option (option_map (λ y. (e.0, y)) r) (filter_map given es)))
        at None here rest = rest
        at (Some y) here rest = (here, rest)

    pub around-given : (before after : List (K × X)) (key : K) → IsAround before key after → IsAround (filter_map given before) key (filter_map given after)
    around-given before after key i = record { above = all-given (λ k. cmp key k ≡ Greater) before i.above; below = all-given (λ k. cmp key k ≡ Less) after i.below }

  module _ {X Y : Type 0} (g : X → Y) where
    abbrev pub with : List (K × X) → List (K × Y)
    with es = map (λ e. (e.0, g e.1)) es

    pub map-slot : (before after : List (K × X)) (key : K) (was : Option X) → with (slot before key was after) ≡ slot (with before) key (option_map g was) (with after)
    map-slot before after key was = map-append (λ e. (e.0, g e.1)) before (cons_option (option_map (λ x. (key, x)) was) after) ∙ at was
      where
        at : (was : Option X) → with before ++ with (cons_option (option_map (λ x. (key, x)) was) after) ≡ slot (with before) key (option_map g was) (with after)
        at None = refl
        at (Some x) = refl

    all-map : (Q : K → Type 0) (es : List (K × X)) → AllByRecursion Q (keys_of es) → AllByRecursion Q (keys_of (with es))
    all-map Q [] all = tt
    all-map Q (e ∷ es) all = (all.0, all-map Q es all.1)

    pub around-map : (before after : List (K × X)) (key : K) → IsAround before key after → IsAround (with before) key (with after)
    around-map before after key i = record { above = all-map (λ k. cmp key k ≡ Greater) before i.above; below = all-map (λ k. cmp key k ≡ Less) after i.below }
