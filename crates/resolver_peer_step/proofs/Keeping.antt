-- Lists of which a part is kept, and what is made of them.
use Rattle.std.proofs.Common.{◌≡◌, refl, ap, sym, ◌∙◌, Bool, true, false, cond, List, [], ◌∷◌, map, filter, find, Option, None, Some, IfSome}
use Rattle.std.specs.Cmp.{IsTotalOrder}
use Rattle.std.specs.List.{AllByRecursion, cons_option, filter_map}
use Rattle.std.specs.List.Sorted.{IsStrictlySortedBy}
use Rattle.std.specs.BTreeSet.{insert_key}
use Rattle.std.specs.Ordering.{is_eq, match_ordering, ordering_reverse}
use Rattle.std.specs.declared.cmp.Ordering.{Ordering}
use Rattle.std.specs.declared.cmp.Ordering.TheVariants.{Less, Equal, Greater}
use Rattle.resolver_priority_set.proofs.Ordered.{above-less, insert_key-front}

module _ {X : Type 0} where
  -- what holds of every item holds of those of a list
  pub all-by : (Q : X → Type 0) → ((x : X) → Q x) → (xs : List X) → AllByRecursion Q xs
  all-by Q is [] = tt
  all-by Q is (x ∷ xs) = (is x, all-by Q is xs)

  -- what follows from a property of all items holds of all
  pub all-imply : (Q R : X → Type 0) → ((x : X) → Q x → R x) → (xs : List X) → AllByRecursion Q xs → AllByRecursion R xs
  all-imply Q R imply [] all = tt
  all-imply Q R imply (x ∷ xs) all = (imply x all.0, all-imply Q R imply xs all.1)

  -- two properties of all items
  pub all-both : (Q R : X → Type 0) → (xs : List X) → AllByRecursion Q xs → AllByRecursion R xs → AllByRecursion (λ x. Q x × R x) xs
  all-both Q R [] all more = tt
  all-both Q R (x ∷ xs) all more = ((all.0, more.0), all-both Q R xs all.1 more.1)

  -- what holds of all items holds of those that are kept
  pub all-kept : (Q : X → Type 0) (p : X → Bool) (xs : List X) → AllByRecursion Q xs → AllByRecursion Q (filter p xs)
  all-kept Q p [] all = tt
  all-kept Q p (x ∷ xs) all = at (p x) (all-kept Q p xs all.1)
    where
      at : (b : Bool) → AllByRecursion Q (filter p xs) → AllByRecursion Q (cond b (x ∷ filter p xs) (filter p xs))
      at true rest = (all.0, rest)
      at false rest = rest

  -- nothing is kept
  pub none-kept : (xs : List X) → filter (λ x. false) xs ≡ []
  none-kept [] = refl
  none-kept (x ∷ xs) = none-kept xs

module _ {X Y : Type 0} where
  -- what holds of what is made of each item
  pub all-map : (Q : Y → Type 0) (g : X → Y) (xs : List X) → AllByRecursion (λ x. Q (g x)) xs → AllByRecursion Q (map g xs)
  all-map Q g [] all = tt
  all-map Q g (x ∷ xs) all = (all.0, all-map Q g xs all.1)

  -- the same backwards
  pub all-map-back : (Q : Y → Type 0) (g : X → Y) (xs : List X) → AllByRecursion Q (map g xs) → AllByRecursion (λ x. Q (g x)) xs
  all-map-back Q g [] all = tt
  all-map-back Q g (x ∷ xs) all = (all.0, all-map-back Q g xs all.1)

  -- what is made of the part that is kept is the part that is kept of what is made
  pub kept-map : (g : X → Y) (p : Y → Bool) (q : X → Bool) (xs : List X) → AllByRecursion (λ x. p (g x) ≡ q x) xs → filter p (map g xs) ≡ map g (filter q xs)
  kept-map g p q [] all = refl
  kept-map g p q (x ∷ xs) all = rw (all.0, kept-map g p q xs all.1) (at (q x))
    where
      at : (b : Bool) → cond b (g x ∷ map g (filter q xs)) (map g (filter q xs)) ≡ map g (cond b (x ∷ filter q xs) (filter q xs))
      at true = refl
      at false = refl

  -- the same of a table that has some of the items
  pub kept-given : (h : X → Option Y) (p : Y → Bool) (q : X → Bool) (xs : List X) → AllByRecursion (λ x. IfSome (h x) (λ y. p y ≡ q x)) xs
      → filter p (filter_map h xs) ≡ filter_map h (filter q xs)
  kept-given h p q [] all = refl
  kept-given h p q (x ∷ xs) all = at (h x) refl (q x) all.0 (kept-given h p q xs all.1)
    where
      at : (o : Option Y) → h x ≡ o → (b : Bool) → IfSome o (λ y. p y ≡ b) → filter p (filter_map h xs) ≡ filter_map h (filter q xs)
          → filter p (cons_option o (filter_map h xs)) ≡ filter_map h (cond b (x ∷ filter q xs) (filter q xs))
      at None is true here rest = rw is rest
      at None is false here rest = rest
      at (Some y) is true here rest = rw (here, is, rest) refl
      at (Some y) is false here rest = rw here rest

-- Where one passes, none after it does.
abbrev pub IsSingle : {K : Type 0} → (K → Bool) → List K → Type 0
IsSingle test [] = Unit {0}
IsSingle test (k ∷ ks) = (test k ≡ true → find test ks ≡ None) × IsSingle test ks

module _ {K : Type 0} {d : K → K → Ordering} (o : IsTotalOrder d) where
  -- no two are equal
  abbrev pub AreApart : List K → Type 0
  AreApart [] = Unit {0}
  AreApart (k ∷ ks) = AllByRecursion (λ e. is_eq (d k e) ≡ false) ks × AreApart ks

  -- put in one after another, the last first
  abbrev pub in_turn : List K → List K
  in_turn [] = []
  in_turn (k ∷ ks) = insert_key d (in_turn ks) k

  -- what holds of all items, and of one that is put in
  all-put : (Q : K → Type 0) (ks : List K) (k : K) → Q k → AllByRecursion Q ks → AllByRecursion Q (insert_key d ks k)
  all-put Q [] k here all = (here, tt)
  all-put Q (e ∷ ks) k here all = at (d k e) (all-put Q ks k here all.1)
    where
      at : (r : Ordering) → AllByRecursion Q (insert_key d ks k) → AllByRecursion Q (match_ordering r (k ∷ e ∷ ks) (e ∷ ks) (e ∷ insert_key d ks k))
      at Less rest = (here, all)
      at Equal rest = all
      at Greater rest = (all.0, rest)

  -- what holds of all items holds of them in their order
  pub all-in_turn : (Q : K → Type 0) (ks : List K) → AllByRecursion Q ks → AllByRecursion Q (in_turn ks)
  all-in_turn Q [] all = tt
  all-in_turn Q (k ∷ ks) all = all-put Q (in_turn ks) k all.0 (all-in_turn Q ks all.1)

  -- an item that is put in keeps the order
  ordered-put : (k : K) (ks : List K) → IsStrictlySortedBy d ks → IsStrictlySortedBy d (insert_key d ks k)
  unfolding IsStrictlySortedBy
  ordered-put k [] ordered = (tt, tt)
  ordered-put k (e ∷ ks) ordered = at (d k e) refl (ordered-put k ks ordered.1)
    where
      at : (r : Ordering) → d k e ≡ r → IsStrictlySortedBy d (insert_key d ks k) → IsStrictlySortedBy d (match_ordering r (k ∷ e ∷ ks) (e ∷ ks) (e ∷ insert_key d ks k))
      at Less is rest = ((is, above-less o k e ks is ordered.0), ordered)
      at Equal is rest = ordered
      at Greater is rest = (all-put (λ y. d e y ≡ Less) ks k (o.antisymm e k ∙ ap ordering_reverse is) ordered.0, rest)

  -- what is put in one after another is in order
  ordered-in_turn : (ks : List K) → IsStrictlySortedBy d (in_turn ks)
  unfolding IsStrictlySortedBy
  ordered-in_turn [] = tt
  ordered-in_turn (k ∷ ks) = ordered-put k (in_turn ks) (ordered-in_turn ks)

  -- what is kept of a list in order with one more item
  kept-put : (p : K → Bool) (k : K) (ks : List K) → IsStrictlySortedBy d ks → AllByRecursion (λ e. is_eq (d k e) ≡ false) ks
      → filter p (insert_key d ks k) ≡ cond (p k) (insert_key d (filter p ks) k) (filter p ks)
  unfolding IsStrictlySortedBy
  kept-put p k [] ordered apart = refl
  kept-put p k (e ∷ ks) ordered apart = at (d k e) refl (p e) refl (p k) refl (kept-put p k ks ordered.1 apart.1) apart.0
    where
      at : (r : Ordering) → d k e ≡ r → (there : Bool) → p e ≡ there → (here : Bool) → p k ≡ here → filter p (insert_key d ks k) ≡ cond here (insert_key d (filter p ks) k) (filter p ks) → is_eq r ≡ false
          → filter p (match_ordering r (k ∷ e ∷ ks) (e ∷ ks) (e ∷ insert_key d ks k))
          ≡ cond here (insert_key d (cond there (e ∷ filter p ks) (filter p ks)) k) (cond there (e ∷ filter p ks) (filter p ks))
      at Less is true e_is true k_is rest other = rw (k_is, e_is, is) refl
      at Less is true e_is false k_is rest other = rw (k_is, e_is) refl
      at Less is false e_is true k_is rest other =
          rw (k_is, e_is) (sym (insert_key-front o k (filter p ks) (all-kept (λ y. d k y ≡ Less) p ks (above-less o k e ks is ordered.0))))
      at Less is false e_is false k_is rest other = rw (k_is, e_is) refl
      at Equal is there e_is here k_is rest other = absurd (clash other)
        where
          clash : true ≡ false → ⊥
          clash same = cc
      at Greater is true e_is true k_is rest other = rw (e_is, is, rest) refl
      at Greater is true e_is false k_is rest other = rw (e_is, rest) refl
      at Greater is false e_is here k_is rest other = rw e_is rest

  -- an item that is kept is put in, and another one is not
  kept-pushed : (p : K → Bool) (k : K) (ks : List K) → cond (p k) (insert_key d (in_turn (filter p ks)) k) (in_turn (filter p ks)) ≡ in_turn (filter p (k ∷ ks))
  kept-pushed p k ks = at (p k)
    where
      at : (b : Bool) → cond b (insert_key d (in_turn (filter p ks)) k) (in_turn (filter p ks)) ≡ in_turn (cond b (k ∷ filter p ks) (filter p ks))
      at true = refl
      at false = refl

  -- a part that is kept stands in its order
  pub kept-in_turn : (p : K → Bool) (ks : List K) → AreApart ks → filter p (in_turn ks) ≡ in_turn (filter p ks)
  kept-in_turn p [] apart = refl
  kept-in_turn p (k ∷ ks) apart =
      kept-put p k (in_turn ks) (ordered-in_turn ks) (all-in_turn (λ e. is_eq (d k e) ≡ false) ks apart.0)
      ∙ ap (λ es. cond (p k) (insert_key d es k) es) (kept-in_turn p ks apart.1) ∙ kept-pushed p k ks

  -- what is found in a list with one more item
  find-put : (test : K → Bool) (k : K) (ks : List K) → AllByRecursion (λ e. is_eq (d k e) ≡ false) ks → (test k ≡ true → find test ks ≡ None)
      → find test (insert_key d ks k) ≡ cond (test k) (Some k) (find test ks)
  find-put test k [] apart single = refl
  find-put test k (e ∷ ks) apart single = at (d k e) apart.0 (test k) refl (test e) refl (find-put test k ks apart.1) single
    where
      clash : {X : Type 0} → true ≡ false → X
      clash same = absurd cc

      none : Some e ≡ None → ⊥
      none same = cc

      at : (r : Ordering) → is_eq r ≡ false → (here : Bool) → test k ≡ here → (there : Bool) → test e ≡ there
          → ((here ≡ true → find test ks ≡ None) → find test (insert_key d ks k) ≡ cond here (Some k) (find test ks)) → (here ≡ true → cond there (Some e) (find test ks) ≡ None)
          → find test (match_ordering r (k ∷ e ∷ ks) (e ∷ ks) (e ∷ insert_key d ks k)) ≡ cond here (Some k) (cond there (Some e) (find test ks))
      at Less other here k_is there e_is rest single = rw (k_is, e_is) refl
      at Equal other here k_is there e_is rest single = clash other
      at Greater other true k_is true e_is rest single = absurd (none (single refl))
      at Greater other true k_is false e_is rest single = rw e_is (rest (λ passes. single refl))
      at Greater other false k_is true e_is rest single = rw e_is refl
      at Greater other false k_is false e_is rest single = rw e_is (rest (λ passes. clash (sym passes)))

  -- the order doesn't matter to what is found
  pub find-in_turn : (test : K → Bool) (ks : List K) → AreApart ks → IsSingle test ks → find test (in_turn ks) ≡ find test ks
  find-in_turn test [] apart single = refl
  find-in_turn test (k ∷ ks) apart single =
      find-put test k (in_turn ks) (all-in_turn (λ e. is_eq (d k e) ≡ false) ks apart.0) (λ passes. find-in_turn test ks apart.1 single.1 ∙ single.0 passes)
      ∙ ap (λ o. cond (test k) (Some k) o) (find-in_turn test ks apart.1 single.1)
