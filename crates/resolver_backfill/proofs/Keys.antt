-- Keys in their order: put at their places, found, and removed.
use Rattle.std.proofs.Common.{◌≡◌, ◌≢◌, ◌∙◌, sym, ap, refl, Bool, true, false, not, ◌&&◌, ◌||◌, cond, true≢false, ℕ, zero, suc, ◌<◌, List, [], ◌∷◌, ◌++◌, length, Option, None, Some, IsSome, IfSome, ◌↔◌, filter, take, get_or, arith}
use Rattle.std.proofs.lemmas.List.Folds.{list_any-append}
use Rattle.std.specs.List.{AllByRecursion, find, list_any, slice_get}
use Rattle.std.specs.List.Sorted.{IsStrictlySortedBy}
use Rattle.std.specs.Cmp.{IsTotalOrder}
use Rattle.std.specs.BTreeMap.{is_at}
use Rattle.std.specs.BTreeSet.{insert_key}
use Rattle.std.specs.Set.{remove_key}
use Rattle.std.specs.Ordering.{is_eq, is_lt, match_ordering, ordering_reverse}
use Rattle.std.specs.declared.cmp.Ordering.{Ordering}
use Rattle.std.specs.declared.cmp.Ordering.TheVariants.{Less, Equal, Greater}
use Rattle.resolver_messages.proofs.Right.{flips-by, follows-by}
use Rattle.resolver_backfill.specs.Alike.{has_alike}
use Rattle.resolver_backfill.specs.Plans.{from_bound, has, is_below, lacking, met, unmet, with_keys}

module _ {K : Type 0} where
  -- tests that agree on each item leave the same
  filter-alike : (p q : K → Bool) (xs : List K) → AllByRecursion (λ x. p x ≡ q x) xs → filter p xs ≡ filter q xs
  filter-alike p q [] all = refl
  filter-alike p q (x ∷ xs) all = ap (λ b. cond b (x ∷ filter p xs) (filter p xs)) all.0 ∙ ap (λ rest. cond (q x) (x ∷ rest) rest) (filter-alike p q xs all.1)

  -- what holds of each item for a reason
  all-by : (P Q : K → Type 0) → ((x : K) → P x → Q x) → (xs : List K) → AllByRecursion P xs → AllByRecursion Q xs
  all-by P Q why [] all = all
  all-by P Q why (x ∷ xs) all = (why x all.0, all-by P Q why xs all.1)

  all-of : (P : K → Type 0) → ((x : K) → P x) → (xs : List K) → AllByRecursion P xs
  all-of P why [] = tt
  all-of P why (x ∷ xs) = (why x, all-of P why xs)

  -- what holds of each item holds of those that a filter leaves
  all-filter : (P : K → Type 0) (p : K → Bool) (xs : List K) → AllByRecursion P xs → AllByRecursion P (filter p xs)
  all-filter P p [] all = tt
  all-filter P p (x ∷ xs) all = cases (p x) (all-filter P p xs all.1) where
    cases : (b : Bool) → AllByRecursion P (filter p xs) → AllByRecursion P (cond b (x ∷ filter p xs) (filter p xs))
    cases true rest = (all.0, rest)
    cases false rest = rest

  -- a test that no item passes leaves nothing, and the other way round
  filter-none : (p : K → Bool) (xs : List K) → AllByRecursion (λ x. p x ≡ false) xs → filter p xs ≡ []
  filter-none p [] all = refl
  filter-none p (x ∷ xs) all = ap (λ b. cond b (x ∷ filter p xs) (filter p xs)) all.0 ∙ filter-none p xs all.1

  none-filter : (p : K → Bool) (xs : List K) → filter p xs ≡ [] → AllByRecursion (λ x. p x ≡ false) xs
  none-filter p [] is = tt
  none-filter p (x ∷ xs) is = cases (p x) refl is (none-filter p xs) where
    cases : (b : Bool) → p x ≡ b → cond b (x ∷ filter p xs) (filter p xs) ≡ [] → (filter p xs ≡ [] → AllByRecursion (λ x. p x ≡ false) xs) → AllByRecursion (λ x. p x ≡ false) (x ∷ xs)
    cases true e is rest = absurd (let wrong = is in cc)
    cases false e is rest = (e, rest is)

  -- a test that each item passes leaves all
  filter-all : (p : K → Bool) (xs : List K) → AllByRecursion (λ x. p x ≡ true) xs → filter p xs ≡ xs
  filter-all p [] all = refl
  filter-all p (x ∷ xs) all = ap (λ b. cond b (x ∷ filter p xs) (filter p xs)) all.0 ∙ ap (λ rest. x ∷ rest) (filter-all p xs all.1)

  -- what is found is an item
  found-all : (P : K → Type 0) (test : K → Bool) (xs : List K) (own : K) → AllByRecursion P xs → find test xs ≡ Some own → P own
  found-all P test [] own all is = absurd (let wrong = is in cc)
  found-all P test (x ∷ xs) own all is = cases (test x) is (found-all P test xs own all.1) where
    same : Some x ≡ Some own → x ≡ own
    same e = cc

    cases : (b : Bool) → cond b (Some x) (find test xs) ≡ Some own → (find test xs ≡ Some own → P own) → P own
    cases true is rest = let e = same is in rw (sym e) all.0
    cases false is rest = rest is

module _ {K : Type 0} (cmp : K → K → Ordering) (total : IsTotalOrder cmp) where
  -- the first key is below the others, which are in order
  sorted-first : (w : K) (ws : List K) → IsStrictlySortedBy cmp (w ∷ ws) → AllByRecursion (λ y. cmp w y ≡ Less) ws
  unfolding IsStrictlySortedBy
  sorted-first w ws sorted = sorted.0

  sorted-rest : (w : K) (ws : List K) → IsStrictlySortedBy cmp (w ∷ ws) → IsStrictlySortedBy cmp ws
  unfolding IsStrictlySortedBy
  sorted-rest w ws sorted = sorted.1

  reflexive : (k : K) → cmp k k ≡ Equal
  reflexive k = own (cmp k k) (total.antisymm k k) where
    own : (o : Ordering) → o ≡ ordering_reverse o → o ≡ Equal
    own Less is = absurd (let wrong = is in cc)
    own Equal is = refl
    own Greater is = absurd (let wrong = is in cc)

  equal-by : (o : Ordering) → is_eq o ≡ true → o ≡ Equal
  equal-by Less is = absurd (let wrong = is in cc)
  equal-by Equal is = refl
  equal-by Greater is = absurd (let wrong = is in cc)

  -- one more key to be looked for
  pub has-last : (keys : List K) (key x : K) → has cmp (keys ++ key ∷ []) x ≡ (has cmp keys x || is_eq (cmp x key))
  has-last keys key x = list_any-append (is_at (cmp x)) keys (key ∷ []) ∙ ap (λ b. list_any (is_at (cmp x)) keys || b) (last (is_eq (cmp x key))) where
    last : (b : Bool) → (b || false) ≡ b
    last true = refl
    last false = refl

  -- a key that is below all others goes first
  insert-first : (k : K) (xs : List K) → AllByRecursion (λ y. cmp k y ≡ Less) xs → insert_key cmp xs k ≡ k ∷ xs
  insert-first k [] all = refl
  insert-first k (x ∷ xs) all = ap (λ o. match_ordering o (k ∷ x ∷ xs) (x ∷ xs) (x ∷ insert_key cmp xs k)) all.0

  -- where the key is equal to one, it is none of those above it
  above : (key w : K) (xs : List K) → is_eq (cmp key w) ≡ true → AllByRecursion (λ y. cmp w y ≡ Less) xs → AllByRecursion (λ y. is_eq (cmp y key) ≡ false) xs
  above key w xs same all = all-by (λ y. cmp w y ≡ Less) (λ y. is_eq (cmp y key) ≡ false) (λ y less.
      flips-by cmp total y key ∙ follows-by cmp total key w y same ∙ ap is_eq less) xs all

  below : (a b : K) → cmp a b ≡ Less → cmp b a ≡ Greater
  below a b less = total.antisymm b a ∙ ap ordering_reverse less

  -- A wanted key that is looked for joins those that were met.
  pub met-found : (p : K → Bool) (key own : K) (ws : List K) → IsStrictlySortedBy cmp ws → find (is_at (cmp key)) ws ≡ Some own
      → insert_key cmp (filter p ws) own ≡ filter (λ x. p x || is_eq (cmp x key)) ws
  met-found p key own [] sorted is = absurd (let wrong = is in cc)
  met-found p key own (w ∷ ws) sorted is = cases (is_eq (cmp key w)) refl is (met-found p key own ws (sorted-rest w ws sorted)) where
    same : Some w ≡ Some own → w ≡ own
    same e = cc

    here : (b : Bool) → insert_key cmp (cond b (w ∷ filter p ws) (filter p ws)) w ≡ cond (b || true) (w ∷ filter p ws) (filter p ws)
    here true = ap (λ o. match_ordering o (w ∷ w ∷ filter p ws) (w ∷ filter p ws) (w ∷ insert_key cmp (filter p ws) w)) (reflexive w)
    here false = insert-first w (filter p ws) (all-filter (λ y. cmp w y ≡ Less) p ws (sorted-first w ws sorted))

    there : (b : Bool) → cmp own w ≡ Greater → insert_key cmp (filter p ws) own ≡ filter (λ x. p x || is_eq (cmp x key)) ws
        → insert_key cmp (cond b (w ∷ filter p ws) (filter p ws)) own ≡ cond (b || false) (w ∷ filter (λ x. p x || is_eq (cmp x key)) ws) (filter (λ x. p x || is_eq (cmp x key)) ws)
    there true greater rest = ap (λ o. match_ordering o (own ∷ w ∷ filter p ws) (w ∷ filter p ws) (w ∷ insert_key cmp (filter p ws) own)) greater ∙ ap (λ xs. w ∷ xs) rest
    there false greater rest = rest

    joins : (b c : Bool) → c ≡ false → b ≡ (b || c)
    joins true c is = refl
    joins false c is = sym is

    cases : (b : Bool) → is_eq (cmp key w) ≡ b → cond b (Some w) (find (is_at (cmp key)) ws) ≡ Some own
        → (find (is_at (cmp key)) ws ≡ Some own → insert_key cmp (filter p ws) own ≡ filter (λ x. p x || is_eq (cmp x key)) ws)
        → insert_key cmp (filter p (w ∷ ws)) own ≡ filter (λ x. p x || is_eq (cmp x key)) (w ∷ ws)
    cases true e is rest =
        ap (insert_key cmp (filter p (w ∷ ws))) (sym (same is))
        ∙ here (p w)
        ∙ ap (λ xs. cond (p w || true) (w ∷ xs) xs) (filter-alike p (λ x. p x || is_eq (cmp x key)) ws
        (all-by (λ y. is_eq (cmp y key) ≡ false) (λ y. p y ≡ (p y || is_eq (cmp y key))) (λ y no. joins (p y) (is_eq (cmp y key)) no) ws (above key w ws e (sorted-first w ws sorted))))
        ∙ ap (λ b. cond (p w || b) (w ∷ filter (λ x. p x || is_eq (cmp x key)) ws) (filter (λ x. p x || is_eq (cmp x key)) ws)) (sym (flips-by cmp total w key ∙ e))
    cases false e is rest =
        there (p w) (below w own (found-all (λ y. cmp w y ≡ Less) (is_at (cmp key)) ws own (sorted-first w ws sorted) is)) (rest is)
        ∙ ap (λ b. cond (p w || b) (w ∷ filter (λ x. p x || is_eq (cmp x key)) ws) (filter (λ x. p x || is_eq (cmp x key)) ws)) (sym (flips-by cmp total w key ∙ e))

  -- A key that isn't wanted meets none.
  pub met-none : (p : K → Bool) (key : K) (ws : List K) → find (is_at (cmp key)) ws ≡ None → filter p ws ≡ filter (λ x. p x || is_eq (cmp x key)) ws
  met-none p key [] is = refl
  met-none p key (w ∷ ws) is = cases (is_eq (cmp key w)) refl is (met-none p key ws) where
    joins : (b c : Bool) → c ≡ false → b ≡ (b || c)
    joins true c is = refl
    joins false c is = sym is

    cases : (b : Bool) → is_eq (cmp key w) ≡ b → cond b (Some w) (find (is_at (cmp key)) ws) ≡ None
        → (find (is_at (cmp key)) ws ≡ None → filter p ws ≡ filter (λ x. p x || is_eq (cmp x key)) ws)
        → filter p (w ∷ ws) ≡ filter (λ x. p x || is_eq (cmp x key)) (w ∷ ws)
    cases true e is rest = absurd (let wrong = is in cc)
    cases false e is rest =
        ap (λ xs. cond (p w) (w ∷ xs) xs) (rest is)
        ∙ ap (λ b. cond b (w ∷ filter (λ x. p x || is_eq (cmp x key)) ws) (filter (λ x. p x || is_eq (cmp x key)) ws)) (joins (p w) (is_eq (cmp w key)) (flips-by cmp total w key ∙ e))

  -- A key that is removed is one less that is left.
  pub unmet-removed : (p : K → Bool) (key : K) (ws : List K) → IsStrictlySortedBy cmp ws
      → remove_key (is_at (cmp key)) (filter p ws) ≡ filter (λ x. p x && not (is_eq (cmp x key))) ws
  unmet-removed p key [] sorted = refl
  unmet-removed p key (w ∷ ws) sorted = cases (is_eq (cmp key w)) refl (p w) (unmet-removed p key ws (sorted-rest w ws sorted)) where
    left : List K
    left = filter (λ x. p x && not (is_eq (cmp x key))) ws

    stays : (b c : Bool) → c ≡ false → b ≡ (b && not c)
    stays true c is = ap not (sym is)
    stays false c is = refl

    flip : (b : Bool) → is_eq (cmp key w) ≡ b → (c : Bool) → cond (c && not b) (w ∷ left) left ≡ cond (c && not (is_eq (cmp w key))) (w ∷ left) left
    flip b e c = ap (λ x. cond (c && not x) (w ∷ left) left) (sym (flips-by cmp total w key ∙ e))

    cases : (b : Bool) → is_eq (cmp key w) ≡ b → (c : Bool) → remove_key (is_at (cmp key)) (filter p ws) ≡ left → remove_key (is_at (cmp key)) (cond c (w ∷ filter p ws) (filter p ws)) ≡ cond (c && not (is_eq (cmp w key))) (w ∷ left) left
    cases true e true rest =
        ap (λ b. cond b (filter p ws) (w ∷ remove_key (is_at (cmp key)) (filter p ws))) e
        ∙ filter-alike p (λ x. p x && not (is_eq (cmp x key))) ws
        (all-by (λ y. is_eq (cmp y key) ≡ false) (λ y. p y ≡ (p y && not (is_eq (cmp y key)))) (λ y no. stays (p y) (is_eq (cmp y key)) no) ws (above key w ws e (sorted-first w ws sorted)))
        ∙ flip true e true
    cases true e false rest = rest ∙ flip true e false
    cases false e true rest =
        ap (λ b. cond b (filter p ws) (w ∷ remove_key (is_at (cmp key)) (filter p ws))) e
        ∙ ap (λ xs. w ∷ xs) rest
        ∙ flip false e true
    cases false e false rest = rest ∙ flip false e false

  -- keys that a test lets go leave no trace
  filter-insert : (p : K → Bool) (k : K) (xs : List K) → p k ≡ false → filter p (insert_key cmp xs k) ≡ filter p xs
  filter-insert p k [] goes = ap (λ b. cond b (k ∷ []) []) goes
  filter-insert p k (x ∷ xs) goes = cases (cmp k x) (filter-insert p k xs goes) where
    cases : (o : Ordering) → filter p (insert_key cmp xs k) ≡ filter p xs → filter p (match_ordering o (k ∷ x ∷ xs) (x ∷ xs) (x ∷ insert_key cmp xs k)) ≡ filter p (x ∷ xs)
    cases Less rest = ap (λ b. cond b (k ∷ filter p (x ∷ xs)) (filter p (x ∷ xs))) goes
    cases Equal rest = refl
    cases Greater rest = ap (λ ys. cond (p x) (x ∷ ys) ys) rest

  filter-with : (p : K → Bool) (keys more : List K) → AllByRecursion (λ k. p k ≡ false) more → filter p (with_keys cmp keys more) ≡ filter p keys
  filter-with p keys [] all = refl
  filter-with p keys (k ∷ more) all = filter-with p (insert_key cmp keys k) more all.1 ∙ filter-insert p k keys all.0

  -- each key of a list is found there
  pub has-own : (keys : List K) → AllByRecursion (λ k. has cmp keys k ≡ true) keys
  has-own [] = tt
  has-own (k ∷ keys) = (ap (λ o. is_eq o || has cmp keys k) (reflexive k), all-by (λ x. has cmp keys x ≡ true) (λ x. has cmp (k ∷ keys) x ≡ true) (λ x h. more (is_eq (cmp x k)) (has cmp keys x) h) keys (has-own keys)) where
    more : (a b : Bool) → b ≡ true → (a || b) ≡ true
    more true b h = refl
    more false b h = h

  -- New keys that are removed again leave what was there.
  pub taken-back : (ws keys : List K) → met cmp ws keys ≡ [] → unmet cmp (with_keys cmp ws keys) keys ≡ ws
  taken-back ws keys none =
      filter-with (λ k. not (has cmp keys k)) ws keys (all-by (λ k. has cmp keys k ≡ true) (λ k. not (has cmp keys k) ≡ false) (λ k h. ap not h) keys (has-own keys))
      ∙ filter-all (λ k. not (has cmp keys k)) ws (all-by (λ k. has cmp keys k ≡ false) (λ k. not (has cmp keys k) ≡ true) (λ k h. ap not h) ws (none-filter (has cmp keys) ws none))

  has-fewer : (i : ℕ) (keys : List K) (x : K) → has cmp keys x ≡ false → has cmp (take i keys) x ≡ false
  has-fewer zero keys x h = refl
  has-fewer (suc i) [] x h = refl
  has-fewer (suc i) (k ∷ keys) x h = let both = neither (is_eq (cmp x k)) (has cmp keys x) h in ap (λ b. b || has cmp (take i keys) x) both.0 ∙ has-fewer i keys x both.1 where
    neither : (a b : Bool) → (a || b) ≡ false → (a ≡ false) × (b ≡ false)
    neither true b h = absurd (let wrong = h in cc)
    neither false b h = (refl, h)

  -- where none of the keys is wanted, none of the first ones is
  pub met-fewer : (i : ℕ) (ws keys : List K) → met cmp ws keys ≡ [] → met cmp ws (take i keys) ≡ []
  met-fewer i ws keys none = filter-none (has cmp (take i keys)) ws (all-by (λ x. has cmp keys x ≡ false) (λ x. has cmp (take i keys) x ≡ false) (λ x h. has-fewer i keys x h) ws (none-filter (has cmp keys) ws none))

  -- a key is found where one more was put, if it is that one or was there
  has-insert : (xs : List K) (k q : K) → has cmp (insert_key cmp xs k) q ≡ (is_eq (cmp q k) || has cmp xs q)
  has-insert [] k q = refl
  has-insert (x ∷ xs) k q = cases (cmp k x) refl (has-insert xs k q) where
    swapped : (a b c : Bool) → (b || (a || c)) ≡ (a || (b || c))
    swapped true true c = refl
    swapped true false c = refl
    swapped false b c = refl

    twice : (b c : Bool) → (b || c) ≡ (b || (b || c))
    twice true c = refl
    twice false c = refl

    cases : (o : Ordering) → cmp k x ≡ o → has cmp (insert_key cmp xs k) q ≡ (is_eq (cmp q k) || has cmp xs q) → has cmp (match_ordering o (k ∷ x ∷ xs) (x ∷ xs) (x ∷ insert_key cmp xs k)) q ≡ (is_eq (cmp q k) || (is_eq (cmp q x) || has cmp xs q))
    cases Less e rest = refl
    cases Equal e rest =
        twice (is_eq (cmp q x)) (has cmp xs q)
        ∙ ap (λ b. b || (is_eq (cmp q x) || has cmp xs q)) (flips-by cmp total q x ∙ sym (follows-by cmp total k x q (ap is_eq e)) ∙ flips-by cmp total k q)
    cases Greater e rest = ap (λ b. is_eq (cmp q x) || b) rest ∙ swapped (is_eq (cmp q k)) (is_eq (cmp q x)) (has cmp xs q)

  -- a key is found where some more were put, if it was there or is one of them
  pub has-with : (xs more : List K) (q : K) → has cmp (with_keys cmp xs more) q ≡ (has cmp xs q || has cmp more q)
  has-with xs [] q = none (has cmp xs q) where
    none : (b : Bool) → b ≡ (b || false)
    none true = refl
    none false = refl
  has-with xs (k ∷ more) q =
      has-with (insert_key cmp xs k) more q
      ∙ ap (λ b. b || has cmp more q) (has-insert xs k q)
      ∙ around (is_eq (cmp q k)) (has cmp xs q) (has cmp more q) where
        around : (a b c : Bool) → ((a || b) || c) ≡ (b || (a || c))
        around true true c = refl
        around true false c = refl
        around false true c = refl
        around false false c = refl

  -- what a filter leaves has a key, if it leaves what is equal to it and that was there
  pub has-filter : (p : K → Bool) (b : Bool) (q : K) → ((k : K) → is_eq (cmp q k) ≡ true → p k ≡ b) → (xs : List K) → has cmp (filter p xs) q ≡ (b && has cmp xs q)
  has-filter p b q alike [] = none b where
    none : (b : Bool) → false ≡ (b && false)
    none true = refl
    none false = refl
  has-filter p b q alike (x ∷ xs) = cases (p x) refl (is_eq (cmp q x)) refl (has-filter p b q alike xs) where
    other : (b c : Bool) → c ≡ (b && false) → c ≡ false
    other true c is = is
    other false c is = is

    cases : (t : Bool) → p x ≡ t → (e : Bool) → is_eq (cmp q x) ≡ e → has cmp (filter p xs) q ≡ (b && has cmp xs q)
        → has cmp (cond t (x ∷ filter p xs) (filter p xs)) q ≡ (b && (is_eq (cmp q x) || has cmp xs q))
    cases true is true e rest = ap (λ d. d || has cmp (filter p xs) q) e ∙ sym (ap (λ d. d && (is_eq (cmp q x) || has cmp xs q)) (sym (alike x e) ∙ is) ∙ ap (λ d. d || has cmp xs q) e)
    cases true is false e rest = ap (λ d. d || has cmp (filter p xs) q) e ∙ rest ∙ ap (λ d. b && (d || has cmp xs q)) (sym e)
    cases false is true e rest = rest ∙ ap (λ d. d && has cmp xs q) (sym (alike x e) ∙ is) ∙ sym (ap (λ d. d && (is_eq (cmp q x) || has cmp xs q)) (sym (alike x e) ∙ is))
    cases false is false e rest = rest ∙ ap (λ d. b && (d || has cmp xs q)) (sym e)

  -- none of the wanted keys is among those that are lacking
  pub lacking-new : (ws keys : List K) → met cmp ws (lacking cmp ws keys) ≡ []
  lacking-new ws keys = filter-none (has cmp (lacking cmp ws keys)) ws (all-by (λ w. has cmp ws w ≡ true) (λ w. has cmp (lacking cmp ws keys) w ≡ false) (λ w h.
      has-with [] (filter (λ k. not (has cmp ws k)) keys) w
      ∙ has-filter (λ k. not (has cmp ws k)) false w (λ k e. ap not (sym (has_alike cmp total ws w k e) ∙ h)) keys) ws (has-own ws))

  -- the loop that looks for what is lacking: a wanted key is passed over, and another one put at its place
  pub lacking-there : (ws found rest : List K) (key : K) → has cmp ws key ≡ true
      → with_keys cmp found (filter (λ k. not (has cmp ws k)) (key ∷ rest)) ≡ with_keys cmp found (filter (λ k. not (has cmp ws k)) rest)
  lacking-there ws found rest key h = ap (λ b. with_keys cmp found (cond (not b) (key ∷ filter (λ k. not (has cmp ws k)) rest) (filter (λ k. not (has cmp ws k)) rest))) h

  pub lacking-next : (ws found rest : List K) (key : K) → has cmp ws key ≡ false
      → with_keys cmp found (filter (λ k. not (has cmp ws k)) (key ∷ rest)) ≡ with_keys cmp (insert_key cmp found key) (filter (λ k. not (has cmp ws k)) rest)
  lacking-next ws found rest key h = ap (λ b. with_keys cmp found (cond (not b) (key ∷ filter (λ k. not (has cmp ws k)) rest) (filter (λ k. not (has cmp ws k)) rest))) h

  pub with-last : (keys more : List K) (k : K) → with_keys cmp keys (more ++ k ∷ []) ≡ insert_key cmp (with_keys cmp keys more) k
  with-last keys [] k = refl
  with-last keys (x ∷ more) k = with-last (insert_key cmp keys x) more k

  -- the loop that looks for what was met
  pub met-next : (keys : List K) (key own : K) (ws : List K) → IsStrictlySortedBy cmp ws → find (is_at (cmp key)) ws ≡ Some own
      → insert_key cmp (met cmp ws keys) own ≡ met cmp ws (keys ++ key ∷ [])
  met-next keys key own ws sorted is =
      met-found (has cmp keys) key own ws sorted is
      ∙ filter-alike (λ x. has cmp keys x || is_eq (cmp x key)) (has cmp (keys ++ key ∷ [])) ws (all-of (λ x. (has cmp keys x || is_eq (cmp x key)) ≡ has cmp (keys ++ key ∷ []) x) (λ x. sym (has-last keys key x)) ws)

  pub met-past : (keys : List K) (key : K) (ws : List K) → find (is_at (cmp key)) ws ≡ None → met cmp ws keys ≡ met cmp ws (keys ++ key ∷ [])
  met-past keys key ws is =
      met-none (has cmp keys) key ws is
      ∙ filter-alike (λ x. has cmp keys x || is_eq (cmp x key)) (has cmp (keys ++ key ∷ [])) ws (all-of (λ x. (has cmp keys x || is_eq (cmp x key)) ≡ has cmp (keys ++ key ∷ []) x) (λ x. sym (has-last keys key x)) ws)

  pub met-start : (ws : List K) → met cmp ws [] ≡ []
  met-start ws = filter-none (has cmp []) ws (all-of (λ x. has cmp [] x ≡ false) (λ x. refl) ws)

  -- the loop that removes
  pub unmet-next : (keys : List K) (key : K) (ws : List K) → IsStrictlySortedBy cmp ws → remove_key (is_at (cmp key)) (unmet cmp ws keys) ≡ unmet cmp ws (keys ++ key ∷ [])
  unmet-next keys key ws sorted =
      unmet-removed (λ x. not (has cmp keys x)) key ws sorted
      ∙ filter-alike (λ x. not (has cmp keys x) && not (is_eq (cmp x key))) (λ x. not (has cmp (keys ++ key ∷ []) x)) ws
      (all-of (λ x. (not (has cmp keys x) && not (is_eq (cmp x key))) ≡ not (has cmp (keys ++ key ∷ []) x)) (λ x. both (has cmp keys x) (is_eq (cmp x key)) ∙ ap not (sym (has-last keys key x))) ws) where
        both : (a b : Bool) → (not a && not b) ≡ not (a || b)
        both true b = refl
        both false b = refl

  pub unmet-start : (ws : List K) → unmet cmp ws [] ≡ ws
  unmet-start ws = filter-all (λ x. not (has cmp [] x)) ws (all-of (λ x. not (has cmp [] x) ≡ true) (λ x. refl) ws)

  -- a key of a list is found there
  has-at : (keys : List K) (i : ℕ) (key : K) → i < length keys → key ≡ get_or keys i key → has cmp keys key ≡ true
  has-at [] i key below is = absurd (omega (arith, below))
  has-at (k ∷ keys) zero key below is = ap (λ k. is_eq (cmp key k) || has cmp keys key) (sym is) ∙ ap (λ o. is_eq o || has cmp keys key) (reflexive key)
  has-at (k ∷ keys) (suc i) key below is = ap (λ b. is_eq (cmp key k) || b) (has-at keys i key (omega (arith, below)) is) ∙ either (is_eq (cmp key k)) where
    either : (b : Bool) → (b || true) ≡ true
    either true = refl
    either false = refl

  -- a list in which a key is found isn't empty
  found-some : (keys : List K) (key : K) → has cmp keys key ≡ true → keys ≢ []
  found-some keys key found none = absurd (true≢false (sym found ∙ ap (λ ks. has cmp ks key) none))

  -- where one of the keys isn't wanted, some are lacking
  pub lacking-some : (ws keys : List K) (i : ℕ) (key : K) → i < length keys → key ≡ get_or keys i key → has cmp ws key ≡ false → lacking cmp ws keys ≢ []
  lacking-some ws keys i key below is not_there = found-some (lacking cmp ws keys) key
      (has-with [] (filter (λ k. not (has cmp ws k)) keys) key
      ∙ has-filter (λ k. not (has cmp ws k)) true key (λ k e. ap not (sym (has_alike cmp total ws key k e) ∙ not_there)) keys
      ∙ has-at keys i key below is)

  found-has : (key own : K) (ws : List K) → find (is_at (cmp key)) ws ≡ Some own → has cmp ws key ≡ true
  found-has key own [] is = absurd (let wrong = is in cc)
  found-has key own (w ∷ ws) is = cases (is_eq (cmp key w)) is (found-has key own ws) where
    cases : (b : Bool) → cond b (Some w) (find (is_at (cmp key)) ws) ≡ Some own → (find (is_at (cmp key)) ws ≡ Some own → has cmp ws key ≡ true) → (b || has cmp ws key) ≡ true
    cases true is rest = refl
    cases false is rest = rest is

  -- where one of the keys is wanted, some are met
  pub met-some : (ws keys : List K) (i : ℕ) (key own : K) → i < length keys → key ≡ get_or keys i key → find (is_at (cmp key)) ws ≡ Some own → met cmp ws keys ≢ []
  met-some ws keys i key own below is found = found-some (met cmp ws keys) key
      (has-filter (has cmp keys) true key (λ k e. sym (has_alike cmp total keys key k e) ∙ has-at keys i key below is) ws
      ∙ found-has key own ws found)

  -- where none is met, all are left
  pub unmet-all : (ws keys : List K) → met cmp ws keys ≡ [] → unmet cmp ws keys ≡ ws
  unmet-all ws keys none = filter-all (λ k. not (has cmp keys k)) ws (all-by (λ k. has cmp keys k ≡ false) (λ k. not (has cmp keys k) ≡ true) (λ k h. ap not h) ws (none-filter (has cmp keys) ws none))

  -- keys that are removed in turn
  pub unmet-turn : (ws keys : List K) (key : K) → unmet cmp ws (key ∷ keys) ≡ unmet cmp (unmet cmp ws (key ∷ [])) keys
  unmet-turn [] keys key = refl
  unmet-turn (w ∷ ws) keys key = cases (is_eq (cmp w key)) (unmet-turn ws keys key) where
    left : List K
    left = unmet cmp (unmet cmp ws (key ∷ [])) keys

    cases : (b : Bool) → unmet cmp ws (key ∷ keys) ≡ left
        → cond (not (b || has cmp keys w)) (w ∷ unmet cmp ws (key ∷ keys)) (unmet cmp ws (key ∷ keys))
        ≡ unmet cmp (cond (not (b || false)) (w ∷ unmet cmp ws (key ∷ [])) (unmet cmp ws (key ∷ []))) keys
    cases true rest = rest
    cases false rest = ap (λ xs. cond (not (has cmp keys w)) (w ∷ xs) xs) rest

  -- where the first key isn't below a bound, none is
  none-below : (bound w : K) (ws : List K) → IsStrictlySortedBy cmp (w ∷ ws) → is_below cmp bound w ≡ false → AllByRecursion (λ k. is_below cmp bound k ≡ false) ws
  none-below bound w ws sorted from = all-by (λ y. cmp w y ≡ Less) (λ y. is_below cmp bound y ≡ false) (λ y less. later y less (cmp y bound) refl) ws (sorted-first w ws sorted) where
    later : (y : K) → cmp w y ≡ Less → (o : Ordering) → cmp y bound ≡ o → is_lt (cmp y bound) ≡ false
    later y less Less is = absurd (true≢false (sym (ap is_lt (total.trans w y bound less is)) ∙ from))
    later y less Equal is = ap is_lt is
    later y less Greater is = ap is_lt is

  any-none : (p : K → Bool) (xs : List K) → AllByRecursion (λ x. p x ≡ false) xs → list_any p xs ≡ false
  any-none p [] all = refl
  any-none p (x ∷ xs) all = ap (λ b. b || list_any p xs) all.0 ∙ any-none p xs all.1

  none-any : (p : K → Bool) (xs : List K) → list_any p xs ≡ false → AllByRecursion (λ x. p x ≡ false) xs
  none-any p [] none = tt
  none-any p (x ∷ xs) none = cases (p x) refl none (none-any p xs) where
    cases : (b : Bool) → p x ≡ b → (b || list_any p xs) ≡ false → (list_any p xs ≡ false → AllByRecursion (λ x. p x ≡ false) xs) → AllByRecursion (λ x. p x ≡ false) (x ∷ xs)
    cases true is none rest = absurd (true≢false none)
    cases false is none rest = (is, rest none)

  -- the first key says whether one is below a bound
  pub below-first : (bound w : K) (ws : List K) → IsStrictlySortedBy cmp (w ∷ ws) → list_any (is_below cmp bound) (w ∷ ws) ≡ is_below cmp bound w
  below-first bound w ws sorted = cases (is_below cmp bound w) refl where
    cases : (b : Bool) → is_below cmp bound w ≡ b → (b || list_any (is_below cmp bound) ws) ≡ b
    cases true is = refl
    cases false is = any-none (is_below cmp bound) ws (none-below bound w ws sorted is)

  pub below-got : (bound w : K) (ws : List K) → IsStrictlySortedBy cmp ws → slice_get ws 0 ≡ Some w → is_below cmp bound w ≡ list_any (is_below cmp bound) ws
  below-got bound w [] sorted got = absurd (let wrong = got in cc)
  below-got bound w (v ∷ ws) sorted got = ap (is_below cmp bound) (sym (same got)) ∙ sym (below-first bound v ws sorted) where
    same : Some v ≡ Some w → v ≡ w
    same e = cc

  -- where no key is below a bound, all are left
  pub from-all : (bound : K) (ws : List K) → list_any (is_below cmp bound) ws ≡ false → from_bound cmp ws bound ≡ ws
  from-all bound ws none = filter-all (λ k. not (is_below cmp bound k)) ws (all-by (λ k. is_below cmp bound k ≡ false) (λ k. not (is_below cmp bound k) ≡ true) (λ k h. ap not h) ws (none-any (is_below cmp bound) ws none))

  -- where one is, the first is, and is taken out
  pub from-popped : (bound w : K) (ws : List K) → IsStrictlySortedBy cmp (w ∷ ws) → list_any (is_below cmp bound) (w ∷ ws) ≡ true → from_bound cmp ws bound ≡ from_bound cmp (w ∷ ws) bound
  from-popped bound w ws sorted some = ap (λ b. cond (not b) (w ∷ from_bound cmp ws bound) (from_bound cmp ws bound)) (sym (sym (below-first bound w ws sorted) ∙ some))

  -- the loop that takes out the first key while one is below a bound
  pub popped : (bound : K) (was now : List K) (key : Option K) → (IsSome key ↔ (0 < length was)) → IfSome key (λ k. was ≡ k ∷ now) → IsStrictlySortedBy cmp was
      → list_any (is_below cmp bound) was ≡ true → (from_bound cmp now bound ≡ from_bound cmp was bound) × (length now < length was)
  popped bound [] now key some took sorted there = absurd (true≢false (sym there))
  popped bound (w ∷ ws) now None some took sorted there = absurd (true≢false (sym (some.1 (omega arith))))
  popped bound (w ∷ ws) now (Some key) some took sorted there =
      let rest : ws ≡ now = cc in
      (ap (λ ks. from_bound cmp ks bound) (sym rest) ∙ from-popped bound w ws sorted there, rw (sym rest) (omega arith))
