-- The pairs of a set that is ordered by priority, and the map that has each item with its priority.
use Rattle.std.proofs.Common.{◌≡◌, refl, ap, sym, ◌∙◌, Bool, true, false, ◌&&◌, List, [], ◌∷◌, length, ◌≤◌, Option, None, Some, is_some, find, Result, Ok, Err, OnOk, OnErr, cond, rules, arith}
use Rattle.std.proofs.lemmas.Grind.{common_steps}
use Rattle.std.proofs.lemmas.Bool.{false≢true}
use Rattle.std.proofs.lemmas.Cmp.{alike_right, eq_by_cmp_equiv, on_total, then_total, tied_itself}
use Rattle.std.specs.Cmp.{IsTotalOrder, Equal-is}
use Rattle.std.specs.List.Sorted.{IsStrictlySortedBy}
use Rattle.std.specs.Option.{option_map_or}
use Rattle.std.specs.Ordering.{is_eq, ordering_reverse, ordering_then}
use Rattle.std.specs.declared.cmp.Ordering.{Ordering}
use Rattle.std.specs.declared.cmp.Ordering.TheVariants.{Less, Equal, Greater}
use Rattle.std.specs.BTreeMap.{is_at}
use Rattle.std.specs.BTreeSet.{insert_key, replace_key}
use Rattle.std.specs.Map.{lookup}
use Rattle.std.specs.Set.{remove_key}
use Rattle.resolver_priority_set.specs.Priorities.{IsIndexed, first_of, has_item, is_of, listed, pair_order, placed, priorities_of, put, without}
use Rattle.resolver_priority_set.proofs.Ordered.{remove_key-put, replace_key-put}

-- what there is, is one at most
pub length-listed : {R : Type 0} (found : Option R) → length (listed found) ≤ 1
length-listed None = search rules
length-listed (Some r) = search rules

-- two pairs are equal where both parts are
pub then-equal : (a b : Ordering) → is_eq (ordering_then a b) ≡ (is_eq a && is_eq b)
then-equal Less b = refl
then-equal Equal b = refl
then-equal Greater b = refl

module _ {I R : Type 0} {by_item : I → I → Ordering} (o : IsTotalOrder by_item) where
  -- equal items have the same pairs
  pub is_of-same : (x q : I) (p : R × I) → by_item x q ≡ Equal → is_of by_item x p ≡ is_of by_item q p
  is_of-same x q p same = ap is_eq (o.congr x q p.1 same)

  -- a pair of one item is that of the items that equal it
  pub is_of-other : (x q : I) (p : R × I) → is_of by_item q p ≡ true → is_of by_item x p ≡ is_eq (by_item x q)
  is_of-other x q p of = ap is_eq (sym (alike_right o q p.1 x ((Equal-is (by_item q p.1)).0 of)))

  -- without an item, other items are as before, and the item isn't there
  pub priorities-without : (x q : I) (pairs : List (R × I))
      → priorities_of by_item (without by_item x pairs) q ≡ cond (is_eq (by_item x q)) [] (priorities_of by_item pairs q)
  priorities-without x q [] = search rules
  priorities-without x q (p ∷ pairs) =
      let rest = priorities-without x q pairs in
      let of = is_of-other x q p in
      grind (arith, common_steps, rest, of)

  -- an item that isn't there
  pub without-none : (x : I) (pairs : List (R × I)) → priorities_of by_item pairs x ≡ [] → without by_item x pairs ≡ pairs
  without-none x [] none = refl
  without-none x (p ∷ pairs) none = let rest = without-none x pairs in grind (arith, common_steps, rest)

  -- equal items have the same priorities
  pub priorities-same : (x q : I) (pairs : List (R × I)) → by_item x q ≡ Equal → priorities_of by_item pairs x ≡ priorities_of by_item pairs q
  priorities-same x q [] same = refl
  priorities-same x q (p ∷ pairs) same =
      let rest = priorities-same x q pairs same in
      let of = is_of-same x q p same in
      grind (arith, common_steps, rest, of)

  -- what is kept of an item equals it
  pub first_of-tied : (x : I) (pairs : List (R × I)) → by_item x (first_of by_item pairs x) ≡ Equal
  first_of-tied x [] = tied_itself o x
  first_of-tied x (p ∷ pairs) =
      let rest = first_of-tied x pairs in
      let tied = Equal-is (by_item x p.1) in
      grind (arith, common_steps, rest, tied)

  -- an item that isn't there is kept itself
  pub first_of-none : (x : I) (pairs : List (R × I)) → priorities_of by_item pairs x ≡ [] → first_of by_item pairs x ≡ x
  first_of-none x [] none = refl
  first_of-none x (p ∷ pairs) none = let rest = first_of-none x pairs in grind (arith, common_steps, rest)

  -- an item is there exactly where it has a priority
  pub has_item-some : (q : I) (pairs : List (R × I)) (found : Option R) → priorities_of by_item pairs q ≡ listed found → has_item by_item pairs q ≡ is_some found
  has_item-some q [] None is = refl
  has_item-some q [] (Some r) is = cc
  has_item-some q (p ∷ pairs) None is = let rest = has_item-some q pairs None in grind (arith, common_steps, rest)
  has_item-some q (p ∷ pairs) (Some r) is = let rest = has_item-some q pairs (Some r) in grind (arith, common_steps, rest)

  module _ {by_priority : R → R → Ordering} (u : IsTotalOrder by_priority) where
    -- the pair of an item that is there once is taken out by what equals it
    pub remove_key-without : (x y : I) (r s : R) (pairs : List (R × I)) → by_item x y ≡ Equal → by_priority r s ≡ Equal
        → priorities_of by_item pairs x ≡ s ∷ [] → remove_key (is_at (pair_order by_priority by_item (r, y))) pairs ≡ without by_item x pairs
    remove_key-without x y r s [] same level there = refl
    remove_key-without x y r s (p ∷ pairs) same level there =
        let rest = remove_key-without x y r s pairs same level in
        let none = without-none x pairs in
        let of = is_of-same x y p same in
        let both = then-equal (by_priority r p.0) (by_item y p.1) in
        let at : p.0 ≡ s → is_eq (by_priority r p.0) ≡ true = λ is. rw (is, level) refl in
        grind (arith, common_steps, rest, none, of, both, at)

    -- a pair is put beside others, where its item isn't there
    pub priorities-insert : (p : R × I) (q : I) (pairs : List (R × I)) → priorities_of by_item pairs p.1 ≡ []
        → priorities_of by_item (insert_key (pair_order by_priority by_item) pairs p) q ≡ cond (is_eq (by_item p.1 q)) (p.0 ∷ []) (priorities_of by_item pairs q)
    priorities-insert p q [] none = grind (arith, common_steps)
    priorities-insert p q (e ∷ pairs) none =
        let rest = priorities-insert p q pairs in
        let of = is_of-other p.1 q e in
        let here = is_of-same p.1 q e in
        let tied = Equal-is (by_item p.1 q) in
        let both = then-equal (by_priority p.0 e.0) (by_item p.1 e.1) in
        grind (arith, common_steps, rest, of, here, tied, both, none)

    -- a pair has its place: its item has its priority, and others have theirs
    priorities-placed : (p : R × I) (q : I) (pairs : List (R × I))
        → priorities_of by_item (placed by_priority by_item pairs p) q ≡ cond (is_eq (by_item p.1 q)) (p.0 ∷ []) (priorities_of by_item pairs q)
    priorities-placed p q pairs =
        let gone : priorities_of by_item (without by_item p.1 pairs) p.1 ≡ [] = rw (priorities-without p.1 p.1 pairs, tied_itself o p.1) refl in
        let is = priorities-insert p q (without by_item p.1 pairs) gone in
        let others = priorities-without p.1 q pairs in
        grind (arith, common_steps, is, others)

    -- an item is put: it has the priority, and others have theirs
    pub priorities-put : (p : R × I) (q : I) (pairs : List (R × I))
        → priorities_of by_item (put by_priority by_item pairs p) q ≡ cond (is_eq (by_item p.1 q)) (p.0 ∷ []) (priorities_of by_item pairs q)
    priorities-put p q pairs =
        let kept = first_of by_item pairs p.1 in
        priorities-placed (p.0, kept) q pairs
        ∙ ap (λ is. cond (is_eq is) (p.0 ∷ []) (priorities_of by_item pairs q)) (sym (o.congr p.1 kept q (first_of-tied p.1 pairs)))

    -- an item is put: the index gives its priority to it, and to no other
    pub indexed-put : (p : R × I) (pairs : List (R × I)) (index next : List (I × R)) → IsIndexed by_priority by_item pairs index
        → ((q : I) → lookup (is_at (by_item q)) next ≡ cond (is_eq (by_item p.1 q)) (Some p.0) (lookup (is_at (by_item q)) index))
        → (q : I) → priorities_of by_item (put by_priority by_item pairs p) q ≡ listed (lookup (is_at (by_item q)) next)
    indexed-put p pairs index next indexed updates q =
        let is = priorities-put p q pairs in
        let before = indexed.same q in
        let after = updates q in
        grind (arith, common_steps, is, before, after)

    -- an item that is there gets the priority that it has: the index says what it said
    pub indexed-same : (x : I) (r : R) (pairs : List (R × I)) (index next : List (I × R)) → IsIndexed by_priority by_item pairs index
        → lookup (is_at (by_item x)) index ≡ Some r
        → ((q : I) → lookup (is_at (by_item q)) next ≡ cond (is_eq (by_item x q)) (Some r) (lookup (is_at (by_item q)) index))
        → (q : I) → priorities_of by_item pairs q ≡ listed (lookup (is_at (by_item q)) next)
    indexed-same x r pairs index next indexed there updates q =
        let before = indexed.same q in
        let own = indexed.same x in
        let after = updates q in
        let tied = Equal-is (by_item x q) in
        let alike = priorities-same x q pairs in
        grind (arith, common_steps, before, own, there, after, tied, alike)

    -- an item that isn't there is put into the index and taken out: the index says what it said
    pub indexed-again : (x : I) (r : R) (pairs : List (R × I)) (index between next : List (I × R)) → IsIndexed by_priority by_item pairs index
        → lookup (is_at (by_item x)) index ≡ None
        → ((q : I) → lookup (is_at (by_item q)) next ≡ cond (is_eq (by_item x q)) None (lookup (is_at (by_item q)) between))
        → ((q : I) → lookup (is_at (by_item q)) between ≡ cond (is_eq (by_item x q)) (Some r) (lookup (is_at (by_item q)) index))
        → (q : I) → priorities_of by_item pairs q ≡ listed (lookup (is_at (by_item q)) next)
    indexed-again x r pairs index between next indexed none removes updates q =
        let before = indexed.same q in
        let own = indexed.same x in
        let put = updates q in
        let taken = removes q in
        let tied = Equal-is (by_item x q) in
        let alike = priorities-same x q pairs in
        grind (arith, common_steps, before, own, none, put, taken, tied, alike)

    -- the pair of an item that is there is found by what equals it
    pub found-pair : (x : I) (held : R) (pairs : List (R × I)) → priorities_of by_item pairs x ≡ held ∷ []
        → find (is_at (pair_order by_priority by_item (held, x))) pairs ≡ find (is_of by_item x) pairs
    found-pair x held [] there = refl
    found-pair x held (p ∷ pairs) there =
        let rest = found-pair x held pairs in
        let both = then-equal (by_priority held p.0) (by_item x p.1) in
        let at : p.0 ≡ held → is_eq (by_priority held p.0) ≡ true = λ is. rw (is, tied_itself u held) refl in
        grind (arith, common_steps, rest, both, at)

    -- an item that is there is found
    pub found-some : (x : I) (held : R) (pairs : List (R × I)) → priorities_of by_item pairs x ≡ held ∷ [] → is_some (find (is_of by_item x) pairs) ≡ true
    found-some x held [] there = cc
    found-some x held (p ∷ pairs) there = let rest = found-some x held pairs in grind (arith, common_steps, rest)

    -- an item is taken out: the index forgets it, and no other
    pub indexed-without : (x : I) (pairs : List (R × I)) (index next : List (I × R)) → IsIndexed by_priority by_item pairs index
        → ((q : I) → lookup (is_at (by_item q)) next ≡ cond (is_eq (by_item x q)) None (lookup (is_at (by_item q)) index))
        → (q : I) → priorities_of by_item (without by_item x pairs) q ≡ listed (lookup (is_at (by_item q)) next)
    indexed-without x pairs index next indexed updates q =
        let others = priorities-without x q pairs in
        let before = indexed.same q in
        let after = updates q in
        grind (arith, common_steps, others, before, after)

    -- the index is as before, for each item
    pub indexed-alike : (pairs : List (R × I)) (index next : List (I × R)) → IsIndexed by_priority by_item pairs index
        → ((q : I) → lookup (is_at (by_item q)) next ≡ lookup (is_at (by_item q)) index) → IsIndexed by_priority by_item pairs next
    indexed-alike pairs index next indexed alike = record { ordered = indexed.ordered; same = λ q. indexed.same q ∙ ap listed (sym (alike q)) }

    -- the order of pairs
    pub pair_order-total : IsTotalOrder (pair_order by_priority by_item)
    pair_order-total = then_total (on_total (λ p. p.0) u) (on_total (λ p. p.1) o)

    -- an item that is there with an equal priority is put again
    pub put-level : (x : I) (r held : R) (pairs : List (R × I)) → IsStrictlySortedBy (pair_order by_priority by_item) pairs
        → priorities_of by_item pairs x ≡ held ∷ [] → by_priority r held ≡ Equal
        → replace_key (pair_order by_priority by_item) pairs (r, first_of by_item pairs x) ≡ put by_priority by_item pairs (r, x)
    put-level x r held pairs sorted there level =
        let kept = first_of by_item pairs x in
        replace_key-put pair_order-total (r, kept) pairs sorted
        ∙ ap (λ es. insert_key (pair_order by_priority by_item) es (r, kept))
        (remove_key-without kept kept r held pairs (tied_itself o kept) level (sym (priorities-same x kept pairs (first_of-tied x pairs)) ∙ there))

    -- an item that is there with another priority is put again
    pub put-apart : (x : I) (r held : R) (pairs : List (R × I)) → IsStrictlySortedBy (pair_order by_priority by_item) pairs
        → priorities_of by_item pairs x ≡ held ∷ [] → is_eq (by_priority r held) ≡ false
        → remove_key (is_at (pair_order by_priority by_item (held, x))) (insert_key (pair_order by_priority by_item) pairs (r, first_of by_item pairs x))
        ≡ put by_priority by_item pairs (r, x)
    put-apart x r held pairs sorted there apart =
        let kept = first_of by_item pairs x in
        let tied = first_of-tied x pairs in
        let back : is_eq (by_priority held r) ≡ false = (eq_by_cmp_equiv u).symm held r ∙ apart in
        let other : is_eq (pair_order by_priority by_item (held, x) (r, kept)) ≡ false = then-equal (by_priority held r) (by_item x kept) ∙ rw back refl in
        remove_key-put pair_order-total (held, x) (r, kept) pairs other sorted
        ∙ ap (λ es. insert_key (pair_order by_priority by_item) es (r, kept))
        (remove_key-without kept x held held pairs (o.antisymm kept x ∙ ap ordering_reverse tied) (tied_itself u held) (sym (priorities-same x kept pairs tied) ∙ there))

    -- an item that is there is not sought in vain
    pub found-none : (x : I) (held copied : R) (pairs : List (R × I)) → priorities_of by_item pairs x ≡ held ∷ [] → copied ≡ held
        → None ≡ find (is_at (pair_order by_priority by_item (copied, x))) pairs → ⊥
    found-none x held copied pairs there same none =
        false≢true (ap is_some (none ∙ ap (λ r. find (is_at (pair_order by_priority by_item (r, x))) pairs) same ∙ found-pair x held pairs there) ∙ found-some x held pairs there)

    -- an item that is there gets a priority: its pair is replaced, or put in once more and taken out
    pub put-exchanged : (x : I) (found : R × I) (kept : I) (r held copied : R) (pairs after : List (R × I)) (level : Bool)
        → IsStrictlySortedBy (pair_order by_priority by_item) pairs → priorities_of by_item pairs x ≡ held ∷ [] → copied ≡ held
        → Some found ≡ find (is_at (pair_order by_priority by_item (copied, x))) pairs → kept ≡ found.1 → level ≡ is_eq (by_priority r held)
        → after ≡ cond level (replace_key (pair_order by_priority by_item) pairs (r, kept))
        (remove_key (is_at (pair_order by_priority by_item (copied, x))) (insert_key (pair_order by_priority by_item) pairs (r, kept)))
        → after ≡ put by_priority by_item pairs (r, x)
    put-exchanged x found kept r held copied pairs after level sorted there same is own level_is made =
        let stays : kept ≡ first_of by_item pairs x
        = own ∙ ap (λ f. option_map_or (λ p. p.1) f x) (is ∙ ap (λ s. find (is_at (pair_order by_priority by_item (s, x))) pairs) same ∙ found-pair x held pairs there) in
        by_level level level_is (rw (stays, same) at made) where
          by_level : (level : Bool) → level ≡ is_eq (by_priority r held)
              → after ≡ cond level (replace_key (pair_order by_priority by_item) pairs (r, first_of by_item pairs x))
              (remove_key (is_at (pair_order by_priority by_item (held, x))) (insert_key (pair_order by_priority by_item) pairs (r, first_of by_item pairs x)))
              → after ≡ put by_priority by_item pairs (r, x)
          by_level true is made = made ∙ put-level x r held pairs sorted there ((Equal-is (by_priority r held)).0 (sym is))
          by_level false is made = made ∙ put-apart x r held pairs sorted there (sym is)

    -- an item that is there was moved, or all is as it was: the index agrees
    pub indexed-moved : {A E : Type 0} (result : Result A E) (p : R × I) (held given : R) (pairs after : List (R × I)) (index next : List (I × R))
        → IsIndexed by_priority by_item pairs index → lookup (is_at (by_item p.1)) index ≡ Some held
        → ((q : I) → lookup (is_at (by_item q)) next ≡ cond (is_eq (by_item p.1 q)) (Some given) (lookup (is_at (by_item q)) index))
        → IsStrictlySortedBy (pair_order by_priority by_item) after
        → OnOk result (after ≡ put by_priority by_item pairs p) → OnOk result (given ≡ p.0) → OnErr result (after ≡ pairs) → OnErr result (given ≡ held)
        → IsIndexed by_priority by_item after next
    indexed-moved (Ok a) p held given pairs after index next indexed there updates sorted is moved stays same =
        record { ordered = sorted; same = rw is (indexed-put p pairs index next indexed (λ q. rw moved at updates q)) }
    indexed-moved (Err e) p held given pairs after index next indexed there updates sorted is moved stays same =
        record { ordered = sorted; same = rw stays (indexed-same p.1 held pairs index next indexed there (λ q. rw same at updates q)) }

    -- a pair of an item that isn't there goes to its place
    pub put-new : (p : R × I) (pairs : List (R × I)) (index : List (I × R)) → IsIndexed by_priority by_item pairs index → lookup (is_at (by_item p.1)) index ≡ None
        → insert_key (pair_order by_priority by_item) pairs p ≡ put by_priority by_item pairs p
    put-new p pairs index indexed none =
        let gone = indexed.same p.1 ∙ ap listed none in
        ap (λ es. insert_key (pair_order by_priority by_item) es p) (sym (without-none p.1 pairs gone))
        ∙ ap (λ kept. insert_key (pair_order by_priority by_item) (without by_item kept pairs) (p.0, kept)) (sym (first_of-none p.1 pairs gone))

    -- a new item is put at its place, or taken out of the index again: the index agrees
    pub indexed-new : {A E : Type 0} (result : Result A E) (p : R × I) (pairs after : List (R × I)) (index between next : List (I × R))
        → IsIndexed by_priority by_item pairs index → lookup (is_at (by_item p.1)) index ≡ None
        → ((q : I) → lookup (is_at (by_item q)) between ≡ cond (is_eq (by_item p.1 q)) (Some p.0) (lookup (is_at (by_item q)) index))
        → IsStrictlySortedBy (pair_order by_priority by_item) after
        → OnOk result (after ≡ insert_key (pair_order by_priority by_item) pairs p) → OnOk result (next ≡ between) → OnErr result (after ≡ pairs)
        → OnErr result ((q : I) → lookup (is_at (by_item q)) next ≡ cond (is_eq (by_item p.1 q)) None (lookup (is_at (by_item q)) between))
        → IsIndexed by_priority by_item after next
    indexed-new (Ok a) p pairs after index between next indexed none updates sorted is same stays forgets =
        record { ordered = sorted; same = rw (is ∙ put-new p pairs index indexed none, same) (indexed-put p pairs index between indexed updates) }
    indexed-new (Err e) p pairs after index between next indexed none updates sorted is same stays forgets =
        record { ordered = sorted; same = rw stays (indexed-again p.1 p.0 pairs index between next indexed none forgets updates) }
