-- An index from which items are taken out one by one, as the pairs are gone over.
use denote.Param.Members.{Shared}
use Rattle.std.specs.Borrow.{Bor}
use Rattle.std.proofs.Common.{◌≡◌, refl, ap, sym, ◌∙◌, Bool, true, false, List, [], ◌∷◌, ◌++◌, Option, None, Some, is_some, cond, filter, arith, append_assoc}
use Rattle.std.proofs.lemmas.Grind.{common_steps}
use Rattle.std.proofs.lemmas.Cmp.{eq_by_cmp_equiv, tied_itself}
use Rattle.std.proofs.lemmas.List.{append-nil}
use Rattle.std.specs.Cmp.{IsTotalOrder, Equal-is}
use Rattle.std.specs.Ordering.{is_eq}
use Rattle.std.specs.declared.cmp.Ordering.{Ordering}
use Rattle.std.specs.declared.cmp.Ordering.TheVariants.{Equal}
use Rattle.std.specs.BTreeMap.{is_at}
use Rattle.std.specs.Map.{lookup}
use Rattle.resolver_base.specs.Answering.{AnswersBy}
use Rattle.resolver_priority_set.specs.Priorities.{IsIndexed, has_item, indexed, is_of, listed, priorities_of, retained}
use Rattle.resolver_priority_set.proofs.Priorities.{has_item-some}

filter-append : {X : Type 0} (p : X → Bool) (xs ys : List X) → filter p (xs ++ ys) ≡ filter p xs ++ filter p ys
filter-append p [] ys = refl
filter-append p (x ∷ xs) ys = let rest = filter-append p xs ys in grind (arith, common_steps, rest)

module _ {I R : Type 0} {by_item : I → I → Ordering} (o : IsTotalOrder by_item) where
  -- equal items are looked up alike
  lookup-same : (x y : I) (index : List (I × R)) → by_item x y ≡ Equal → lookup (is_at (by_item x)) index ≡ lookup (is_at (by_item y)) index
  lookup-same x y [] same = refl
  lookup-same x y (e ∷ index) same =
      let rest = lookup-same x y index same in
      let at : is_at (by_item x) e.0 ≡ is_at (by_item y) e.0 = ap is_eq (o.congr x y e.0 same) in
      grind (arith, common_steps, rest, at)

  -- a pair in the midst is that of its item
  has-middle : (before after : List (R × I)) (p : R × I) → has_item by_item (before ++ p ∷ after) p.1 ≡ true
  has-middle [] after p = rw (tied_itself o p.1) refl
  has-middle (e ∷ before) after p = let rest = has-middle before after p in grind (arith, common_steps, rest)

  some-middle : (before after : List (R × I)) (p : R × I) (q : I) → is_of by_item q p ≡ true → priorities_of by_item (before ++ p ∷ after) q ≡ [] → ⊥
  some-middle [] after p q of none = grind (arith, common_steps, of, none)
  some-middle (e ∷ before) after p q of none = let rest = some-middle before after p q of in grind (arith, common_steps, rest, none)

  -- without a pair in the midst, other items are as before
  drop-other : (before after : List (R × I)) (p : R × I) (q : I) → is_of by_item q p ≡ false
      → priorities_of by_item (before ++ after) q ≡ priorities_of by_item (before ++ p ∷ after) q
  drop-other [] after p q other = grind (arith, common_steps, other)
  drop-other (e ∷ before) after p q other = let rest = drop-other before after p q other in grind (arith, common_steps, rest)

  -- without its one pair, an item isn't there
  drop-own : (before after : List (R × I)) (p : R × I) (q : I) (found : Option R) → is_of by_item q p ≡ true
      → priorities_of by_item (before ++ p ∷ after) q ≡ listed found → priorities_of by_item (before ++ after) q ≡ []
  drop-own [] after p q None of is = grind (arith, common_steps, of, is)
  drop-own [] after p q (Some r) of is = grind (arith, common_steps, of, is)
  drop-own (e ∷ before) after p q None of is = absurd (some-middle (e ∷ before) after p q of is)
  drop-own (e ∷ before) after p q (Some r) of is =
      let rest = drop-own before after p q (Some r) of in
      let some = some-middle before after p q of in
      grind (arith, common_steps, rest, some, is)

  one-less-by : (before after : List (R × I)) (p : R × I) (q : I) (found : Option R) (b : Bool) → is_eq (by_item p.1 q) ≡ b
      → priorities_of by_item (before ++ p ∷ after) q ≡ listed found → priorities_of by_item (before ++ after) q ≡ listed (cond b None found)
  one-less-by before after p q found true tie is = drop-own before after p q found ((eq_by_cmp_equiv o).symm q p.1 ∙ tie) is
  one-less-by before after p q found false tie is = drop-other before after p q ((eq_by_cmp_equiv o).symm q p.1 ∙ tie) ∙ is

  -- no pair before an item's one pair is that of the item
  none-before : (before after : List (R × I)) (p : R × I) (found : Option R) → priorities_of by_item (before ++ p ∷ after) p.1 ≡ listed found
      → priorities_of by_item before p.1 ≡ []
  none-before [] after p found is = refl
  none-before (e ∷ before) after p None is = absurd (some-middle (e ∷ before) after p p.1 (rw (tied_itself o p.1) refl) is)
  none-before (e ∷ before) after p (Some r) is =
      let rest = none-before before after p (Some r) in
      let some = some-middle before after p p.1 (rw (tied_itself o p.1) refl) in
      grind (arith, common_steps, rest, some, is)

  -- an item that no pair of the index has is taken out of the index
  indexed-forget : (x : I) (index next : List (I × R)) (pairs : List (R × I)) → is_some (lookup (is_at (by_item x)) index) ≡ true
      → priorities_of by_item (indexed by_item index pairs) x ≡ []
      → ((q : I) → lookup (is_at (by_item q)) next ≡ cond (is_eq (by_item x q)) None (lookup (is_at (by_item q)) index))
      → indexed by_item next pairs ≡ indexed by_item index pairs
  indexed-forget x index next [] some none updates = refl
  indexed-forget x index next (e ∷ pairs) some none updates =
      let rest : priorities_of by_item (indexed by_item index pairs) x ≡ [] → indexed by_item next pairs ≡ indexed by_item index pairs =
      λ none. indexed-forget x index next pairs some none updates in
      let now = updates e.1 in
      let alike : is_of by_item x e ≡ true → lookup (is_at (by_item x)) index ≡ lookup (is_at (by_item e.1)) index =
      λ of. lookup-same x e.1 index ((Equal-is (by_item x e.1)).0 of) in
      grind (arith, common_steps, rest, now, alike, some, none)

module _ {I R F : Type 0} {by_item : I → I → Ordering} (o : IsTotalOrder by_item) (g : Shared F (Bor I × Unit {0}) Bool) (f : F) where
  -- The index has, of the pairs gone over, the ones that are kept, and all that are left.
  pub record Forgets (pairs left : List (R × I)) (index : List (I × R)) : Type 0 where
    pub done : List (R × I)
    pub whole : pairs ≡ done ++ left
    pub same : (q : I) → priorities_of by_item (indexed by_item index done ++ left) q ≡ listed (lookup (is_at (by_item q)) index)
    pub tested : (test : I → Bool) → AnswersBy g f test → indexed by_item index done ≡ retained test done

  pub Forgets-start : {by_priority : R → R → Ordering} (pairs : List (R × I)) (index : List (I × R)) → IsIndexed by_priority by_item pairs index → Forgets pairs pairs index
  Forgets-start pairs index is = record { done = []; whole = refl; same = is.same; tested = λ test answers. refl }

  -- the next pair is kept
  pub Forgets-keep : (pairs left : List (R × I)) (p : R × I) (index : List (I × R)) → Forgets pairs (p ∷ left) index
      → ((test : I → Bool) → AnswersBy g f test → test p.1 ≡ true) → Forgets pairs left index
  Forgets-keep pairs left p index h passes =
      let there : is_some (lookup (is_at (by_item p.1)) index) ≡ true =
      sym (has_item-some o p.1 (indexed by_item index h.done ++ p ∷ left) _ (h.same p.1)) ∙ has-middle o (indexed by_item index h.done) left p in
      let longer : indexed by_item index (h.done ++ p ∷ []) ≡ indexed by_item index h.done ++ p ∷ [] =
      filter-append (λ e. is_some (lookup (is_at (by_item e.1)) index)) h.done (p ∷ []) ∙ rw there refl in
      record {
        done = h.done ++ p ∷ [];
        whole = rw append_assoc h.whole;
        same = λ q. rw (longer, append_assoc) (h.same q);
        tested = λ test answers. longer ∙ ap (λ es. es ++ p ∷ []) (h.tested test answers)
            ∙ sym (filter-append (λ e. test e.1) h.done (p ∷ []) ∙ rw (passes test answers) refl);
      }

  -- the next pair is not kept
  pub Forgets-drop : (pairs left : List (R × I)) (p : R × I) (index next : List (I × R)) → Forgets pairs (p ∷ left) index
      → ((q : I) → lookup (is_at (by_item q)) next ≡ cond (is_eq (by_item p.1 q)) None (lookup (is_at (by_item q)) index))
      → ((test : I → Bool) → AnswersBy g f test → test p.1 ≡ false) → Forgets pairs left next
  Forgets-drop pairs left p index next h updates fails =
      let before = indexed by_item index h.done in
      let there : is_some (lookup (is_at (by_item p.1)) index) ≡ true =
      sym (has_item-some o p.1 (before ++ p ∷ left) _ (h.same p.1)) ∙ has-middle o before left p in
      let gone : lookup (is_at (by_item p.1)) next ≡ None = updates p.1 ∙ rw (tied_itself o p.1) refl in
      let shorter : indexed by_item next (h.done ++ p ∷ []) ≡ before =
      filter-append (λ e. is_some (lookup (is_at (by_item e.1)) next)) h.done (p ∷ []) ∙ rw (gone, append-nil) refl
      ∙ indexed-forget o p.1 index next h.done there (none-before o before left p _ (h.same p.1)) updates in
      record {
        done = h.done ++ p ∷ [];
        whole = rw append_assoc h.whole;
        same = λ q. rw (shorter, updates q) (one-less-by o before left p q _ (is_eq (by_item p.1 q)) refl (h.same q));
        tested = λ test answers. shorter ∙ h.tested test answers
            ∙ sym (filter-append (λ e. test e.1) h.done (p ∷ []) ∙ rw (fails test answers, append-nil) refl);
      }

  -- no pair is left
  pub Forgets-end : (pairs : List (R × I)) (index : List (I × R)) → Forgets pairs [] index
      → ((q : I) → priorities_of by_item (indexed by_item index pairs) q ≡ listed (lookup (is_at (by_item q)) index))
      × ((test : I → Bool) → AnswersBy g f test → indexed by_item index pairs ≡ retained test pairs)
  Forgets-end pairs index h =
      let all : pairs ≡ h.done = rw append-nil at h.whole in
      (λ q. rw (all, ← append-nil (indexed by_item index h.done)) (h.same q), λ test answers. rw all (h.tested test answers))
