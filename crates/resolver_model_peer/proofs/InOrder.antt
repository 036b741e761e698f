-- Waiting keys in their order: which there are, also where a row is gone.
use Rattle.std.proofs.Common.{◌≡◌, refl, ap, sym, ◌∙◌, subst, ◌⊎◌, inl, inr, ℕ, ◌<◌, Bool, true, false, cond, List, [], ◌∷◌, Option, None, Some, filter_map, arith}
use Rattle.std.proofs.lemmas.Bool.Decides.{nat_tests}
use Rattle.std.proofs.lemmas.Cmp.{eq_by_cmp_equiv, nat_cmp_total, on_total, then_total}
use Rattle.std.proofs.lemmas.Grind.{common_steps}
use Rattle.std.specs.BTreeSet.{insert_key}
use Rattle.std.specs.Cmp.{IsTotalOrder, bool_cmp_total}
use Rattle.std.specs.List.{AllByRecursion, cons_option}
use Rattle.std.specs.List.Sorted.{IsStrictlySortedBy}
use Rattle.std.specs.Map.{remove_entry}
use Rattle.std.specs.Ordering.{bool_cmp, is_eq, match_ordering, nat_cmp, ordering_reverse, ordering_then}
use Rattle.std.specs.Prelude.{nat_le}
use Rattle.std.specs.declared.cmp.Ordering.{Ordering}
use Rattle.std.specs.declared.cmp.Ordering.TheVariants.{Less, Equal, Greater}
use Rattle.resolver_priority_set.proofs.Ordered.{above-less}
use Rattle.resolver_fetch_scan.specs.declared.place.Place.{Place}
use Rattle.resolver_fetch_scan.specs.Waiting.{Waiting, in_order, place_order, waiting_order}
use Rattle.resolver_fetch_scan.specs.FetcherLaws.{IsAmong}
use Rattle.resolver_model_peer.specs.Parties.{Parties, orders_of}
use Rattle.resolver_model_peer.specs.Peer.{is_key}
use Rattle.resolver_model_peer.specs.PeerRows.{Row, Phase, Waits, Asked, Judged, change_entry, waiting_in, waiting_of}

pub then-first : (x y : Ordering) → ordering_then x y ≡ Equal → x ≡ Equal
then-first Less y e = e
then-first Equal y e = refl
then-first Greater y e = e

pub then-second : (x y : Ordering) → ordering_then x y ≡ Equal → y ≡ Equal
then-second Less y e = absurd cc
then-second Equal y e = e
then-second Greater y e = absurd cc

module _ {X : Type 0} (by : X → X → Ordering) where
  among-at : (o : Ordering) (x w y : X) (ys : List X) → (IsAmong x (insert_key by ys w) → (x ≡ w) ⊎ IsAmong x ys)
      → IsAmong x (match_ordering o (w ∷ y ∷ ys) (y ∷ ys) (y ∷ insert_key by ys w)) → (x ≡ w) ⊎ IsAmong x (y ∷ ys)
  among-at Less x w y ys rest (inl e) = inl e
  among-at Less x w y ys rest (inr i) = inr i
  among-at Equal x w y ys rest i = inr i
  among-at Greater x w y ys rest (inl e) = inr (inl e)
  among-at Greater x w y ys rest (inr i) = later (rest i) where
    later : (x ≡ w) ⊎ IsAmong x ys → (x ≡ w) ⊎ IsAmong x (y ∷ ys)
    later (inl e) = inl e
    later (inr j) = inr (inr j)

  -- what is there once a key was put
  pub among-put : (x w : X) (ys : List X) → IsAmong x (insert_key by ys w) → (x ≡ w) ⊎ IsAmong x ys
  among-put x w [] (inl e) = inl e
  among-put x w [] (inr i) = absurd i
  among-put x w (y ∷ ys) i = among-at (by w y) x w y ys (among-put x w ys) i

  stays-at : (o : Ordering) (x w y : X) (ys : List X) → (IsAmong x ys → IsAmong x (insert_key by ys w)) → IsAmong x (y ∷ ys)
      → IsAmong x (match_ordering o (w ∷ y ∷ ys) (y ∷ ys) (y ∷ insert_key by ys w))
  stays-at Less x w y ys rest i = inr i
  stays-at Equal x w y ys rest i = i
  stays-at Greater x w y ys rest (inl e) = inl e
  stays-at Greater x w y ys rest (inr i) = inr (rest i)

  -- a key that is there stays
  pub stays-put : (x w : X) (ys : List X) → IsAmong x ys → IsAmong x (insert_key by ys w)
  stays-put x w [] i = absurd i
  stays-put x w (y ∷ ys) i = stays-at (by w y) x w y ys (stays-put x w ys) i

  -- one of these is equal to w
  abbrev pub HasEqual : X → List X → Type 0
  HasEqual w ys = (y : X) × IsAmong y ys × (by w y ≡ Equal)

  put-at : (o : Ordering) (w y : X) (ys : List X) → by w y ≡ o → IsAmong w (insert_key by ys w) ⊎ HasEqual w ys
      → IsAmong w (match_ordering o (w ∷ y ∷ ys) (y ∷ ys) (y ∷ insert_key by ys w)) ⊎ HasEqual w (y ∷ ys)
  put-at Less w y ys is rest = inl (inl refl)
  put-at Equal w y ys is rest = inr (y, inl refl, is)
  put-at Greater w y ys is (inl i) = inl (inr i)
  put-at Greater w y ys is (inr h) = inr (h.0, inr h.1, h.2)

  -- a key that is put is there, or one that is equal to it
  pub is-put : (w : X) (ys : List X) → IsAmong w (insert_key by ys w) ⊎ HasEqual w ys
  is-put w [] = inl (inl refl)
  is-put w (y ∷ ys) = put-at (by w y) w y ys refl (is-put w ys)

module _ {X : Type 0} {by : X → X → Ordering} (total : IsTotalOrder by) where
  among-all : (Q : X → Type 0) (x : X) (xs : List X) → AllByRecursion Q xs → IsAmong x xs → Q x
  among-all Q x [] all i = absurd i
  among-all Q x (y ∷ xs) all (inl e) = subst Q (sym e) all.0
  among-all Q x (y ∷ xs) all (inr i) = among-all Q x xs all.1 i

  all-put : (Q : X → Type 0) (w : X) (xs : List X) → Q w → AllByRecursion Q xs → AllByRecursion Q (insert_key by xs w)
  all-put Q w [] q all = (q, tt)
  all-put Q w (x ∷ xs) q all = at (by w x) (all-put Q w xs q all.1) where
    at : (o : Ordering) → AllByRecursion Q (insert_key by xs w) → AllByRecursion Q (match_ordering o (w ∷ x ∷ xs) (x ∷ xs) (x ∷ insert_key by xs w))
    at Less rest = (q, all)
    at Equal rest = all
    at Greater rest = (all.0, rest)

  pub sorted-put : (w : X) (xs : List X) → IsStrictlySortedBy by xs → IsStrictlySortedBy by (insert_key by xs w)
  unfolding IsStrictlySortedBy
  sorted-put w [] sorted = (tt, tt)
  sorted-put w (x ∷ xs) sorted = at (by w x) refl (sorted-put w xs sorted.1) where
    at : (o : Ordering) → by w x ≡ o → IsStrictlySortedBy by (insert_key by xs w) → IsStrictlySortedBy by (match_ordering o (w ∷ x ∷ xs) (x ∷ xs) (x ∷ insert_key by xs w))
    at Less is rest = ((is, above-less total w x xs is sorted.0), sorted)
    at Equal is rest = sorted
    at Greater is rest = (all-put (λ y. by x y ≡ Less) w xs (total.antisymm x w ∙ ap ordering_reverse is) sorted.0, rest)

  -- behind the first are those above it
  pub behind-first : (x y : X) (xs : List X) → IsStrictlySortedBy by (x ∷ xs) → IsAmong y xs → by x y ≡ Less
  unfolding IsStrictlySortedBy
  behind-first x y xs sorted i = among-all (λ z. by x z ≡ Less) y xs sorted.0 i

  -- where an equal key is there nothing is put
  pub put-equal : (w : X) (xs : List X) → IsStrictlySortedBy by xs → HasEqual by w xs → insert_key by xs w ≡ xs
  unfolding IsStrictlySortedBy
  put-equal w [] sorted h = absurd h.1
  put-equal w (x ∷ xs) sorted h = at (by w x) refl h.1 (λ i. put-equal w xs sorted.1 (h.0, i, h.2)) where
    at : (o : Ordering) → by w x ≡ o → IsAmong h.0 (x ∷ xs) → (IsAmong h.0 xs → insert_key by xs w ≡ xs) → match_ordering o (w ∷ x ∷ xs) (x ∷ xs) (x ∷ insert_key by xs w) ≡ x ∷ xs
    at Less is (inl e) rest = let same : by w x ≡ Equal = ap (by w) (sym e) ∙ h.2 in let clash : Less ≡ Equal = sym is ∙ same in absurd cc
    at Less is (inr i) rest =
        let less : by w h.0 ≡ Less = total.trans w x h.0 is (among-all (λ z. by x z ≡ Less) h.0 xs sorted.0 i) in
        let clash : Less ≡ Equal = sym less ∙ h.2 in absurd cc
    at Equal is i rest = refl
    at Greater is (inl e) rest = let same : by w x ≡ Equal = ap (by w) (sym e) ∙ h.2 in let clash : Greater ≡ Equal = sym is ∙ same in absurd cc
    at Greater is (inr i) rest = ap (λ ys. x ∷ ys) (rest i)

-- Places.
level : (r s : Bool) (x y : ℕ) → ordering_then (bool_cmp r s) (nat_cmp x y) ≡ Equal → (r ≡ s) × (x ≡ y)
level false false x y e = (refl, grind (arith, nat_tests, common_steps, e))
level false true x y e = absurd cc
level true false x y e = absurd cc
level true true x y e = (refl, grind (arith, nat_tests, common_steps, e))

pub level-place : (p q : Place) → place_order p q ≡ Equal → p ≡ q
level-place p q e = let same = level p.is_retry q.is_retry p.due q.due e in λ i. record { is_retry = same.0 i; due = same.1 i }

-- behind a retry that isn't due are only such
pub behind-retry : (r s : Bool) (x y t : ℕ) (more : Ordering) → ordering_then (ordering_then (bool_cmp r s) (nat_cmp x y)) more ≡ Less → r ≡ true → t < x → nat_le y t ≡ false
behind-retry false s x y t more less is late = absurd cc
behind-retry true false x y t more less is late = absurd cc
behind-retry true true x y t more less is late = grind (arith, nat_tests, common_steps, less, late)

module _ {K S P : Type 0} (a : Parties K S P) (total : IsTotalOrder a.key) where
  abbrev W : K × Waiting P → K × Waiting P → Ordering
  W = waiting_order (orders_of a)

  pub W-total : IsTotalOrder W
  W-total = then_total (on_total (λ (w : K × Waiting P). w.1.place) (then_total (on_total (λ (p : Place). p.is_retry) bool_cmp_total) (on_total (λ (p : Place). p.due) nat_cmp_total))) (on_total (λ (w : K × Waiting P). w.0) total)

  pub sorted-order : (ws : List (K × Waiting P)) → IsStrictlySortedBy W (in_order (orders_of a) ws)
  unfolding IsStrictlySortedBy
  sorted-order [] = tt
  sorted-order (w ∷ ws) = sorted-put W-total w (in_order (orders_of a) ws) (sorted-order ws)

  waiting-key : (r : K × Row K S P) (w : K × Waiting P) → waiting_of r ≡ Some w → w.0 ≡ r.0
  waiting-key r w e = at r.1.phase e where
    at : (phase : Phase K P) → waiting_in r.0 r.1 phase ≡ Some w → w.0 ≡ r.0
    at (Waits place) is = cc
    at (Asked id request) is = absurd cc
    at (Judged j) is = absurd cc

  module _ (key : K) where
    abbrev IsIn : K × Waiting P → List (K × Waiting P) → Type 0
    IsIn w ws = IsAmong w (in_order (orders_of a) ws)

    -- bs are those of as without some of the key
    abbrev IsLess : (xs ys : List (K × Waiting P)) → Type 0
    IsLess xs ys = ((w : K × Waiting P) → is_key a key w.0 ≡ false → IsIn w xs → IsIn w ys) × ((w : K × Waiting P) → IsIn w ys → IsIn w xs)

    dropped : (o : Option (K × Waiting P)) (xs : List (K × Waiting P)) → ((w : K × Waiting P) → o ≡ Some w → is_key a key w.0 ≡ true) → IsLess (cons_option o xs) xs
    dropped None xs is = (λ w other i. i, λ w i. i)
    dropped (Some v) xs is = (λ w other i. first w other (among-put W w v (in_order (orders_of a) xs) i), λ w i. stays-put W w v (in_order (orders_of a) xs) i) where
      first : (w : K × Waiting P) → is_key a key w.0 ≡ false → (w ≡ v) ⊎ IsIn w xs → IsIn w xs
      first w other (inl e) = let clash : true ≡ false = sym (is v refl) ∙ ap (λ (x : K × Waiting P). is_key a key x.0) (sym e) ∙ other in absurd cc
      first w other (inr i) = i

    same-key : (v w : K × Waiting P) → W v w ≡ Equal → is_key a key w.0 ≡ is_key a key v.0
    same-key v w e =
        let laws = eq_by_cmp_equiv total in
        let same : is_eq (a.key v.0 w.0) ≡ true = ap is_eq (then-second (place_order v.1.place w.1.place) (a.key v.0 w.0) e) in
        laws.symm key w.0 ∙ sym (laws.congr v.0 w.0 key same) ∙ laws.symm v.0 key

    both : (o : Option (K × Waiting P)) (xs ys : List (K × Waiting P)) → ((w : K × Waiting P) → o ≡ Some w → is_key a key w.0 ≡ false) → IsLess xs ys → IsLess (cons_option o xs) (cons_option o ys)
    both None xs ys is less = less
    both (Some v) xs ys is less = (
      (λ w other i. there w other i (among-put W w v (in_order (orders_of a) xs) i)),
      (λ w i. here w i (among-put W w v (in_order (orders_of a) ys) i)),
    ) where
      put-there : IsIn v (v ∷ xs) → IsIn v (v ∷ ys) ⊎ HasEqual W v (in_order (orders_of a) ys) → IsIn v (v ∷ ys)
      put-there i (inl j) = j
      put-there i (inr h) =
          let there : HasEqual W v (in_order (orders_of a) xs) = (h.0, less.1 h.0 h.1, h.2) in
          let same : IsIn v xs = subst (λ (zs : List (K × Waiting P)). IsAmong v zs) (put-equal W-total v (in_order (orders_of a) xs) (sorted-order xs) there) i in
          stays-put W v v (in_order (orders_of a) ys) (less.0 v (is v refl) same)

      there : (w : K × Waiting P) → is_key a key w.0 ≡ false → IsIn w (v ∷ xs) → (w ≡ v) ⊎ IsIn w xs → IsIn w (v ∷ ys)
      there w other i (inl e) =
          let at : IsIn v (v ∷ xs) = subst (λ (x : K × Waiting P). IsIn x (v ∷ xs)) e i in
          subst (λ (x : K × Waiting P). IsIn x (v ∷ ys)) (sym e) (put-there at (is-put W v (in_order (orders_of a) ys)))
      there w other i (inr j) = stays-put W w v (in_order (orders_of a) ys) (less.0 w other j)

      put-here : IsIn v (v ∷ ys) → IsIn v (v ∷ xs) ⊎ HasEqual W v (in_order (orders_of a) xs) → IsIn v (v ∷ xs)
      put-here i (inl j) = j
      put-here i (inr h) =
          let there : HasEqual W v (in_order (orders_of a) ys) = (h.0, less.0 h.0 (same-key v h.0 h.2 ∙ is v refl) h.1, h.2) in
          let same : IsIn v ys = subst (λ (zs : List (K × Waiting P)). IsAmong v zs) (put-equal W-total v (in_order (orders_of a) ys) (sorted-order ys) there) i in
          stays-put W v v (in_order (orders_of a) xs) (less.1 v same)

      here : (w : K × Waiting P) → IsIn w (v ∷ ys) → (w ≡ v) ⊎ IsIn w ys → IsIn w (v ∷ xs)
      here w i (inl e) =
          let at : IsIn v (v ∷ ys) = subst (λ (x : K × Waiting P). IsIn x (v ∷ ys)) e i in
          subst (λ (x : K × Waiting P). IsIn x (v ∷ xs)) (sym e) (put-here at (is-put W v (in_order (orders_of a) xs)))
      here w i (inr j) = stays-put W w v (in_order (orders_of a) xs) (less.1 w j)

    less-rows : (rows : List (K × Row K S P)) → IsLess (filter_map waiting_of rows) (filter_map waiting_of (remove_entry (is_key a key) rows))
    less-rows [] = (λ w other i. i, λ w i. i)
    less-rows (r ∷ rows) = at (is_key a key r.0) refl (less-rows rows) where
      at : (b : Bool) → is_key a key r.0 ≡ b → IsLess (filter_map waiting_of rows) (filter_map waiting_of (remove_entry (is_key a key) rows))
          → IsLess (filter_map waiting_of (r ∷ rows)) (filter_map waiting_of (cond b rows (r ∷ remove_entry (is_key a key) rows)))
      at true is rest = dropped (waiting_of r) (filter_map waiting_of rows) (λ w e. ap (is_key a key) (waiting-key r w e) ∙ is)
      at false is rest = both (waiting_of r) (filter_map waiting_of rows) (filter_map waiting_of (remove_entry (is_key a key) rows)) (λ w e. ap (is_key a key) (waiting-key r w e) ∙ is) rest

    -- where the first row of a key is gone no other key waits
    pub waits-removed : (w : K × Waiting P) (rows : List (K × Row K S P)) → IsIn w (filter_map waiting_of (remove_entry (is_key a key) rows)) → IsIn w (filter_map waiting_of rows)
    waits-removed w rows i = (less-rows rows).1 w i

  -- a row that doesn't wait counts as gone
  pub rests-removed : (test : K → Bool) (f : Row K S P → Row K S P) → ((k : K) (row : Row K S P) → waiting_of (k, f row) ≡ None) → (rows : List (K × Row K S P))
      → filter_map waiting_of (change_entry test f rows) ≡ filter_map waiting_of (remove_entry test rows)
  rests-removed test f rests [] = refl
  rests-removed test f rests (r ∷ rows) = at (test r.0) (rests-removed test f rests rows) where
    at : (b : Bool) → filter_map waiting_of (change_entry test f rows) ≡ filter_map waiting_of (remove_entry test rows)
        → filter_map waiting_of (cond b ((r.0, f r.1) ∷ rows) (r ∷ change_entry test f rows)) ≡ filter_map waiting_of (cond b rows (r ∷ remove_entry test rows))
    at true rest = ap (λ o. cons_option o (filter_map waiting_of rows)) (rests r.0 r.1)
    at false rest = ap (cons_option (waiting_of r)) rest
