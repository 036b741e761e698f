-- Where the keys of a batch are found, and what becomes of that where a key goes last or is taken out.
use Rattle.std.proofs.Common.{◌≡◌, ◌∙◌, sym, ap, refl, ◌+◌, ◌≤◌, Bool, true, false, ℕ, suc, List, [], ◌∷◌, ◌++◌, Option, None, Some, cond, length, drop, append-nil, append_assoc, length-append, arith}
use Rattle.std.specs.Prelude.{◌||◌}
use Rattle.std.specs.Cmp.{IsTotalOrder}
use Rattle.std.specs.List.{list_any, position, position_from}
use Rattle.std.specs.Map.{lookup, remove_entry}
use Rattle.std.specs.BTreeMap.{is_at}
use Rattle.std.specs.Ordering.{is_eq}
use Rattle.std.specs.declared.cmp.Ordering.{Ordering}
use Rattle.std.proofs.Math.Seq.{drop-append_seam}
use Rattle.std.proofs.lemmas.Iterator.Adapters.{position_from-zero}
use Rattle.resolver_messages.specs.Places.{Grows, IsPlaced}
use Rattle.resolver_types.specs.Undone.{without_each}
use Rattle.resolver_messages.proofs.Right.{flips-by, follows-by}

module _ {K : Type 0} where
  -- one that doesn't pass changes no place
  place-kept : (t : K → Bool) (i : ℕ) (ks : List K) (k : K) → t k ≡ false → position_from t i (ks ++ k ∷ []) ≡ position_from t i ks
  place-kept t i [] k fails = rw fails refl
  place-kept t i (x ∷ ks) k fails = ap (λ (rest : Option ℕ). cond (t x) (Some i) rest) (place-kept t (i + 1) ks k fails)

  -- one that passes is found last where none did before it
  place-last : (t : K → Bool) (i : ℕ) (ks : List K) (k : K) → position_from t i ks ≡ None → t k ≡ true → position_from t i (ks ++ k ∷ []) ≡ Some (i + length ks)
  place-last t i [] k none is = rw is (let same : i ≡ i + 0 = omega arith in ap Some same)
  place-last t i (x ∷ ks) k none is = split (place-last t (i + 1) ks k) (t x) none where
    split : (position_from t (i + 1) ks ≡ None → t k ≡ true → position_from t (i + 1) (ks ++ k ∷ []) ≡ Some (i + 1 + length ks)) → (b : Bool) → cond b (Some i) (position_from t (i + 1) ks) ≡ None
        → cond b (Some i) (position_from t (i + 1) (ks ++ k ∷ [])) ≡ Some (i + suc (length ks))
    split more true h = absurd (let wrong = h in cc)
    split more false h = let same : i + 1 + length ks ≡ i + suc (length ks) = omega arith in more h is ∙ ap Some same

  -- tests that agree find the same
  place-same : (s t : K → Bool) → ((x : K) → s x ≡ t x) → (i : ℕ) (ks : List K) → position_from s i ks ≡ position_from t i ks
  place-same s t same i [] = refl
  place-same s t same i (x ∷ ks) = rw (same x) (ap (λ (rest : Option ℕ). cond (t x) (Some i) rest) (place-same s t same (i + 1) ks))

  pub place-none : (t : K → Bool) (i : ℕ) (ks : List K) → list_any t ks ≡ false → position_from t i ks ≡ None
  place-none t i [] h = refl
  place-none t i (x ∷ ks) h = split (place-none t (i + 1) ks) (t x) h where
    split : (list_any t ks ≡ false → position_from t (i + 1) ks ≡ None) → (b : Bool) → (b || list_any t ks) ≡ false → cond b (Some i) (position_from t (i + 1) ks) ≡ None
    split more true h = absurd (let wrong = h in cc)
    split more false h = more h

  none-passes : (t : K → Bool) (i : ℕ) (ks : List K) → position_from t i ks ≡ None → list_any t ks ≡ false
  none-passes t i [] h = refl
  none-passes t i (x ∷ ks) h = split (none-passes t (i + 1) ks) (t x) h where
    split : (position_from t (i + 1) ks ≡ None → list_any t ks ≡ false) → (b : Bool) → cond b (Some i) (position_from t (i + 1) ks) ≡ None → (b || list_any t ks) ≡ false
    split more true h = absurd (let wrong = h in cc)
    split more false h = more h

module _ {K : Type 0} (cmp : K → K → Ordering) where
  pub placed-none : IsPlaced cmp [] []
  placed-none = record { found = λ key. refl; counted = refl }

  -- a key that isn't found is none of the keys
  pub absent-key : (places : List (K × ℕ)) (keys : List K) (key : K) → IsPlaced cmp places keys → lookup (is_at (cmp key)) places ≡ None → list_any (is_at (cmp key)) keys ≡ false
  absent-key places keys key placed none = none-passes (is_at (cmp key)) 0 keys (sym (placed.found key) ∙ none)

  -- one that is found stands there, and not before
  pub found-key : (places : List (K × ℕ)) (keys : List K) (key : K) (place : ℕ) → IsPlaced cmp places keys → lookup (is_at (cmp key)) places ≡ Some place → position (is_at (cmp key)) keys ≡ Some place
  found-key places keys key place placed found = position_from-zero (is_at (cmp key)) keys ∙ sym (placed.found key) ∙ found

  pub grows-none : (keys grown : List K) (places : List (K × ℕ)) → grown ≡ keys → Grows cmp keys places grown places
  grows-none keys grown places same = ([], same ∙ sym (append-nil keys), refl)

  without_each-append : (more last : List K) (places : List (K × ℕ)) → without_each cmp (more ++ last) places ≡ without_each cmp more (without_each cmp last places)
  without_each-append [] last places = refl
  without_each-append (k ∷ more) last places = ap (λ (es : List (K × ℕ)). remove_entry (is_at (cmp k)) es) (without_each-append more last places)

  pub grows-on : (keys middle grown : List K) (places between after : List (K × ℕ)) → Grows cmp keys places middle between → Grows cmp middle between grown after → Grows cmp keys places grown after
  grows-on keys middle grown places between after (more, is, back) (last, next, undone) = (
    more ++ last,
    next ∙ ap (λ ks. ks ++ last) is ∙ append_assoc keys more last,
    without_each-append more last after ∙ ap (λ es. without_each cmp more es) undone ∙ back,
  )

  pub grown-longer : (keys grown : List K) (places after : List (K × ℕ)) → Grows cmp keys places grown after → length keys ≤ length grown
  grown-longer keys grown places after (more, is, back) = let longer = length-append keys more in omega (arith, longer, ap length is)

  -- without the keys that came last it is as it was
  pub grown-back : (keys grown : List K) (places after : List (K × ℕ)) (count : ℕ) → count ≡ length keys → Grows cmp keys places grown after → without_each cmp (drop count grown) after ≡ places
  grown-back keys grown places after count counted (more, is, back) =
      ap (λ ks. without_each cmp ks after) (ap (drop count) is ∙ ap (λ n. drop n (keys ++ more)) counted ∙ drop-append_seam keys more) ∙ back

module _ {K : Type 0} (cmp : K → K → Ordering) (total : IsTotalOrder cmp) where
  -- a new key goes last
  pub placed-last : (places after : List (K × ℕ)) (keys : List K) (key : K) (place : ℕ) → IsPlaced cmp places keys → lookup (is_at (cmp key)) places ≡ None → place ≡ length places
      → ((q : K) → lookup (is_at (cmp q)) after ≡ cond (is_at (cmp key) q) (Some place) (lookup (is_at (cmp q)) places)) → length after ≡ length places + 1
      → IsPlaced cmp after (keys ++ key ∷ [])
  placed-last places after keys key place placed absent last finds longer = record {
    found = λ q. finds q ∙ split q (is_eq (cmp key q)) refl;
    counted = let one = length-append keys (key ∷ []) in omega (arith, one, longer, placed.counted);
  } where
    split : (q : K) (b : Bool) → is_eq (cmp key q) ≡ b → cond b (Some place) (lookup (is_at (cmp q)) places) ≡ position_from (is_at (cmp q)) 0 (keys ++ key ∷ [])
    split q true is =
        let here : is_eq (cmp q key) ≡ true = flips-by cmp total q key ∙ is in
        let none : position_from (is_at (cmp q)) 0 keys ≡ None = place-same (is_at (cmp q)) (is_at (cmp key)) (λ x. sym (follows-by cmp total key q x is)) 0 keys ∙ sym (placed.found key) ∙ absent in
        let counted : place ≡ 0 + length keys = omega (arith, last, placed.counted) in
        ap Some counted ∙ sym (place-last (is_at (cmp q)) 0 keys key none here)
    split q false is = placed.found q ∙ sym (place-kept (is_at (cmp q)) 0 keys key (flips-by cmp total q key ∙ is))
