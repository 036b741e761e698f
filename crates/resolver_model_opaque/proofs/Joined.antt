-- Two parts that hold the same keys, seen as one map of rows. Each word on the rows is the word on both parts.
use Rattle.std.proofs.Common.{◌≡◌, refl, ap, ◌∙◌, sym, Bool, true, false, cond, List, [], ◌∷◌, None, Some, is_some, ℕ}
use Rattle.std.specs.Option.{option_map}
use Rattle.std.specs.Ordering.{match_ordering}
use Rattle.std.specs.declared.cmp.Ordering.{Ordering}
use Rattle.std.specs.declared.cmp.Ordering.TheVariants.{Less, Equal, Greater}
use Rattle.std.specs.Map.{keys_of, lookup, set_value, remove_entry}
use Rattle.std.specs.BTreeMap.{insert_entry}
use Rattle.std.proofs.lemmas.Map.Made.{lookup-map_values}
use Rattle.resolver_model_opaque.specs.OpaqueStages.{Kept}
use Rattle.resolver_model_opaque.specs.OpaqueTables.{joined, row_of, rows_of}
use Rattle.resolver_model.proofs.Mapped.{seen, set_value-seen, insert_entry-seen, remove_entry-seen}

module _ {K X Y : Type 0} where
  pub head_key : (e : K × X) (es : List (K × X)) (f : K × Y) (fs : List (K × Y)) → keys_of (e ∷ es) ≡ keys_of (f ∷ fs) → e.0 ≡ f.0
  head_key e es f fs same = cc

  pub tail_keys : (e : K × X) (es : List (K × X)) (f : K × Y) (fs : List (K × Y)) → keys_of (e ∷ es) ≡ keys_of (f ∷ fs) → keys_of es ≡ keys_of fs
  tail_keys e es f fs same = cc

  pub joined-insert_entry : (cmp : K → K → Ordering) (es : List (K × X)) (fs : List (K × Y)) (k : K) (x : X) (y : Y) → keys_of es ≡ keys_of fs
      → joined (insert_entry cmp es k x) (insert_entry cmp fs k y) ≡ insert_entry cmp (joined es fs) k (x, y)
  joined-insert_entry cmp [] [] k x y same = refl
  joined-insert_entry cmp [] (f ∷ fs) k x y same = cc
  joined-insert_entry cmp (e ∷ es) [] k x y same = cc
  joined-insert_entry cmp (e ∷ es) (f ∷ fs) k x y same =
      ap (λ o. joined (match_ordering (cmp k e.0) ((k, x) ∷ e ∷ es) ((e.0, x) ∷ es) (e ∷ insert_entry cmp es k x)) (match_ordering o ((k, y) ∷ f ∷ fs) ((f.0, y) ∷ fs) (f ∷ insert_entry cmp fs k y)))
      (ap (cmp k) (sym (head_key e es f fs same)))
      ∙ at (cmp k e.0) (joined-insert_entry cmp es fs k x y (tail_keys e es f fs same))
    where
      at : (o : Ordering) → joined (insert_entry cmp es k x) (insert_entry cmp fs k y) ≡ insert_entry cmp (joined es fs) k (x, y)
          → joined (match_ordering o ((k, x) ∷ e ∷ es) ((e.0, x) ∷ es) (e ∷ insert_entry cmp es k x)) (match_ordering o ((k, y) ∷ f ∷ fs) ((f.0, y) ∷ fs) (f ∷ insert_entry cmp fs k y))
          ≡ match_ordering o ((k, (x, y)) ∷ (e.0, (e.1, f.1)) ∷ joined es fs) ((e.0, (x, y)) ∷ joined es fs) ((e.0, (e.1, f.1)) ∷ insert_entry cmp (joined es fs) k (x, y))
      at Less rest = refl
      at Equal rest = refl
      at Greater rest = ap (λ rs. (e.0, (e.1, f.1)) ∷ rs) rest

  pub joined-remove_entry : (test : K → Bool) (es : List (K × X)) (fs : List (K × Y)) → keys_of es ≡ keys_of fs
      → joined (remove_entry test es) (remove_entry test fs) ≡ remove_entry test (joined es fs)
  joined-remove_entry test [] [] same = refl
  joined-remove_entry test [] (f ∷ fs) same = cc
  joined-remove_entry test (e ∷ es) [] same = cc
  joined-remove_entry test (e ∷ es) (f ∷ fs) same =
      ap (λ b. joined (cond (test e.0) es (e ∷ remove_entry test es)) (cond b fs (f ∷ remove_entry test fs))) (ap test (sym (head_key e es f fs same)))
      ∙ at (test e.0) (joined-remove_entry test es fs (tail_keys e es f fs same))
    where
      at : (b : Bool) → joined (remove_entry test es) (remove_entry test fs) ≡ remove_entry test (joined es fs)
          → joined (cond b es (e ∷ remove_entry test es)) (cond b fs (f ∷ remove_entry test fs)) ≡ cond b (joined es fs) ((e.0, (e.1, f.1)) ∷ remove_entry test (joined es fs))
      at true rest = refl
      at false rest = ap (λ rs. (e.0, (e.1, f.1)) ∷ rs) rest

  -- a write in the first part alone
  pub joined-set_value : (test : K → Bool) (es : List (K × X)) (fs : List (K × Y)) (x : X) (y : Y) → keys_of es ≡ keys_of fs → lookup test fs ≡ Some y
      → joined (set_value test es x) fs ≡ set_value test (joined es fs) (x, y)
  joined-set_value test [] [] x y same found = refl
  joined-set_value test [] (f ∷ fs) x y same found = cc
  joined-set_value test (e ∷ es) [] x y same found = cc
  joined-set_value test (e ∷ es) (f ∷ fs) x y same found =
      at (test e.0) (ap (λ b. cond b (Some f.1) (lookup test fs)) (ap test (head_key e es f fs same)) ∙ found) (λ later. joined-set_value test es fs x y (tail_keys e es f fs same) later)
    where
      at : (b : Bool) → cond b (Some f.1) (lookup test fs) ≡ Some y → (lookup test fs ≡ Some y → joined (set_value test es x) fs ≡ set_value test (joined es fs) (x, y))
          → joined (cond b ((e.0, x) ∷ es) (e ∷ set_value test es x)) (f ∷ fs) ≡ cond b ((e.0, (x, y)) ∷ joined es fs) ((e.0, (e.1, f.1)) ∷ set_value test (joined es fs) (x, y))
      at true is rest = let same_value : f.1 ≡ y = cc in ap (λ v. (e.0, (x, v)) ∷ joined es fs) same_value
      at false is rest = ap (λ rs. (e.0, (e.1, f.1)) ∷ rs) (rest is)

  -- a write in the second part alone
  pub joined-set_second : (test : K → Bool) (es : List (K × X)) (fs : List (K × Y)) (x : X) (y : Y) → keys_of es ≡ keys_of fs → lookup test es ≡ Some x
      → joined es (set_value test fs y) ≡ set_value test (joined es fs) (x, y)
  joined-set_second test [] [] x y same found = refl
  joined-set_second test [] (f ∷ fs) x y same found = cc
  joined-set_second test (e ∷ es) [] x y same found = cc
  joined-set_second test (e ∷ es) (f ∷ fs) x y same found =
      ap (λ b. joined (e ∷ es) (cond b ((f.0, y) ∷ fs) (f ∷ set_value test fs y))) (ap test (sym (head_key e es f fs same)))
      ∙ at (test e.0) found (λ later. joined-set_second test es fs x y (tail_keys e es f fs same) later)
    where
      at : (b : Bool) → cond b (Some e.1) (lookup test es) ≡ Some x → (lookup test es ≡ Some x → joined es (set_value test fs y) ≡ set_value test (joined es fs) (x, y))
          → joined (e ∷ es) (cond b ((f.0, y) ∷ fs) (f ∷ set_value test fs y)) ≡ cond b ((e.0, (x, y)) ∷ joined es fs) ((e.0, (e.1, f.1)) ∷ set_value test (joined es fs) (x, y))
      at true is rest = let same_value : e.1 ≡ x = cc in ap (λ v. (e.0, (v, y)) ∷ joined es fs) same_value
      at false is rest = ap (λ rs. (e.0, (e.1, f.1)) ∷ rs) (rest is)

  -- what is found in both parts
  pub joined-found : (test : K → Bool) (es : List (K × X)) (fs : List (K × Y)) (x : X) (y : Y) → keys_of es ≡ keys_of fs
      → lookup test es ≡ Some x → lookup test fs ≡ Some y → lookup test (joined es fs) ≡ Some (x, y)
  joined-found test [] fs x y same first second = cc
  joined-found test (e ∷ es) [] x y same first second = cc
  joined-found test (e ∷ es) (f ∷ fs) x y same first second =
      at (test e.0) first (ap (λ b. cond b (Some f.1) (lookup test fs)) (ap test (head_key e es f fs same)) ∙ second) (λ one other. joined-found test es fs x y (tail_keys e es f fs same) one other)
    where
      at : (b : Bool) → cond b (Some e.1) (lookup test es) ≡ Some x → cond b (Some f.1) (lookup test fs) ≡ Some y
          → (lookup test es ≡ Some x → lookup test fs ≡ Some y → lookup test (joined es fs) ≡ Some (x, y))
          → cond b (Some (e.1, f.1)) (lookup test (joined es fs)) ≡ Some (x, y)
      at true one other rest = let same_first : e.1 ≡ x = cc in let same_second : f.1 ≡ y = cc in ap (λ v. Some (v, f.1)) same_first ∙ ap (λ w. Some (x, w)) same_second
      at false one other rest = rest one other

  -- what is found in neither
  pub joined-none : (test : K → Bool) (es : List (K × X)) (fs : List (K × Y)) → lookup test es ≡ None → lookup test (joined es fs) ≡ None
  joined-none test [] fs none = refl
  joined-none test (e ∷ es) [] none = refl
  joined-none test (e ∷ es) (f ∷ fs) none = at (test e.0) none (λ later. joined-none test es fs later)
    where
      at : (b : Bool) → cond b (Some e.1) (lookup test es) ≡ None → (lookup test es ≡ None → lookup test (joined es fs) ≡ None) → cond b (Some (e.1, f.1)) (lookup test (joined es fs)) ≡ None
      at true none rest = cc
      at false none rest = rest none

  -- both parts have a key, or neither
  pub same_found : (test : K → Bool) (es : List (K × X)) (fs : List (K × Y)) → keys_of es ≡ keys_of fs → is_some (lookup test es) ≡ is_some (lookup test fs)
  same_found test [] [] same = refl
  same_found test [] (f ∷ fs) same = cc
  same_found test (e ∷ es) [] same = cc
  same_found test (e ∷ es) (f ∷ fs) same =
      at (test e.0) (same_found test es fs (tail_keys e es f fs same)) ∙ ap (λ b. is_some (cond b (Some f.1) (lookup test fs))) (ap test (head_key e es f fs same))
    where
      at : (b : Bool) → is_some (lookup test es) ≡ is_some (lookup test fs) → is_some (cond b (Some e.1) (lookup test es)) ≡ is_some (cond b (Some f.1) (lookup test fs))
      at true rest = refl
      at false rest = rest

  pub keys-joined : (es : List (K × X)) (fs : List (K × Y)) → keys_of es ≡ keys_of fs → keys_of (joined es fs) ≡ keys_of es
  keys-joined [] fs same = refl
  keys-joined (e ∷ es) [] same = cc
  keys-joined (e ∷ es) (f ∷ fs) same = ap (λ ks. e.0 ∷ ks) (keys-joined es fs (tail_keys e es f fs same))

  pub keys-inserted : (cmp : K → K → Ordering) (es : List (K × X)) (fs : List (K × Y)) (k : K) (x : X) (y : Y) → keys_of es ≡ keys_of fs
      → keys_of (insert_entry cmp es k x) ≡ keys_of (insert_entry cmp fs k y)
  keys-inserted cmp [] [] k x y same = refl
  keys-inserted cmp [] (f ∷ fs) k x y same = cc
  keys-inserted cmp (e ∷ es) [] k x y same = cc
  keys-inserted cmp (e ∷ es) (f ∷ fs) k x y same =
      ap (λ h. keys_of (match_ordering (cmp k h) ((k, x) ∷ e ∷ es) ((e.0, x) ∷ es) (e ∷ insert_entry cmp es k x))) (head_key e es f fs same)
      ∙ at (cmp k f.0) (keys-inserted cmp es fs k x y (tail_keys e es f fs same))
    where
      at : (o : Ordering) → keys_of (insert_entry cmp es k x) ≡ keys_of (insert_entry cmp fs k y)
          → keys_of (match_ordering o ((k, x) ∷ e ∷ es) ((e.0, x) ∷ es) (e ∷ insert_entry cmp es k x)) ≡ keys_of (match_ordering o ((k, y) ∷ f ∷ fs) ((f.0, y) ∷ fs) (f ∷ insert_entry cmp fs k y))
      at Less rest = ap (λ ks. k ∷ ks) same
      at Equal rest = same
      at Greater rest = ap (λ h. h ∷ keys_of (insert_entry cmp es k x)) (head_key e es f fs same) ∙ ap (λ ks. f.0 ∷ ks) rest

  pub keys-removed : (test : K → Bool) (es : List (K × X)) (fs : List (K × Y)) → keys_of es ≡ keys_of fs → keys_of (remove_entry test es) ≡ keys_of (remove_entry test fs)
  keys-removed test [] [] same = refl
  keys-removed test [] (f ∷ fs) same = cc
  keys-removed test (e ∷ es) [] same = cc
  keys-removed test (e ∷ es) (f ∷ fs) same =
      ap (λ h. keys_of (cond (test h) es (e ∷ remove_entry test es))) (head_key e es f fs same)
      ∙ at (test f.0) (keys-removed test es fs (tail_keys e es f fs same))
    where
      at : (b : Bool) → keys_of (remove_entry test es) ≡ keys_of (remove_entry test fs) → keys_of (cond b es (e ∷ remove_entry test es)) ≡ keys_of (cond b fs (f ∷ remove_entry test fs))
      at true rest = tail_keys e es f fs same
      at false rest = ap (λ h. h ∷ keys_of (remove_entry test es)) (head_key e es f fs same) ∙ ap (λ ks. f.0 ∷ ks) rest

module _ {K V S : Type 0} where
  pub rows-found : (test : K → Bool) (ts : List (K × List (S × ℕ))) (es : List (K × Kept V)) (x : List (S × ℕ)) (y : Kept V) → keys_of ts ≡ keys_of es
      → lookup test ts ≡ Some x → lookup test es ≡ Some y → lookup test (rows_of ts es) ≡ Some (row_of (x, y))
  rows-found test ts es x y same first second =
      lookup-map_values row_of test (joined ts es) ∙ ap (option_map row_of) (joined-found test ts es x y same first second)

  pub rows-none : (test : K → Bool) (ts : List (K × List (S × ℕ))) (es : List (K × Kept V)) → lookup test ts ≡ None → lookup test (rows_of ts es) ≡ None
  rows-none test ts es none = lookup-map_values row_of test (joined ts es) ∙ ap (option_map row_of) (joined-none test ts es none)

  pub keys-rows : (ts : List (K × List (S × ℕ))) (es : List (K × Kept V)) → keys_of ts ≡ keys_of es → keys_of (rows_of ts es) ≡ keys_of ts
  keys-rows [] es same = refl
  keys-rows (t ∷ ts) [] same = cc
  keys-rows (t ∷ ts) (e ∷ es) same = ap (λ ks. t.0 ∷ ks) (keys-rows ts es (tail_keys t ts e es same))

  pub rows-set_demand : (test : K → Bool) (ts : List (K × List (S × ℕ))) (es : List (K × Kept V)) (x : List (S × ℕ)) (y : Kept V) → keys_of ts ≡ keys_of es
      → lookup test es ≡ Some y → set_value test (rows_of ts es) (row_of (x, y)) ≡ rows_of (set_value test ts x) es
  rows-set_demand test ts es x y same found = set_value-seen row_of test (joined ts es) (x, y) ∙ ap (seen row_of) (sym (joined-set_value test ts es x y same found))

  pub rows-set_keys : (test : K → Bool) (ts : List (K × List (S × ℕ))) (es : List (K × Kept V)) (x : List (S × ℕ)) (y : Kept V) → keys_of ts ≡ keys_of es
      → lookup test ts ≡ Some x → set_value test (rows_of ts es) (row_of (x, y)) ≡ rows_of ts (set_value test es y)
  rows-set_keys test ts es x y same found = set_value-seen row_of test (joined ts es) (x, y) ∙ ap (seen row_of) (sym (joined-set_second test ts es x y same found))

  pub rows-inserted : (cmp : K → K → Ordering) (ts : List (K × List (S × ℕ))) (es : List (K × Kept V)) (k : K) (x : List (S × ℕ)) (y : Kept V) → keys_of ts ≡ keys_of es
      → insert_entry cmp (rows_of ts es) k (row_of (x, y)) ≡ rows_of (insert_entry cmp ts k x) (insert_entry cmp es k y)
  rows-inserted cmp ts es k x y same = insert_entry-seen row_of cmp (joined ts es) k (x, y) ∙ ap (seen row_of) (sym (joined-insert_entry cmp ts es k x y same))

  pub rows-removed : (test : K → Bool) (ts : List (K × List (S × ℕ))) (es : List (K × Kept V)) → keys_of ts ≡ keys_of es
      → remove_entry test (rows_of ts es) ≡ rows_of (remove_entry test ts) (remove_entry test es)
  rows-removed test ts es same = remove_entry-seen row_of test (joined ts es) ∙ ap (seen row_of) (sym (joined-remove_entry test ts es same))
