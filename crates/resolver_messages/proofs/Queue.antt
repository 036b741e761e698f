-- A batch and the places of its keys.
use Rattle.std.proofs.Common.{◌≡◌, ◌∙◌, sym, ap, refl, ◌<◌, Bool, true, false, ℕ, zero, suc, List, [], ◌∷◌, ◌++◌, Option, Some, length, map, get_or, set, take, ◌≤◌, ◌-◌, length-append, arith}
use Rattle.std.specs.Prelude.{◌||◌}
use Rattle.std.specs.List.{list_any, position}
use Rattle.std.proofs.lemmas.List.Quantifiers.{position-Some}
use Rattle.std.proofs.lemmas.List.{map-set}
use Rattle.std.proofs.Math.Seq.{map-set_same, take-append_seam}
use Rattle.std.specs.BTreeMap.{is_at}
use Rattle.std.specs.Map.{lookup}
use Rattle.std.specs.declared.cmp.Ordering.{Ordering}
use Rattle.resolver_messages.specs.Places.{IsPlaced}
use Rattle.resolver_messages.proofs.PlacesOfKeys.{found-key}
use Rattle.resolver_types.specs.Names.{Names, same_key}
use Rattle.resolver_messages.specs.declared.message.FetchKey.{FetchKey}
use Rattle.resolver_messages.specs.Waiting.{Item, item_of, keys_of_items, merged_item, queued, undone, undone_all}

pub set-beyond : {A : Type 0} (xs : List A) (i : ℕ) (x : A) → length xs ≤ i → set xs i x ≡ xs
set-beyond [] i x beyond = refl
set-beyond (z ∷ xs) zero x beyond = absurd (omega (arith, beyond))
set-beyond (z ∷ xs) (suc i) x beyond = ap (λ ys. z ∷ ys) (set-beyond xs i x (omega (arith, beyond)))

-- an item that is set back
pub set-back : {A : Type 0} (xs : List A) (i : ℕ) (x y : A) → y ≡ get_or xs i y → set (set xs i x) i y ≡ xs
set-back [] i x y is = refl
set-back (z ∷ xs) zero x y is = ap (λ w. w ∷ xs) is
set-back (z ∷ xs) (suc i) x y is = ap (λ ys. z ∷ ys) (set-back xs i x y is)

pub get_or-keys : {K S M : Type 0} (fetches : List (FetchKey K S M)) (i : ℕ) (d : FetchKey K S M) → get_or (keys_of_items fetches) i d.key ≡ (get_or fetches i d).key
get_or-keys [] i d = refl
get_or-keys (fetch ∷ fetches) zero d = refl
get_or-keys (fetch ∷ fetches) (suc i) d = get_or-keys fetches i d

pub length-keys : {K S M : Type 0} (fetches : List (FetchKey K S M)) → length (keys_of_items fetches) ≡ length fetches
length-keys [] = refl
length-keys (fetch ∷ fetches) = ap suc (length-keys fetches)

-- the keys stay
pub keys-present : {K S M : Type 0} (fetches : List (FetchKey K S M)) (i : ℕ) (earlier both : FetchKey K S M) → earlier ≡ get_or fetches i earlier → both.key ≡ earlier.key
    → keys_of_items (set fetches i both) ≡ keys_of_items fetches
keys-present {K = K} {S = S} {M = M} fetches i earlier both is same = map-set_same (λ (fetch : FetchKey K S M). fetch.key) fetches i both earlier (same ∙ ap (λ fetch. fetch.key) is)

-- the key of one that goes last goes last
pub keys-push : {K S M : Type 0} (fetches : List (FetchKey K S M)) (later : FetchKey K S M) → keys_of_items (fetches ++ later ∷ []) ≡ keys_of_items fetches ++ later.key ∷ []
keys-push [] later = refl
keys-push (fetch ∷ fetches) later = ap (λ keys. fetch.key ∷ keys) (keys-push fetches later)

pub keys-pushed : {K S M : Type 0} (fetches others : List (FetchKey K S M)) (later : FetchKey K S M) (key : K) → others ≡ fetches ++ later ∷ [] → key ≡ later.key → keys_of_items others ≡ keys_of_items fetches ++ key ∷ []
keys-pushed fetches others later key is same = ap keys_of_items is ∙ keys-push fetches later ∙ ap (λ k. keys_of_items fetches ++ k ∷ []) (sym same)

-- the place that is found for a key is one in the batch
pub within-batch : {K S M : Type 0} (cmp : K → K → Ordering) (places : List (K × ℕ)) (fetches : List (FetchKey K S M)) (key : K) (place : ℕ) → IsPlaced cmp places (keys_of_items fetches) → lookup (is_at (cmp key)) places ≡ Some place → place < length fetches
within-batch cmp places fetches key place placed found =
    let stands = position-Some (is_at (cmp key)) (keys_of_items fetches) place key (found-key cmp places (keys_of_items fetches) key place placed found) in
    let lengths = length-keys fetches in
    rw (sym lengths) stands.0

-- one that went last goes
pub undone-push : {A : Type 0} (xs : List A) (x : A) → take (length (xs ++ x ∷ []) - 1) (xs ++ x ∷ []) ≡ xs
undone-push xs x =
    let longer : length (xs ++ x ∷ []) - 1 ≡ length xs = let one = length-append xs (x ∷ []) in omega (arith, one) in
    ap (λ n. take n (xs ++ x ∷ [])) longer ∙ take-append_seam xs (x ∷ [])

-- the change that came last is undone first
pub undone_all-push : {K S M : Type 0} (changes : List (Option (ℕ × FetchKey K S M))) (change : Option (ℕ × FetchKey K S M)) (batch : List (FetchKey K S M))
    → undone_all (changes ++ change ∷ []) batch ≡ undone_all changes (undone change batch)
undone_all-push [] change batch = refl
undone_all-push (first ∷ changes) change batch = ap (undone first) (undone_all-push changes change batch)

module _ {K S M : Type 0} (n : Names K S) (merged : M → M → M) where
  -- a new key goes last
  pub queued-absent : (fetches : List (FetchKey K S M)) (later : FetchKey K S M) → list_any (is_at (n.key later.key)) (keys_of_items fetches) ≡ false
      → map item_of (fetches ++ later ∷ []) ≡ queued n merged (map item_of fetches) (item_of later)
  queued-absent [] later h = refl
  queued-absent (fetch ∷ fetches) later h = cases (queued-absent fetches later) (same_key n later.key fetch.key) refl h where
    cases : (list_any (is_at (n.key later.key)) (keys_of_items fetches) ≡ false → map item_of (fetches ++ later ∷ []) ≡ queued n merged (map item_of fetches) (item_of later))
        → (b : Bool) → same_key n later.key fetch.key ≡ b → (b || list_any (is_at (n.key later.key)) (keys_of_items fetches)) ≡ false
        → item_of fetch ∷ map item_of (fetches ++ later ∷ []) ≡ queued n merged (item_of fetch ∷ map item_of fetches) (item_of later)
    cases after true is g = absurd (let wrong = g in cc)
    cases after false is g = rw (is, after g) refl

  -- a key that is there takes the fetch at its first place
  queued-at : (fetches : List (FetchKey K S M)) (later : Item K S M) (i : ℕ) (d : FetchKey K S M) → i < length fetches
      → same_key n later.key (get_or fetches i d).key ≡ true → ((k : ℕ) → k < i → same_key n later.key (get_or fetches k d).key ≡ false)
      → queued n merged (map item_of fetches) later ≡ set (map item_of fetches) i (merged_item n.subscriber merged (item_of (get_or fetches i d)) later)
  queued-at [] later i d within here before = absurd (omega (arith, within))
  queued-at (fetch ∷ fetches) later zero d within here before = let is : same_key n later.key fetch.key ≡ true = here in rw is refl
  queued-at (fetch ∷ fetches) later (suc i) d within here before =
      let is : same_key n later.key fetch.key ≡ false = before 0 (omega arith) in
      rw is (ap (λ items. item_of fetch ∷ items) (queued-at fetches later i d (omega (arith, within)) here (λ k below. before (suc k) (omega (arith, below)))))

  pub queued-present : (fetches : List (FetchKey K S M)) (later : Item K S M) (i : ℕ) (earlier both : FetchKey K S M)
      → position (is_at (n.key later.key)) (keys_of_items fetches) ≡ Some i → earlier ≡ get_or fetches i earlier
      → item_of both ≡ merged_item n.subscriber merged (item_of earlier) later
      → map item_of (set fetches i both) ≡ queued n merged (map item_of fetches) later
  queued-present fetches later i earlier both found is merges =
      let place = position-Some (is_at (n.key later.key)) (keys_of_items fetches) i earlier.key found in
      let lengths = length-keys fetches in
      let within : i < length fetches = rw (sym lengths) place.0 in
      map-set item_of fetches i both
      ∙ ap (λ item. set (map item_of fetches) i item) (merges ∙ ap (λ fetch. merged_item n.subscriber merged (item_of fetch) later) is)
      ∙ sym (queued-at fetches later i earlier within
      (ap (λ key. same_key n later.key key) (sym (get_or-keys fetches i earlier)) ∙ place.1)
      (λ k below. ap (λ key. same_key n later.key key) (sym (get_or-keys fetches k earlier)) ∙ place.2 k below))
