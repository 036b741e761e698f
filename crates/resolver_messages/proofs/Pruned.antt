-- What is kept of a batch, one fetch after another.
use Rattle.std.proofs.Common.{◌≡◌, ◌∙◌, sym, ap, refl, ◌<◌, Bool, true, false, ℕ, List, [], ◌∷◌, ◌++◌, cond, length, map, filter, nat_lt, rules, subst}
use Rattle.std.specs.Prelude.{◌||◌}
use Rattle.std.specs.List.{list_any}
use Rattle.std.specs.BTreeMap.{is_at}
use Rattle.std.specs.Ordering.{is_eq}
use Rattle.std.specs.declared.cmp.Ordering.{Ordering}
use Rattle.resolver_types.specs.Names.{Names, same_key}
use Rattle.resolver_messages.specs.declared.message.FetchKey.{FetchKey}
use Rattle.resolver_messages.specs.Waiting.{IsApart, Item, has_subscribers, item_of, kept, keys_kept, keys_of_items, pruned}
use Rattle.resolver_types.proofs.Filtered.{list_any-filter}

module _ {K S M : Type 0} (keep : K → S → Bool) where
  pub kept-none : (item : Item K S M) → filter (λ (s : S × ℕ). keep item.key s.0) item.subscribers ≡ [] → ◌≡◌ {A = List (Item K S M)} [] (kept keep (item ∷ []))
  kept-none item none = rw none refl

  pub kept-some : (item : Item K S M) (left : List (S × ℕ)) → left ≡ filter (λ (s : S × ℕ). keep item.key s.0) item.subscribers → 0 < length left
      → record item { subscribers = left } ∷ [] ≡ kept keep (item ∷ [])
  kept-some item left is some =
      let has : nat_lt 0 (length left) ≡ true = search (rules, some) in
      rw (sym is, has) refl

  pub kept-cons : (item : Item K S M) (rest : List (Item K S M)) → kept keep (item ∷ rest) ≡ kept keep (item ∷ []) ++ kept keep rest
  kept-cons item rest = cases (has_subscribers (pruned keep item)) where
    cases : (b : Bool) → cond b (pruned keep item ∷ kept keep rest) (kept keep rest) ≡ cond b (pruned keep item ∷ []) [] ++ kept keep rest
    cases true = refl
    cases false = refl

  pub keys_kept-cons : (item : FetchKey K S M) (rest : List (FetchKey K S M))
      → keys_kept keep (item ∷ rest) ≡ cond (list_any (λ (s : S × ℕ). keep item.key s.0) item.subscribers) (item.key ∷ keys_kept keep rest) (keys_kept keep rest)
  keys_kept-cons item rest = rw (sym (list_any-filter (λ (s : S × ℕ). keep item.key s.0) item.subscribers)) (cases (has_subscribers (pruned keep (item_of item)))) where
    cases : (b : Bool) → map (λ (i : Item K S M). i.key) (cond b (pruned keep (item_of item) ∷ kept keep (map item_of rest)) (kept keep (map item_of rest))) ≡ cond b (item.key ∷ keys_kept keep rest) (keys_kept keep rest)
    cases true = refl
    cases false = refl

module _ {K S M : Type 0} (n : Names K S) (keep : K → S → Bool) where
  -- a key that no fetch has, none has that is kept
  absent-kept : (batch : List (Item K S M)) (a : K) → list_any (λ (other : Item K S M). same_key n a other.key) batch ≡ false → list_any (λ (other : Item K S M). same_key n a other.key) (kept keep batch) ≡ false
  absent-kept [] a h = refl
  absent-kept (item ∷ batch) a h = cases (absent-kept batch a) (same_key n a item.key) refl h (has_subscribers (pruned keep item)) where
    cases : (list_any (λ (other : Item K S M). same_key n a other.key) batch ≡ false → list_any (λ (other : Item K S M). same_key n a other.key) (kept keep batch) ≡ false)
        → (b : Bool) → same_key n a item.key ≡ b → (b || list_any (λ (other : Item K S M). same_key n a other.key) batch) ≡ false → (t : Bool)
        → list_any (λ (other : Item K S M). same_key n a other.key) (cond t (pruned keep item ∷ kept keep batch) (kept keep batch)) ≡ false
    cases after true is g t = absurd (let wrong = g in cc)
    cases after false is g true = rw is (after g)
    cases after false is g false = after g

  pub apart-kept : (batch : List (Item K S M)) → IsApart n batch → IsApart n (kept keep batch)
  apart-kept [] apart = apart
  apart-kept (item ∷ batch) apart = cases (absent-kept batch item.key apart.0) (apart-kept batch apart.1) (has_subscribers (pruned keep item)) where
    cases : list_any (λ (other : Item K S M). same_key n item.key other.key) (kept keep batch) ≡ false → IsApart n (kept keep batch) → (t : Bool) → IsApart n (cond t (pruned keep item ∷ kept keep batch) (kept keep batch))
    cases absent after true = (absent, after)
    cases absent after false = after

module _ {K : Type 0} where
  -- where none passes, that one doesn't
  fails-at : (t : K → Bool) (done : List K) (k : K) (rest : List K) → list_any t (done ++ k ∷ rest) ≡ false → t k ≡ false
  fails-at t [] k rest h = split (t k) h where
    split : (b : Bool) → (b || list_any t rest) ≡ false → b ≡ false
    split true h = absurd (let wrong = h in cc)
    split false h = refl
  fails-at t (d ∷ done) k rest h = split (fails-at t done k rest) (t d) h where
    split : (list_any t (done ++ k ∷ rest) ≡ false → t k ≡ false) → (b : Bool) → (b || list_any t (done ++ k ∷ rest)) ≡ false → t k ≡ false
    split more true h = absurd (let wrong = h in cc)
    split more false h = more h

module _ {K : Type 0} (cmp : K → K → Ordering) where
  -- no key stands twice
  abbrev AreApart : List K → Type 0
  AreApart [] = Unit {0}
  AreApart (key ∷ keys) = (list_any (is_at (cmp key)) keys ≡ false) × AreApart keys

  absent-before : ((a b : K) → is_eq (cmp a b) ≡ is_eq (cmp b a)) → (done : List K) (key : K) (rest : List K) → AreApart (done ++ key ∷ rest) → list_any (is_at (cmp key)) done ≡ false
  absent-before flips [] key rest apart = refl
  absent-before flips (d ∷ done) key rest apart =
      let other : is_eq (cmp key d) ≡ false = flips key d ∙ fails-at (is_at (cmp d)) done key rest apart.0 in
      rw other (absent-before flips done key rest apart.1)

module _ {K S M : Type 0} (n : Names K S) where
  among-keys : (a : K) (items : List (Item K S M)) → list_any (is_at (n.key a)) (map (λ (item : Item K S M). item.key) items) ≡ list_any (λ (other : Item K S M). same_key n a other.key) items
  among-keys a [] = refl
  among-keys a (item ∷ items) = ap (λ (b : Bool). same_key n a item.key || b) (among-keys a items)

  apart-keys : (items : List (Item K S M)) → IsApart n items → AreApart n.key (map (λ (item : Item K S M). item.key) items)
  apart-keys [] apart = tt
  apart-keys (item ∷ items) apart = (among-keys item.key items ∙ apart.0, apart-keys items apart.1)

  -- of keys that stand once, none of those before is the next one
  pub absent-next : ((a b : K) → same_key n a b ≡ same_key n b a) → (items : List (Item K S M)) (done : List K) (key : K) (rest : List K) → IsApart n items → done ++ key ∷ rest ≡ map (λ (item : Item K S M). item.key) items → list_any (is_at (n.key key)) done ≡ false
  absent-next flips items done key rest apart is = absent-before n.key flips done key rest (subst (λ (keys : List K). AreApart n.key keys) (sym is) (apart-keys items apart))

pub keys-of-items : {K S M : Type 0} (fetches : List (FetchKey K S M)) → keys_of_items fetches ≡ map (λ (item : Item K S M). item.key) (map item_of fetches)
keys-of-items [] = refl
keys-of-items {K = K} {S = S} {M = M} (fetch ∷ fetches) = ap (λ keys. fetch.key ∷ keys) (keys-of-items {K = K} {S = S} {M = M} fetches)
