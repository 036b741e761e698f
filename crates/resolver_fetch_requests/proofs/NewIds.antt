-- The next id is held by no request, while requests are fewer than ids.
use Rattle.std.proofs.Common.{◌≡◌, refl, ap, ◌∙◌, sym, ℕ, ◌+◌, ◌%◌, ◌^◌, ◌<◌, Bool, true, false, List, [], ◌∷◌, length, arith}
use Rattle.std.proofs.lemmas.Bool.Decides.{nat_tests}
use Rattle.std.proofs.lemmas.Grind.{common_steps}
use Rattle.std.proofs.lemmas.Cmp.{eq_by_cmp_equiv, nat_cmp_total}
use Rattle.std.proofs.lemmas.Map.Keys.{IsDistinct-cons}
use Rattle.std.proofs.lemmas.Map.Steps.{length-le_from_keys}
use Rattle.std.specs.List.{AllByRecursion, IsDistinct, list_any}
use Rattle.std.specs.Ordering.{eq_by_cmp, is_eq, nat_cmp}
use Rattle.std.specs.Prelude.{◌||◌, if◌then◌else◌}
use Rattle.resolver_fetch_requests.specs.declared.requests.request.Request.{Request}
use Rattle.resolver_fetch_requests.specs.Ids.{following, is_held, next_free, next_id}

-- the id that follows the last as the k-th
abbrev follows : (last k : ℕ) → ℕ
follows last k = (last + k) % 2 ^ 64

follows-next : (last k : ℕ) → following (follows last k) ≡ follows last (k + 1)
follows-next last k = omega arith

equal : (x y : ℕ) → is_eq (nat_cmp x y) ≡ true → x ≡ y
equal x y is = grind (arith, nat_tests, common_steps, is)

unequal : (x y : ℕ) → (x ≡ y → ⊥) → is_eq (nat_cmp x y) ≡ false
unequal x y differ = at (is_eq (nat_cmp x y)) refl where
  at : (b : Bool) → is_eq (nat_cmp x y) ≡ b → b ≡ false
  at true is = absurd (differ (equal x y is))
  at false is = refl

apart : (last j k : ℕ) → j < k → k < j + 2 ^ 64 → is_eq (nat_cmp (follows last j) (follows last k)) ≡ false
apart last j k less near = unequal (follows last j) (follows last k) (λ same. omega (arith, less, near, same))

none-distinct : IsDistinct (eq_by_cmp nat_cmp) []
unfolding IsDistinct
none-distinct = tt

module _ {K P : Type 0} where
  -- as many ids as these are, from the k-th on
  abbrev ids : (last k : ℕ) → List (ℕ × Request K P) → List ℕ
  ids last k [] = follows last k ∷ []
  ids last k (r ∷ more) = follows last k ∷ ids last (k + 1) more

  length-ids : (last k : ℕ) (more : List (ℕ × Request K P)) → length (ids last k more) ≡ length more + 1
  length-ids last k [] = refl
  length-ids last k (r ∷ more) = let rest = length-ids last (k + 1) more in omega (arith, rest)

  apart-ids : (last j k : ℕ) (more : List (ℕ × Request K P)) → j < k → k + length more < j + 2 ^ 64 → AllByRecursion (λ id. is_eq (nat_cmp (follows last j) id) ≡ false) (ids last k more)
  apart-ids last j k [] less near = (apart last j k less (omega (arith, near)), tt)
  apart-ids last j k (r ∷ more) less near = (apart last j k less (omega (arith, near)), apart-ids last j (k + 1) more (omega (arith, less)) (omega (arith, near)))

  distinct-ids : (last k : ℕ) (more : List (ℕ × Request K P)) → length more < 2 ^ 64 → IsDistinct (eq_by_cmp nat_cmp) (ids last k more)
  distinct-ids last k [] few = IsDistinct-cons (eq_by_cmp nat_cmp) (follows last k) [] tt none-distinct
  distinct-ids last k (r ∷ more) few =
      IsDistinct-cons (eq_by_cmp nat_cmp) (follows last k) (ids last (k + 1) more) (apart-ids last k (k + 1) more (omega arith) (omega (arith, few))) (distinct-ids last (k + 1) more (omega (arith, few)))

  -- where the next one is held, all are that were tried
  all-held : (asked more : List (ℕ × Request K P)) (last k : ℕ) → is_held asked (next_free asked more (follows last k)) ≡ true
      → (q : ℕ) → list_any (eq_by_cmp nat_cmp q) (ids last (k + 1) more) ≡ true → is_held asked q ≡ true
  all-held asked [] last k held q is = at (is_eq (nat_cmp q (follows last (k + 1)))) refl is where
    at : (c : Bool) → is_eq (nat_cmp q (follows last (k + 1))) ≡ c → (c || false) ≡ true → is_held asked q ≡ true
    at true same any = ap (is_held asked) (equal q (follows last (k + 1)) same ∙ sym (follows-next last k)) ∙ held
    at false other any = absurd cc
  all-held asked (r ∷ more) last k held q is =
      at (is_held asked (following (follows last k))) refl held (is_eq (nat_cmp q (follows last (k + 1)))) refl is
      (all-held asked more last (k + 1)) where
        at : (b : Bool) → is_held asked (following (follows last k)) ≡ b
            → is_held asked (if b then next_free asked more (following (follows last k)) else following (follows last k)) ≡ true
            → (c : Bool) → is_eq (nat_cmp q (follows last (k + 1))) ≡ c → (c || list_any (eq_by_cmp nat_cmp q) (ids last (k + 1 + 1) more)) ≡ true
            → (is_held asked (next_free asked more (follows last (k + 1))) ≡ true → (q : ℕ) → list_any (eq_by_cmp nat_cmp q) (ids last (k + 1 + 1) more) ≡ true → is_held asked q ≡ true)
            → is_held asked q ≡ true
        at true here there true same any rest = ap (is_held asked) (equal q (follows last (k + 1)) same ∙ sym (follows-next last k)) ∙ here
        at true here there false other any rest = rest (ap (λ l. is_held asked (next_free asked more l)) (sym (follows-next last k)) ∙ there) q any
        at false here there c same any rest = let clash : true ≡ false = sym there ∙ here in absurd cc

  -- the next id is held by none
  pub next-new : (asked : List (ℕ × Request K P)) (last : ℕ) → length asked < 2 ^ 64 → is_held asked (next_id asked last) ≡ false
  next-new asked last few = at (is_held asked (next_id asked last)) refl where
    wrapped : (last : ℕ) → following last ≡ following (follows last 0)
    wrapped last = omega arith

    starts : (more : List (ℕ × Request K P)) → next_free asked more last ≡ next_free asked more (follows last 0)
    starts [] = wrapped last
    starts (r ∷ more) = ap (λ l. if is_held asked l then next_free asked more l else l) (wrapped last)

    at : (b : Bool) → is_held asked (next_id asked last) ≡ b → b ≡ false
    at true held =
        let all = all-held asked asked last 0 (ap (is_held asked) (sym (starts asked)) ∙ held) in
        let many = length-le_from_keys (eq_by_cmp_equiv nat_cmp_total) (ids last 1 asked) asked (distinct-ids last 1 asked few) all in
        absurd (omega (arith, many, length-ids last 1 asked))
    at false free = refl
