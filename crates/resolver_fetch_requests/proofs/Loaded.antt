-- How many requests a peer has, where one is put, taken out or let go.
use Rattle.std.proofs.Common.{◌≡◌, refl, ap, sym, ◌∙◌, ℕ, ◌+◌, ◌-◌, ◌≤◌, Bool, true, false, cond, List, [], ◌∷◌, length, filter, Option, None, Some, is_some, if◌then◌else◌, inl, inr, arith}
use Rattle.std.specs.Cmp.{IsTotalOrder}
use Rattle.std.specs.Prelude.{IsSome, nat_lt, option_map, unwrap_or}
use Rattle.std.specs.List.Sorted.{IsStrictlySortedBy}
use Rattle.std.proofs.lemmas.Bool.{cases_lt, le-ltb, lt-ltb}
use Rattle.std.proofs.lemmas.Map.Keys.{IsDistinct-from_sorted}
use Rattle.std.proofs.lemmas.Map.Entries.{lookup-filter-values, option_filter}
use Rattle.std.specs.Map.{keys_of, lookup, set_value}
use Rattle.std.proofs.lemmas.Cmp.{eq_by_cmp_equiv}
use Rattle.std.proofs.lemmas.Map.{lookup-set_value}
use Rattle.std.specs.BTreeMap.{insert_entry, is_at}
use Rattle.std.specs.Ordering.{is_eq, match_ordering, nat_cmp}
use Rattle.std.specs.declared.cmp.Ordering.{Ordering}
use Rattle.std.specs.declared.cmp.Ordering.TheVariants.{Less, Equal, Greater}
use Rattle.resolver_fetch_requests.specs.declared.requests.request.Request.{Request}
use Rattle.resolver_fetch_requests.specs.Ids.{is_held}
use Rattle.resolver_fetch_requests.specs.Loads.{counted, load_of, loaded, one_fewer, one_more}
use Rattle.resolver_fetch_requests.proofs.Names.{lookup-same}
use Rattle.resolver_fetch_requests.specs.Requests.{is_to, request_of, requests_to, without_request}

-- one more where this is so
abbrev pub more_if : Bool → ℕ → ℕ
more_if b n = if b then n + 1 else n

fewer-than-more : (b : Bool) (n m : ℕ) → n ≡ more_if b m → m ≡ (if b then n - 1 else n)
fewer-than-more true n m e = omega (arith, e)
fewer-than-more false n m e = sym e

module _ {X : Type 0} where
  longer : (c b : Bool) (x : X) (new old : List X) → length new ≡ more_if b (length old) → length (cond c (x ∷ new) new) ≡ more_if b (length (cond c (x ∷ old) old))
  longer true true x new old e = omega (arith, e)
  longer true false x new old e = omega (arith, e)
  longer false b x new old e = e

  first-more : (b : Bool) (x : X) (xs : List X) → length (cond b (x ∷ xs) xs) ≡ more_if b (length xs)
  first-more true x xs = omega arith
  first-more false x xs = refl

module _ {K P : Type 0} (by_peer : P → P → Ordering) where
  -- under a new id
  pub requests-put : (id : ℕ) (r : Request K P) (asked : List (ℕ × Request K P)) → is_held asked id ≡ false → (p : P)
      → requests_to by_peer (insert_entry nat_cmp asked id r) p ≡ more_if (is_eq (by_peer r.peer p)) (requests_to by_peer asked p)
  requests-put id r [] free p = first-more (is_eq (by_peer r.peer p)) (id, r) []
  requests-put id r (x ∷ asked) free p = at (nat_cmp id x.0) free (λ held. requests-put id r asked held p) where
    at : (o : Ordering) → is_some (cond (is_eq o) (Some x.1) (lookup (is_at (nat_cmp id)) asked)) ≡ false
        → (is_held asked id ≡ false → requests_to by_peer (insert_entry nat_cmp asked id r) p ≡ more_if (is_eq (by_peer r.peer p)) (requests_to by_peer asked p))
        → requests_to by_peer (match_ordering o ((id, r) ∷ x ∷ asked) ((x.0, r) ∷ asked) (x ∷ insert_entry nat_cmp asked id r)) p ≡ more_if (is_eq (by_peer r.peer p)) (requests_to by_peer (x ∷ asked) p)
    at Less held rest = first-more (is_eq (by_peer r.peer p)) (id, r) (filter (is_to by_peer p) (x ∷ asked))
    at Equal held rest = absurd cc
    at Greater held rest = longer (is_to by_peer p x) (is_eq (by_peer r.peer p)) x (filter (is_to by_peer p) (insert_entry nat_cmp asked id r)) (filter (is_to by_peer p) asked) (rest held)

  -- under an id that is held
  pub requests-without : (id : ℕ) (r : Request K P) (asked : List (ℕ × Request K P)) → request_of asked id ≡ Some r → (p : P)
      → requests_to by_peer asked p ≡ more_if (is_eq (by_peer r.peer p)) (requests_to by_peer (without_request id asked) p)
  requests-without id r [] found p = absurd cc
  requests-without id r (x ∷ asked) found p = at (is_at (nat_cmp id) x.0) found (λ there. requests-without id r asked there p) where
    at : (b : Bool) → cond b (Some x.1) (lookup (is_at (nat_cmp id)) asked) ≡ Some r
        → (request_of asked id ≡ Some r → requests_to by_peer asked p ≡ more_if (is_eq (by_peer r.peer p)) (requests_to by_peer (without_request id asked) p))
        → requests_to by_peer (x ∷ asked) p ≡ more_if (is_eq (by_peer r.peer p)) (requests_to by_peer (cond b asked (x ∷ without_request id asked)) p)
    at true here rest =
        let is : x.1 ≡ r = cc in
        first-more (is_to by_peer p x) x (filter (is_to by_peer p) asked) ∙ ap (λ (q : Request K P). more_if (is_eq (by_peer q.peer p)) (requests_to by_peer asked p)) is
    at false here rest = longer (is_to by_peer p x) (is_eq (by_peer r.peer p)) x (filter (is_to by_peer p) asked) (filter (is_to by_peer p) (without_request id asked)) (rest here)

  -- a peer has no more requests than there are
  pub requests-few : (asked : List (ℕ × Request K P)) (p : P) → requests_to by_peer asked p ≤ length asked
  requests-few [] p = omega arith
  requests-few (x ∷ asked) p = at (is_to by_peer p x) (requests-few asked p) where
    at : (b : Bool) → requests_to by_peer asked p ≤ length asked → length (cond b (x ∷ filter (is_to by_peer p) asked) (filter (is_to by_peer p) asked)) ≤ length (x ∷ asked)
    at true few = omega (arith, few)
    at false few = omega (arith, few)

  pub load-put : (limit : Option ℕ) (id : ℕ) (r : Request K P) (asked : List (ℕ × Request K P)) → is_held asked id ≡ false
      → load_of by_peer limit (insert_entry nat_cmp asked id r) ≡ option_map (one_more by_peer r.peer) (load_of by_peer limit asked)
  load-put None id r asked free = refl
  load-put (Some most) id r asked free = λ i. Some (record { limit = most; requests = λ p. requests-put id r asked free p i })

  pub load-without : (limit : Option ℕ) (id : ℕ) (r : Request K P) (asked : List (ℕ × Request K P)) → request_of asked id ≡ Some r
      → load_of by_peer limit (without_request id asked) ≡ option_map (one_fewer by_peer r.peer) (load_of by_peer limit asked)
  load-without None id r asked found = refl
  load-without (Some most) id r asked found = λ i. Some (record {
    limit = most;
    requests = λ p. fewer-than-more (is_eq (by_peer r.peer p)) (requests_to by_peer asked p) (requests_to by_peer (without_request id asked) p) (requests-without id r asked found p) i;
  })

equal-is : (o : Ordering) → is_eq o ≡ true → o ≡ Equal
equal-is Less is = absurd cc
equal-is Equal is = refl
equal-is Greater is = absurd cc

-- a value that is set is found under the names that are equal
module _ {P : Type 0} {R : P → P → Ordering} (total : IsTotalOrder R) where
  pub set-updates : (peer : P) (w : ℕ) (counts : List (P × ℕ)) → IsSome (lookup (is_at (R peer)) counts) → (q : P)
      → lookup (is_at (R q)) (set_value (is_at (R peer)) counts w) ≡ cond (is_at (R peer) q) (Some w) (lookup (is_at (R q)) counts)
  set-updates peer w counts found q =
      let laws = eq_by_cmp_equiv total in
      lookup-set_value laws (is_at (R peer)) (λ x y same. laws.congr peer x y same) q w counts found

-- the count of a peer becomes another
module _ {P : Type 0} {R : P → P → Ordering} (total : IsTotalOrder R) (peer : P) (old new : List (P × ℕ)) (count : Option ℕ)
    (updates : (q : P) → lookup (is_at (R q)) new ≡ cond (is_at (R peer) q) count (lookup (is_at (R q)) old)) where
  counts-same : (p : P) → is_eq (R peer p) ≡ true → counted R old peer ≡ counted R old p
  counts-same p same = ap (λ (o : Option ℕ). unwrap_or o 0) (lookup-same total peer p old (equal-is (R peer p) same))

  counts-then : (change : ℕ → ℕ) → unwrap_or count 0 ≡ change (counted R old peer) → (p : P) → counted R new p ≡ (if is_at (R peer) p then change (counted R old p) else counted R old p)
  counts-then change is p = at (is_at (R peer) p) refl (updates p) where
    at : (b : Bool) → is_eq (R peer p) ≡ b → lookup (is_at (R p)) new ≡ cond b count (lookup (is_at (R p)) old) → counted R new p ≡ (if b then change (counted R old p) else counted R old p)
    at true same found = ap (λ (o : Option ℕ). unwrap_or o 0) found ∙ is ∙ ap change (counts-same p same)
    at false other found = ap (λ (o : Option ℕ). unwrap_or o 0) found

  pub loads-more : (limit : ℕ) → unwrap_or count 0 ≡ counted R old peer + 1
      → loaded R (record { limit = limit; counts = new }) ≡ one_more R peer (loaded R (record { limit = limit; counts = old }))
  loads-more limit is = λ i. record { limit = limit; requests = λ p. counts-then (λ n. n + 1) is p i }

  pub loads-fewer : (limit : ℕ) → unwrap_or count 0 ≡ counted R old peer - 1
      → loaded R (record { limit = limit; counts = new }) ≡ one_fewer R peer (loaded R (record { limit = limit; counts = old }))
  loads-fewer limit is = λ i. record { limit = limit; requests = λ p. counts-then (λ n. n - 1) is p i }

-- who has none may be forgotten
module _ {P : Type 0} {R : P → P → Ordering} (total : IsTotalOrder R) where
  none-or-some : (count : Option ℕ) → unwrap_or (option_filter (λ n. nat_lt 0 n) count) 0 ≡ unwrap_or count 0
  none-or-some None = refl
  none-or-some (Some n) = elim (cases_lt 0 n) [
    | inl some ↦ rw (lt-ltb 0 n some) refl
    | inr none ↦ rw (le-ltb 0 n none) (omega (arith, none))
  ]

  pub loads-tidied : (limit : ℕ) (counts : List (P × ℕ)) → IsStrictlySortedBy R (keys_of counts)
      → loaded R (record { limit = limit; counts = filter (λ e. nat_lt 0 e.1) counts }) ≡ loaded R (record { limit = limit; counts = counts })
  loads-tidied limit counts sorted = λ i. record { limit = limit; requests = λ p. same p i } where
    same : (p : P) → counted R (filter (λ e. nat_lt 0 e.1) counts) p ≡ counted R counts p
    same p =
        ap (λ (o : Option ℕ). unwrap_or o 0) (lookup-filter-values (eq_by_cmp_equiv total) (λ n. nat_lt 0 n) p counts (IsDistinct-from_sorted R (keys_of counts) sorted))
        ∙ none-or-some (lookup (is_at (R p)) counts)
