-- The request whose time is over first.
use Rattle.std.proofs.Common.{◌≡◌, ◌≢◌, refl, ap, subst, ◌∙◌, sym, ℕ, ◌<◌, ◌≤◌, Bool, true, false, ◌==◌, List, [], ◌∷◌, length, Option, None, Some, if◌then◌else◌, option_map, arith}
use Rattle.std.specs.Prelude.{nat_le, option_and_then, slice_get}
use Rattle.std.proofs.lemmas.Grind.{common_steps}
use Rattle.std.proofs.lemmas.Bool.{eqb-true, eqb-false}
use Rattle.std.proofs.lemmas.Bool.Decides.{nat_tests}
use Rattle.std.proofs.lemmas.List.Elements.{recursion_from_All}
use Rattle.std.proofs.lemmas.Map.Keys.{sorted_head, sorted_tail}
use Rattle.std.proofs.lemmas.Option.{same_Some}
use Rattle.std.specs.BTreeMap.Range.{IsLeBy}
use Rattle.std.specs.List.{All, AllByRecursion}
use Rattle.std.specs.List.Sorted.{IsStrictlySortedBy}
use Rattle.std.specs.Map.{keys_of}
use Rattle.std.specs.Ordering.{is_gt, is_lt, nat_cmp}
use Rattle.std.specs.declared.cmp.Ordering.{Ordering}
use Rattle.std.specs.declared.cmp.Ordering.TheVariants.{Less}
use Rattle.resolver_priority_set.specs.Priorities.{listed, pair_order, priorities_of}
use Rattle.resolver_fetch_requests.specs.declared.requests.request.Request.{Request}
use Rattle.resolver_fetch_requests.specs.Deadlines.{AreInOrder, AreListed, times_of}
use Rattle.resolver_fetch_requests.specs.Requests.{if_overdue, is_sooner, sooner, soonest, request_of, taken_overdue, taken_soonest, without_request}

-- a list of no length
pub nil : {X : Type 0} (xs : List X) → (0 < length xs → ⊥) → xs ≡ []
nil [] none = refl
nil (x ∷ xs) none = absurd (none (omega arith))

abbrev pub by_deadline : ℕ × ℕ → ℕ × ℕ → Ordering
by_deadline = pair_order nat_cmp nat_cmp

-- where a pair is no later than these, none of them is before it
none-before : (p : ℕ × ℕ) (ds : List (ℕ × ℕ)) → AllByRecursion (λ d. is_gt (by_deadline p d) ≡ false) ds
    → (id deadline : ℕ) → priorities_of nat_cmp ds id ≡ deadline ∷ [] → is_lt (by_deadline (deadline, id) p) ≡ false
none-before p [] all id deadline here = absurd cc
none-before p (d ∷ ds) all id deadline here =
    let rest = none-before p ds all.1 id deadline in
    let first = all.0 in
    grind (arith, nat_tests, common_steps, rest, first, here)

-- the time that is listed first is that of its id
time-first : (p d : ℕ × ℕ) (ds : List (ℕ × ℕ)) (time : Option ℕ) → Some d ≡ Some p → priorities_of nat_cmp (d ∷ ds) p.1 ≡ listed time → time ≡ Some p.0
time-first p d ds None is here = let same : d ≡ p = same_Some d p is in absurd (grind (arith, nat_tests, common_steps, same, here))
time-first p d ds (Some t) is here = let same : d ≡ p = same_Some d p is in grind (arith, nat_tests, common_steps, same, here)

module _ {K P : Type 0} where
  -- of two requests, one is sooner
  sooner-apart : (q r : ℕ × Request K P) → is_sooner q r ≡ false → q.0 ≢ r.0 → is_sooner r q ≡ true
  sooner-apart q r later apart = grind (arith, nat_tests, later, apart)

  -- an id that is found stands behind a smaller one
  pub behind : (k : ℕ) (xs : List (ℕ × Request K P)) → AllByRecursion (λ y. nat_cmp k y ≡ Less) (keys_of xs)
      → (j : ℕ) (q : Request K P) → request_of xs j ≡ Some q → k < j
  behind k [] all j q there = absurd cc
  behind k (x ∷ xs) all j q there = let rest = behind k xs all.1 j q in let first = all.0 in grind (arith, nat_tests, common_steps, rest, first, there)

  pub at-head : (x : ℕ × Request K P) (xs : List (ℕ × Request K P)) → request_of (x ∷ xs) x.0 ≡ Some x.1
  at-head x xs = grind (arith, nat_tests, common_steps)

  pub past-head : (x : ℕ × Request K P) (xs : List (ℕ × Request K P)) (j : ℕ) → x.0 ≢ j → request_of (x ∷ xs) j ≡ request_of xs j
  past-head x xs j apart = grind (arith, nat_tests, common_steps, apart)

  -- the soonest is one of the requests
  found-with : (x : ℕ × Request K P) (xs : List (ℕ × Request K P)) (rest : Option (ℕ × Request K P)) → ((y : ℕ × Request K P) → rest ≡ Some y → (request_of xs y.0 ≡ Some y.1) × (x.0 ≢ y.0))
      → request_of (x ∷ xs) (sooner x rest).0 ≡ Some (sooner x rest).1
  found-with x xs None later = at-head x xs
  found-with x xs (Some y) later = pick (is_sooner y x) where
    pick : (b : Bool) → request_of (x ∷ xs) (if b then y else x).0 ≡ Some (if b then y else x).1
    pick true = past-head x xs y.0 (later y refl).1 ∙ (later y refl).0
    pick false = at-head x xs

  -- and found by its id
  pub found : (xs : List (ℕ × Request K P)) → IsStrictlySortedBy nat_cmp (keys_of xs) → (y : ℕ × Request K P) → soonest xs ≡ Some y → request_of xs y.0 ≡ Some y.1
  found [] sorted y is = absurd cc
  found (x ∷ xs) sorted y is =
      let apart : (z : ℕ × Request K P) → soonest xs ≡ Some z → (request_of xs z.0 ≡ Some z.1) × (x.0 ≢ z.0) = λ z at.
      let there : request_of xs z.0 ≡ Some z.1 = found xs (sorted_tail nat_cmp x.0 (keys_of xs) sorted) z at in
      (there, λ e. absurd (omega (arith, behind x.0 xs (sorted_head nat_cmp x.0 (keys_of xs) sorted) z.0 z.1 there, e))) in
      subst (λ z. request_of (x ∷ xs) z.0 ≡ Some z.1) (same_Some (sooner x (soonest xs)) y is) (found-with x xs (soonest xs) apart)

  -- the request that no other is sooner than
  best : (xs : List (ℕ × Request K P)) → IsStrictlySortedBy nat_cmp (keys_of xs) → (m : ℕ × Request K P) → request_of xs m.0 ≡ Some m.1
      → ((j : ℕ) (q : Request K P) → request_of xs j ≡ Some q → is_sooner (j, q) m ≡ false) → soonest xs ≡ Some m
  best [] sorted m there least = absurd cc
  best (x ∷ xs) sorted m there least = split (x.0 == m.0) refl (best xs (sorted_tail nat_cmp x.0 (keys_of xs) sorted) m) where
    sorted-xs : IsStrictlySortedBy nat_cmp (keys_of xs)
    sorted-xs = sorted_tail nat_cmp x.0 (keys_of xs) sorted

    apart : (z : ℕ × Request K P) → request_of xs z.0 ≡ Some z.1 → x.0 ≢ z.0
    apart z there e = absurd (omega (arith, behind x.0 xs (sorted_head nat_cmp x.0 (keys_of xs) sorted) z.0 z.1 there, e))

    -- it is the first of the list
    first : (rest : Option (ℕ × Request K P)) → soonest xs ≡ rest → m ≡ x → sooner x rest ≡ m
    first None is here = sym here
    first (Some y) is here =
        let there : request_of xs y.0 ≡ Some y.1 = found xs sorted-xs y is in
        let later : is_sooner y m ≡ false = least y.0 y.1 (past-head x xs y.0 (apart y there) ∙ there) in
        rw (← here, later) refl

    split : (b : Bool) → (x.0 == m.0) ≡ b
        → (request_of xs m.0 ≡ Some m.1 → ((j : ℕ) (q : Request K P) → request_of xs j ≡ Some q → is_sooner (j, q) m ≡ false) → soonest xs ≡ Some m)
        → Some (sooner x (soonest xs)) ≡ Some m
    split true same again =
        let e : x.0 ≡ m.0 = eqb-true x.0 m.0 same in
        let value : x.1 ≡ m.1 = same_Some x.1 m.1 (sym (at-head x xs) ∙ ap (request_of (x ∷ xs)) e ∙ there) in
        let here : m ≡ x = (λ i. (sym e i, sym value i)) in
        ap Some (first (soonest xs) refl here)
    split false other again =
        let e : x.0 ≢ m.0 = eqb-false x.0 m.0 other in
        let is : soonest xs ≡ Some m = again (sym (past-head x xs m.0 e) ∙ there) (λ j q at. least j q (past-head x xs j (apart (j, q) at) ∙ at)) in
        let later : is_sooner m x ≡ true = sooner-apart x m (least x.0 x.1 (at-head x xs)) e in
        rw (is, later) refl

  -- a time is that of a request
  pub request-at : (found : Option (Request K P)) (time : ℕ) → option_map (λ (r : Request K P). r.deadline) found ≡ Some time → (r : Request K P) × (found ≡ Some r) × (r.deadline ≡ time)
  request-at None time at = absurd cc
  request-at (Some r) time at = (r, refl, same_Some r.deadline time at)

  -- no id is smaller than the first
  first-least : (x : ℕ × Request K P) (xs : List (ℕ × Request K P)) → IsStrictlySortedBy nat_cmp (keys_of (x ∷ xs)) → (j : ℕ) (q : Request K P) → request_of (x ∷ xs) j ≡ Some q → x.0 ≤ j
  first-least x xs sorted j q at = split (x.0 == j) refl where
    split : (b : Bool) → (x.0 == j) ≡ b → x.0 ≤ j
    split true same = let e : x.0 ≡ j = eqb-true x.0 j same in omega arith
    split false other =
        let e : x.0 ≢ j = eqb-false x.0 j other in
        let behind_it : x.0 < j = behind x.0 xs (sorted_head nat_cmp x.0 (keys_of xs) sorted) j q (sym (past-head x xs j e) ∙ at) in
        omega arith

  not-sooner : (q r : ℕ × Request K P) → r.0 ≤ q.0 → r.1.deadline ≤ q.1.deadline → is_sooner q r ≡ false
  not-sooner q r ids deadlines = grind (arith, nat_tests, ids, deadlines)

  -- where the deadlines come in the order of the ids, the first request is the soonest
  pub soonest-in_order : (asked : List (ℕ × Request K P)) (last latest : ℕ) (x : ℕ × Request K P) → IsStrictlySortedBy nat_cmp (keys_of asked) → AreInOrder (times_of asked) last latest
      → slice_get asked 0 ≡ Some x → soonest asked ≡ Some x
  soonest-in_order [] last latest x sorted order first = absurd cc
  soonest-in_order (y ∷ ys) last latest x sorted order first =
      best (y ∷ ys) sorted y (at-head y ys) (λ j q at.
      let ids : y.0 ≤ j = first-least y ys sorted j q at in
      let rising = order.rising y.0 j y.1.deadline q.deadline (ap (option_map (λ (r : Request K P). r.deadline)) (at-head y ys)) (ap (option_map (λ (r : Request K P). r.deadline)) at) ids in
      not-sooner (j, q) y ids rising)
      ∙ first

  -- where they are listed, the first pair is that of the soonest request
  pub soonest-listed : (asked : List (ℕ × Request K P)) (ds : List (ℕ × ℕ)) (p : ℕ × ℕ) → IsStrictlySortedBy nat_cmp (keys_of asked) → AreListed (times_of asked) ds
      → slice_get ds 0 ≡ Some p → All (IsLeBy by_deadline p) ds
      → ◌≡◌ {A = Option (ℕ × ℕ)} (Some (p.1, p.0)) (option_map (λ r. (r.0, r.1.deadline)) (soonest asked))
  soonest-listed asked [] p sorted are first all = absurd cc
  soonest-listed asked (d ∷ ds) p sorted are first all =
      let here = request-at (request_of asked p.1) p.0 (time-first p d ds (times_of asked p.1) first (are p.1)) in
      let is : soonest asked ≡ Some (p.1, here.0) = best asked sorted (p.1, here.0) here.1 (λ j q at.
      let stands : priorities_of nat_cmp (d ∷ ds) j ≡ q.deadline ∷ [] = are j ∙ ap (λ (o : Option (Request K P)). listed (option_map (λ (s : Request K P). s.deadline) o)) at in
      rw here.2 (none-before p (d ∷ ds) (recursion_from_All (IsLeBy by_deadline p) (d ∷ ds) all) j q.deadline stands)) in
      rw is (ap (λ (t : ℕ). Some (p.1, t)) (sym here.2))

  -- where nothing is listed there is no request
  pub soonest-none : (asked : List (ℕ × Request K P)) → AreListed (times_of asked) [] → soonest asked ≡ None
  soonest-none [] are = refl
  soonest-none (x ∷ xs) are = let here = are x.0 in let there = at-head x xs in absurd (grind (arith, nat_tests, common_steps, here, there))

  pub soonest-nowhere : (asked : List (ℕ × Request K P)) → slice_get asked 0 ≡ None → soonest asked ≡ None
  soonest-nowhere [] none = refl
  soonest-nowhere (x ∷ xs) none = absurd (let wrong = none in cc)

  -- what the first request's id takes out, where its time is over
  taken-with : (asked : List (ℕ × Request K P)) (now id deadline : ℕ) (first : Option (ℕ × Request K P))
      → ◌≡◌ {A = Option (ℕ × ℕ)} (Some (id, deadline)) (option_map (λ r. (r.0, r.1.deadline)) first)
      → ((r : ℕ × Request K P) → first ≡ Some r → request_of asked r.0 ≡ Some r.1) → nat_le deadline now ≡ true
      → ◌≡◌ {A = Option (Request K P) × List (ℕ × Request K P)} (request_of asked id, without_request id asked) (taken_soonest asked (option_and_then (if_overdue now) first))
  taken-with asked now id deadline None is found over = absurd cc
  taken-with asked now id deadline (Some r) is found over =
      let both : ◌≡◌ {A = ℕ × ℕ} (id, deadline) (r.0, r.1.deadline) = same_Some {A = ℕ × ℕ} (id, deadline) (r.0, r.1.deadline) is in
      let same : id ≡ r.0 = ap (λ (x : ℕ × ℕ). x.0) both in
      let end : deadline ≡ r.1.deadline = ap (λ (x : ℕ × ℕ). x.1) both in
      let due : nat_le r.1.deadline now ≡ true = ap (λ (d : ℕ). nat_le d now) (sym end) ∙ over in
      rw (same, due, found r refl) refl

  pub taken-first : (asked : List (ℕ × Request K P)) (now id deadline : ℕ)
      → ◌≡◌ {A = Option (ℕ × ℕ)} (Some (id, deadline)) (option_map (λ r. (r.0, r.1.deadline)) (soonest asked))
      → ((r : ℕ × Request K P) → soonest asked ≡ Some r → request_of asked r.0 ≡ Some r.1) → nat_le deadline now ≡ true
      → ◌≡◌ {A = Option (Request K P) × List (ℕ × Request K P)} (request_of asked id, without_request id asked) (taken_overdue asked now)
  taken-first asked now id deadline is found over = taken-with asked now id deadline (soonest asked) is found over
