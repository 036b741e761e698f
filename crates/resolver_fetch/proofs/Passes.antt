-- A scan passes the key that it tries, where it has no peer left, and goes on behind it.
use Rattle.std.proofs.Common.{◌≡◌, refl, ap, ◌∙◌, sym, ℕ, Bool, true, false, ◌&&◌, List, [], ◌∷◌, ◌++◌, length, filter, Option, None, Some, option_map, cond, arith}
use Rattle.std.proofs.lemmas.Bool.{le-ltb}
use Rattle.std.proofs.lemmas.Cmp.{tied_itself}
use Rattle.std.proofs.lemmas.Grind.{common_steps}
use Rattle.std.proofs.lemmas.List.{length-map}
use Rattle.std.proofs.lemmas.Map.Keys.{sorted_head, sorted_tail}
use Rattle.std.specs.Cmp.{IsTotalOrder}
use Rattle.std.specs.List.{AllByRecursion}
use Rattle.std.specs.List.Sorted.{IsStrictlySortedBy}
use Rattle.std.specs.Ordering.{is_eq, is_lt}
use Rattle.std.specs.Prelude.{find}
use Rattle.std.specs.declared.cmp.Ordering.{Ordering}
use Rattle.std.specs.declared.cmp.Ordering.TheVariants.{Less}
use Rattle.resolver_priority_set.specs.Priorities.{after, pair_order}
use Rattle.resolver_fetch_scan.specs.declared.place.Place.{Place}
use Rattle.resolver_fetch_scan.specs.declared.trail.Try.{Try}
use Rattle.resolver_fetch_scan.specs.Fetcher.{Fetcher, snapshot, waiting_of}
use Rattle.resolver_fetch_scan.specs.Orders.{Orders, same_key}
use Rattle.resolver_fetch_scan.specs.Scan.{can_be_tried, is_due, left}
use Rattle.resolver_sampling.specs.Scores.{weight_of}
use Rattle.resolver_fetch.specs.Seeking.{scan_at, tried_behind, tried_next}
use Rattle.resolver_fetch_scan.specs.Trying.{Trying, apart_from, trying_for, weighed}
use Rattle.resolver_fetch_scan.specs.Waiting.{place_order}
use Rattle.resolver_fetch.proofs.Continues.{left-same, never-again}
use Rattle.resolver_fetch.proofs.Seeking.{find-map}

module _ {X : Type 0} (order : X → X → Ordering) (test again : X → Bool) (no_more : (x : X) → test x ≡ false → again x ≡ false) where
  skip : (kept : X → Bool) (x : X) (xs : List X) → again x ≡ false → find again (filter kept (x ∷ xs)) ≡ find again (filter kept xs)
  skip kept x xs lost = grind (arith, common_steps, lost)

  all-behind : (x : X) (xs : List X) → AllByRecursion (λ y. order x y ≡ Less) xs → filter (λ y. is_lt (order x y)) xs ≡ xs
  all-behind x [] all = refl
  all-behind x (y ∷ xs) all = rw all.0 (ap (λ (ys : List X). y ∷ ys) (all-behind x xs all.1))

  some-same : (x y : X) → Some x ≡ Some y → x ≡ y
  some-same x y e = cc

  -- what no longer passes as the first is passed by looking behind it
  find-behind : (x : X) (xs : List X) → IsStrictlySortedBy order xs → find test xs ≡ Some x → again x ≡ false
      → find again xs ≡ find again (filter (λ y. is_lt (order x y)) xs)
  find-behind x [] sorted is lost = absurd cc
  find-behind x (y ∷ xs) sorted is lost = at (test y) refl is (find-behind x xs (sorted_tail order y xs sorted)) where
    at : (b : Bool) → test y ≡ b → cond b (Some y) (find test xs) ≡ Some x
        → (find test xs ≡ Some x → again x ≡ false → find again xs ≡ find again (filter (λ z. is_lt (order x z)) xs))
        → find again (y ∷ xs) ≡ find again (filter (λ z. is_lt (order x z)) (y ∷ xs))
    at true here is rest =
        let same : y ≡ x = some-same y x is in
        let none : again y ≡ false = ap again same ∙ lost in
        let behind = all-behind y xs (sorted_head order y xs sorted) in
        rw none
        (ap (find again) (sym behind)
        ∙ sym (skip (λ z. is_lt (order y z)) y xs none)
        ∙ ap (λ z. find again (filter (λ u. is_lt (order z u)) (y ∷ xs))) same)
    at false here is rest =
        let none : again y ≡ false = no_more y here in
        rw none (rest is lost) ∙ sym (skip (λ z. is_lt (order x z)) y xs none)

and-lost : (b c : Bool) → c ≡ false → (b && c) ≡ false
and-lost false c lost = refl
and-lost true c lost = lost

module _ {K P : Type 0} (o : Orders K P) (f : Fetcher K P) (moment : ℕ) (trail : List (Try K P)) (t : Try K P) where
  abbrev Can : List (Try K P) → Place × K → Bool
  Can tries p = can_be_tried o (snapshot o f) (scan_at moment tries) (waiting_of o f p)

  no-more : (p : Place × K) → Can trail p ≡ false → Can (trail ++ t ∷ []) p ≡ false
  no-more p before = never-again o (snapshot o f) moment trail t (waiting_of o f p) (is_due moment (waiting_of o f p)) before

  module _ (total : IsTotalOrder o.key) (now : Trying K P) (is_key : t.key ≡ now.key) (none : length (apart_from o.peer t.peer now.left) ≡ 0) where
    not-here : (p : Place × K) → trying_for o (snapshot o f) trail (waiting_of o f p) ≡ now → Can (trail ++ t ∷ []) p ≡ false
    not-here p is =
        let key : p.1 ≡ t.key = ap (λ (n : Trying K P). n.key) is ∙ sym is_key in
        let same : same_key o p.1 t.key ≡ true = rw key (ap is_eq (tied_itself total t.key)) in
        let kept : weighed (left o (snapshot o f) (trail ++ t ∷ []) (waiting_of o f p)) ≡ apart_from o.peer t.peer now.left =
        left-same o (snapshot o f) moment trail t (waiting_of o f p) same ∙ ap (λ (n : Trying K P). apart_from o.peer t.peer n.left) is in
        let many : length (weighed (left o (snapshot o f) (trail ++ t ∷ []) (waiting_of o f p))) ≡ length (left o (snapshot o f) (trail ++ t ∷ []) (waiting_of o f p)) =
        length-map (left o (snapshot o f) (trail ++ t ∷ []) (waiting_of o f p)) (λ q. (q.0, weight_of q.1)) in
        let count : length (weighed (left o (snapshot o f) (trail ++ t ∷ []) (waiting_of o f p))) ≡ length (apart_from o.peer t.peer now.left) = ap length kept in
        and-lost (is_due moment (waiting_of o f p)) _ (le-ltb 0 _ (omega (arith, many, count, none)))

    some-trying : (x y : Trying K P) → Some x ≡ Some y → x ≡ y
    some-trying x y e = cc

    passes-found : IsStrictlySortedBy (pair_order place_order o.key) f.waiting → (found : Option (Place × K)) → find (Can trail) f.waiting ≡ found
        → option_map (trying_for o (snapshot o f) trail) (option_map (waiting_of o f) found) ≡ Some now
        → tried_next o f moment (trail ++ t ∷ []) ≡ tried_behind o f (now.place, now.key) (scan_at moment (trail ++ t ∷ []))
    passes-found sorted None at is = absurd cc
    passes-found sorted (Some p) at is =
        let here : trying_for o (snapshot o f) trail (waiting_of o f p) ≡ now = some-trying _ _ is in
        let pair : p ≡ (now.place, now.key) = ap (λ (n : Trying K P). (n.place, n.key)) here in
        ap (option_map (trying_for o (snapshot o f) (trail ++ t ∷ [])))
        (find-map (can_be_tried o (snapshot o f) (scan_at moment (trail ++ t ∷ []))) (waiting_of o f) f.waiting
        ∙ ap (option_map (waiting_of o f))
        (find-behind (pair_order place_order o.key) (Can trail) (Can (trail ++ t ∷ [])) no-more p f.waiting sorted at (not-here p here)
        ∙ ap (λ q. find (Can (trail ++ t ∷ [])) (after place_order o.key q f.waiting)) pair)
        ∙ sym (find-map (can_be_tried o (snapshot o f) (scan_at moment (trail ++ t ∷ []))) (waiting_of o f) (after place_order o.key (now.place, now.key) f.waiting)))

    -- a scan goes on behind its key, where it has no peer left
    pub passes : IsStrictlySortedBy (pair_order place_order o.key) f.waiting → tried_next o f moment trail ≡ Some now
        → tried_next o f moment (trail ++ t ∷ []) ≡ tried_behind o f (now.place, now.key) (scan_at moment (trail ++ t ∷ []))
    passes sorted is =
        passes-found sorted (find (Can trail) f.waiting) refl
        (sym (ap (option_map (trying_for o (snapshot o f) trail)) (find-map (can_be_tried o (snapshot o f) (scan_at moment trail)) (waiting_of o f) f.waiting)) ∙ is)
