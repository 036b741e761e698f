-- What a scan tries next.
use Rattle.std.proofs.Common.{◌≡◌, refl, ap, sym, ◌∙◌, ℕ, Bool, true, false, ◌&&◌, List, [], ◌∷◌, ◌++◌, length, map, filter, Option, None, Some, option_map, arith}
use Rattle.std.proofs.lemmas.Grind.{common_steps}
use Rattle.std.proofs.lemmas.List.{length-map}
use Rattle.std.proofs.lemmas.List.Elements.{filter-append}
use Rattle.std.proofs.lemmas.List.Folds.{find-append}
use Rattle.std.specs.Option.{option_or}
use Rattle.std.specs.Ordering.{nat_cmp}
use Rattle.std.specs.Prelude.{find, nat_le, nat_lt}
use Rattle.resolver_priority_set.specs.Priorities.{after}
use Rattle.resolver_sampling.specs.declared.score.Averages.{Averages}
use Rattle.resolver_fetch_scan.specs.declared.place.Place.{Place}
use Rattle.resolver_fetch_scan.specs.declared.trail.Try.{Try}
use Rattle.resolver_fetch_scan.specs.Fetcher.{Fetcher, snapshot, waiting_of}
use Rattle.resolver_fetch_scan.specs.Orders.{Orders}
use Rattle.resolver_fetch_waiting.specs.Queues.{IsQueued, fresh_queue, placed, retry_queue}
use Rattle.resolver_fetch_scan.specs.Scan.{can_be_tried, left}
use Rattle.resolver_sampling.specs.Scores.{weight_of}
use Rattle.resolver_fetch.specs.Seeking.{first_until, scan_at, tried_behind, tried_next, trying_key}
use Rattle.resolver_fetch_scan.specs.Trying.{Trying, trying_for, weighed}
use Rattle.resolver_fetch_scan.specs.Waiting.{fresh_at, place_order, retry_at}
use Rattle.resolver_fetch_waiting.proofs.Joined.{after-fresh, after-retry}

module _ {P : Type 0} where
  -- a test of names keeps the same peers before and after they are weighed
  pub weighed-filter : (test : P → Bool) (ps : List (P × Averages)) → filter (λ p. test p.0) (weighed ps) ≡ weighed (filter (λ p. test p.0) ps)
  weighed-filter test [] = refl
  weighed-filter test (p ∷ ps) = let rest = weighed-filter test ps in grind (arith, common_steps, rest)

pub find-map : {X Y : Type 0} (test : Y → Bool) (h : X → Y) (xs : List X) → find test (map h xs) ≡ option_map h (find (λ x. test (h x)) xs)
find-map test h [] = refl
find-map test h (x ∷ xs) = let rest = find-map test h xs in grind (arith, common_steps, rest)

find-same : {X : Type 0} (test other : X → Bool) → ((x : X) → test x ≡ other x) → (xs : List X) → find test xs ≡ find other xs
find-same test other same [] = refl
find-same test other same (x ∷ xs) = let rest = find-same test other same xs in let here = same x in grind (arith, common_steps, rest, here)

-- of those that pass one test, the first that passes another passes both
find-both : {X : Type 0} (kept test : X → Bool) (xs : List X) → find (λ x. kept x && test x) xs ≡ find test (filter kept xs)
find-both kept test [] = refl
find-both kept test (x ∷ xs) = let rest = find-both kept test xs in grind (arith, common_steps, rest)

map-or : {X Y : Type 0} (h : X → Y) (x y : Option X) → option_map h (option_or x y) ≡ option_or (option_map h x) (option_map h y)
map-or h None y = refl
map-or h (Some x) y = refl

module _ {K P : Type 0} (o : Orders K P) (f : Fetcher K P) (moment : ℕ) (trail : List (Try K P)) where
  many-left : (p : Place × K) → length (trying_key o f trail p).left ≡ length (left o (snapshot o f) trail (waiting_of o f p))
  many-left p = length-map (left o (snapshot o f) trail (waiting_of o f p)) (λ q. (q.0, weight_of q.1))

  same-test : (p : Place × K) → can_be_tried o (snapshot o f) (scan_at moment trail) (waiting_of o f p) ≡ (nat_le p.0.due moment && nat_lt 0 (length (trying_key o f trail p).left))
  same-test p = ap (λ n. nat_le p.0.due moment && nat_lt 0 n) (sym (many-left p))

  map-map : (found : Option (Place × K)) → option_map (trying_for o (snapshot o f) trail) (option_map (waiting_of o f) found) ≡ option_map (trying_key o f trail) found
  map-map None = refl
  map-map (Some p) = refl

  -- what is tried of some waiting keys is the first that is due and has a peer left
  pub seeks-in : (ps : List (Place × K)) → option_map (trying_for o (snapshot o f) trail) (find (can_be_tried o (snapshot o f) (scan_at moment trail)) (map (waiting_of o f) ps))
      ≡ first_until o f trail moment ps
  seeks-in ps =
      let has_left : Place × K → Bool = λ p. nat_lt 0 (length (trying_key o f trail p).left) in
      ap (option_map (trying_for o (snapshot o f) trail)) (find-map (can_be_tried o (snapshot o f) (scan_at moment trail)) (waiting_of o f) ps)
      ∙ ap (λ found. option_map (trying_for o (snapshot o f) trail) (option_map (waiting_of o f) found))
      (find-same _ _ same-test ps ∙ find-both (λ p. nat_le p.0.due moment) has_left ps)
      ∙ map-map (find has_left (filter (λ p. nat_le p.0.due moment) ps))

  -- of two lists it is one of the first, or else of the second
  until-append : (ps qs : List (Place × K)) → first_until o f trail moment (ps ++ qs) ≡ option_or (first_until o f trail moment ps) (first_until o f trail moment qs)
  until-append ps qs =
      let has_left : Place × K → Bool = λ p. nat_lt 0 (length (trying_key o f trail p).left) in
      let due : Place × K → Bool = λ p. nat_le p.0.due moment in
      ap (λ rs. option_map (trying_key o f trail) (find has_left rs)) (filter-append due ps qs)
      ∙ ap (option_map (trying_key o f trail)) (find-append has_left (filter due ps) (filter due qs))
      ∙ map-or (trying_key o f trail) (find has_left (filter due ps)) (find has_left (filter due qs))

  module _ (queued : IsQueued f.waiting) where
    abbrev Fresh : Option (Trying K P)
    Fresh = first_until o f trail moment (placed false (fresh_queue f.waiting))

    abbrev Retry : Option (Trying K P)
    Retry = first_until o f trail moment (placed true (retry_queue f.waiting))

    -- what is tried next is fresh, or else it is tried again
    seeks-two : tried_next o f moment trail ≡ option_or Fresh Retry
    seeks-two =
        seeks-in f.waiting
        ∙ ap (first_until o f trail moment) queued
        ∙ until-append (placed false (fresh_queue f.waiting)) (placed true (retry_queue f.waiting))

    -- a fresh key is tried
    pub seeks-fresh : (t : Trying K P) → first_until o f trail moment (placed false (fresh_queue f.waiting)) ≡ Some t → tried_next o f moment trail ≡ Some t
    seeks-fresh t is = seeks-two ∙ ap (λ found. option_or found Retry) is

    -- no fresh key is tried
    pub seeks-retry : first_until o f trail moment (placed false (fresh_queue f.waiting)) ≡ None
        → tried_next o f moment trail ≡ first_until o f trail moment (placed true (retry_queue f.waiting))
    seeks-retry is = seeks-two ∙ ap (λ found. option_or found Retry) is

    module _ (p : ℕ × K) where
      -- behind a key that is tried again are others of these alone
      pub behind-retry : tried_behind o f (retry_at p.0, p.1) (scan_at moment trail) ≡ first_until o f trail moment (placed true (after nat_cmp o.key p (retry_queue f.waiting)))
      behind-retry =
          seeks-in (after place_order o.key (retry_at p.0, p.1) f.waiting)
          ∙ ap (λ ps. first_until o f trail moment (after place_order o.key (retry_at p.0, p.1) ps)) queued
          ∙ ap (first_until o f trail moment) (after-retry o.key p (fresh_queue f.waiting) (retry_queue f.waiting))

      behind-two : tried_behind o f (fresh_at p.0, p.1) (scan_at moment trail) ≡ option_or (first_until o f trail moment (placed false (after nat_cmp o.key p (fresh_queue f.waiting)))) Retry
      behind-two =
          seeks-in (after place_order o.key (fresh_at p.0, p.1) f.waiting)
          ∙ ap (λ ps. first_until o f trail moment (after place_order o.key (fresh_at p.0, p.1) ps)) queued
          ∙ ap (first_until o f trail moment) (after-fresh o.key p (fresh_queue f.waiting) (retry_queue f.waiting))
          ∙ until-append (placed false (after nat_cmp o.key p (fresh_queue f.waiting))) (placed true (retry_queue f.waiting))

      -- behind a fresh key a fresh one is tried
      pub behind-fresh : (t : Trying K P) → first_until o f trail moment (placed false (after nat_cmp o.key p (fresh_queue f.waiting))) ≡ Some t
          → tried_behind o f (fresh_at p.0, p.1) (scan_at moment trail) ≡ Some t
      behind-fresh t is = behind-two ∙ ap (λ found. option_or found Retry) is

      -- or else one that is tried again
      pub behind-fresh-retry : first_until o f trail moment (placed false (after nat_cmp o.key p (fresh_queue f.waiting))) ≡ None
          → tried_behind o f (fresh_at p.0, p.1) (scan_at moment trail) ≡ first_until o f trail moment (placed true (retry_queue f.waiting))
      behind-fresh-retry is = behind-two ∙ ap (λ found. option_or found Retry) is
