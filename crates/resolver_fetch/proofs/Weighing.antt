-- What the peers weigh that may be asked.
use Rattle.std.proofs.Common.{◌≡◌, refl, ap, sym, ◌∙◌, ℕ, zero, suc, ◌≤◌, drop, length, get_or, ◌+◌, ◌*◌, ◌-◌, ◌/◌, ◌^◌, ◌<◌, Bool, true, false, not, List, [], ◌∷◌, filter, Option, None, Some, option_map, arith}
use Rattle.std.specs.List.Sorted.{IsStrictlySortedBy}
use Rattle.std.specs.Map.{keys_of}
use Rattle.std.specs.Ordering.{is_eq}
use Rattle.std.specs.Prelude.{min}
use Rattle.std.specs.declared.cmp.Ordering.{Ordering}
use Rattle.std.proofs.lemmas.Bool.Decides.{nat_tests}
use Rattle.std.proofs.lemmas.Grind.{common_steps}
use Rattle.std.proofs.lemmas.List.Kept.{IsStrictlySortedBy-filter}
use Rattle.std.proofs.lemmas.Map.Made.{keys_of-map_values}
use Rattle.resolver_sampling.specs.declared.score.Averages.{Averages}
use Rattle.resolver_sampling.specs.declared.score.Averages.TheVariants.{Unobserved, Observed}
use Rattle.resolver_sampling.specs.Scores.{weight_of}
use Rattle.resolver_fetch_scan.specs.declared.trail.Try.{Try}
use Rattle.resolver_fetch_scan.specs.Fetcher.{Fetcher, snapshot, targets_of}
use Rattle.resolver_fetch_scan.specs.Known.{Known, eligible, is_eligible}
use Rattle.resolver_fetch_scan.specs.Orders.{Orders, is_one_of}
use Rattle.resolver_fetch_scan.specs.Pools.{weighing}
use Rattle.resolver_fetch_scan.specs.Scan.{was_tried}
use Rattle.resolver_fetch.specs.Seeking.{tried_next, trying_key}
use Rattle.resolver_fetch_scan.specs.Snapshot as snapshots
use Rattle.resolver_fetch_scan.specs.Tried.{peers_tried}
use Rattle.resolver_fetch_scan.specs.Trying.{Trying, apart_from, drawn_from, sampled, weighed}
use Rattle.resolver_fetch_scan.specs.declared.place.Place.{Place}
use Rattle.std.proofs.lemmas.Bool.{lt-ltb}
use Rattle.resolver_fetch.proofs.Seeking.{seeks-in, weighed-filter}
use Rattle.resolver_fetch_scan.proofs.Tried.{tried-one-of}

least-some : (x y : ℕ) → 0 < x → 0 < min x (y + 1)
least-some x y some = grind (arith, nat_tests, some)

-- every peer weighs something
pub weight-some : (a : Averages) → 0 < weight_of a
weight-some Unobserved = omega arith
weight-some (Observed bytes elapsed) = least-some (2 ^ 64 - 1) ((bytes * 10 ^ 9) / (elapsed * 2 ^ 32)) (omega arith)

module _ {P : Type 0} where
  -- so none of them is left out
  pub unchanged : (es : List (P × Averages)) → weighing (weighed es) ≡ weighed es
  unchanged [] = refl
  unchanged (e ∷ es) = rw (lt-ltb 0 (weight_of e.1) (weight-some e.1)) (ap (λ (ps : List (P × ℕ)). (e.0, weight_of e.1) ∷ ps) (unchanged es))

  keys-filter : {X : Type 0} (test : P → Bool) (es : List (P × X)) → keys_of (filter (λ e. test e.0) es) ≡ filter test (keys_of es)
  keys-filter test [] = refl
  keys-filter test (e ∷ es) = let rest = keys-filter test es in grind (arith, common_steps, rest)

module _ {P : Type 0} (R : P → P → Ordering) where
  -- the peers that may be asked are in the order of all
  pub sorted-eligible : (known : Known P) (targets : Option (List P)) → IsStrictlySortedBy R (keys_of known.set)
      → IsStrictlySortedBy R (keys_of (weighed (eligible R known targets)))
  sorted-eligible known targets sorted =
      rw (keys_of-map_values weight_of (eligible R known targets), keys-filter (λ p. is_eligible R known targets p) known.set)
      (IsStrictlySortedBy-filter R (λ p. is_eligible R known targets p) (keys_of known.set) sorted)

-- what is left of a list from a place on
pub drop-first : {X : Type 0} (xs : List X) (k : ℕ) (x : X) → k < length xs → x ≡ get_or xs k x → drop k xs ≡ x ∷ drop (k + 1) xs
drop-first [] k x within is = absurd (omega (arith, within))
drop-first (y ∷ xs) zero x within is = ap (λ (z : _). z ∷ xs) (sym is)
drop-first (y ∷ xs) (suc k) x within is =
    let more : suc (k + 1) ≡ suc k + 1 = omega arith in
    drop-first xs k x (omega (arith, within)) is ∙ ap (λ (j : ℕ). x ∷ drop j (y ∷ xs)) more

pub drop-all : {X : Type 0} (xs : List X) (k : ℕ) → length xs ≤ k → drop k xs ≡ []
drop-all [] zero past = refl
drop-all [] (suc k) past = refl
drop-all (y ∷ xs) zero past = absurd (omega (arith, past))
drop-all (y ∷ xs) (suc k) past = drop-all xs k (omega (arith, past))

module _ {P : Type 0} (R : P → P → Ordering) where
  -- those that are none of some peers
  abbrev pub untried : List P → List (P × ℕ) → List (P × ℕ)
  untried tried ps = filter (λ p. not (is_one_of R tried p.0)) ps

  -- without one, and then without others
  pub untried-more : (t : P) (tried : List P) (ps : List (P × ℕ)) → untried tried (apart_from R t ps) ≡ untried (t ∷ tried) ps
  untried-more t tried [] = refl
  untried-more t tried (p ∷ ps) = at (is_eq (R p.0 t)) refl (untried-more t tried ps) where
    at : (b : Bool) → is_eq (R p.0 t) ≡ b → untried tried (apart_from R t ps) ≡ untried (t ∷ tried) ps
        → untried tried (apart_from R t (p ∷ ps)) ≡ untried (t ∷ tried) (p ∷ ps)
    at true here rest = grind (arith, common_steps, here, rest)
    at false here rest = grind (arith, common_steps, here, rest)

  pub untried-none : (ps : List (P × ℕ)) → untried [] ps ≡ ps
  untried-none [] = refl
  untried-none (p ∷ ps) = ap (λ (qs : List (P × ℕ)). p ∷ qs) (untried-none ps)

pub same-filter : {X : Type 0} (test other : X → Bool) → ((x : X) → test x ≡ other x) → (xs : List X) → filter test xs ≡ filter other xs
same-filter test other same [] = refl
same-filter test other same (x ∷ xs) = let rest = same-filter test other same xs in let here = same x in grind (arith, common_steps, rest, here)

module _ {K P : Type 0} (o : Orders K P) where
  -- who was not tried for a key is none of those that were
  pub untried-left : (trail : List (Try K P)) (key : K) (es : List (P × Averages))
      → untried o.peer (peers_tried o.key trail key) (weighed es) ≡ weighed (filter (λ p. not (was_tried o trail key p.0)) es)
  untried-left trail key es =
      weighed-filter (λ p. not (is_one_of o.peer (peers_tried o.key trail key) p)) es
      ∙ ap weighed (same-filter (λ p. not (is_one_of o.peer (peers_tried o.key trail key) p.0)) (λ p. not (was_tried o trail key p.0)) (λ p. ap not (sym (tried-one-of o key p.0 trail))) es)

  module _ (f : Fetcher K P) (moment : ℕ) (trail : List (Try K P)) (t : Trying K P) where
    some-same : (u v : Trying K P) → Some u ≡ Some v → u ≡ v
    some-same u v e = cc

    all-for : (found : Option (Place × K)) → option_map (trying_key o f trail) found ≡ Some t → targets_of o f t.key ≡ None
        → t.all ≡ sampled o.peer (snapshots.known o (snapshot o f))
    all-for None is any = absurd cc
    all-for (Some p) is any =
        let same : trying_key o f trail p ≡ t = some-same _ _ is in
        let none : targets_of o f p.1 ≡ None = ap (λ (u : Trying K P). targets_of o f u.key) same ∙ any in
        ap (λ (u : Trying K P). u.all) (sym same) ∙ ap (λ (targets : Option (List P)). drawn_from o.peer (snapshots.known o (snapshot o f)) targets) none

    -- a key without targets is tried with all that may be asked
    pub all-tried : tried_next o f moment trail ≡ Some t → targets_of o f t.key ≡ None → t.all ≡ sampled o.peer (snapshots.known o (snapshot o f))
    all-tried is any = all-for _ (sym (seeks-in o f moment trail f.waiting) ∙ is) any
