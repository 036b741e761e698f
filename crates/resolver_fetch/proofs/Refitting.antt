-- What the peers of a set weigh, and how many may be asked, where one of them has more or fewer requests.
use Rattle.std.proofs.Common.{◌≡◌, ◌&&◌, refl, ap, sym, subst, ◌∙◌, ℕ, ◌+◌, Bool, true, false, cond, List, [], ◌∷◌, length, filter, map, Option, None, Some, option_map, if◌then◌else◌, arith}
use Rattle.std.specs.BTreeMap.{is_at}
use Rattle.std.specs.Cmp.{IsTotalOrder}
use Rattle.std.specs.List.{AllByRecursion}
use Rattle.std.specs.List.Sorted.{IsStrictlySortedBy}
use Rattle.std.specs.Map.{keys_of, lookup, set_value}
use Rattle.std.specs.Ordering.{is_eq}
use Rattle.std.specs.declared.cmp.Ordering.{Ordering}
use Rattle.std.specs.declared.cmp.Ordering.TheVariants.{Less, Equal}
use Rattle.std.proofs.lemmas.Bool.{lt-ltb}
use Rattle.std.proofs.lemmas.Map.Keys.{sorted_head, sorted_tail}
use Rattle.resolver_sampling.specs.declared.score.Averages.{Averages}
use Rattle.resolver_sampling.specs.declared.score.Averages.TheVariants.{Unobserved}
use Rattle.resolver_sampling.specs.Scores.{Observation, averaged, weight_of}
use Rattle.std.specs.Prelude.{nat_le, unwrap_or}
use Rattle.resolver_fetch_requests.specs.Loads.{Counts, is_full, loaded}
use Rattle.resolver_fetch_requests.proofs.Names.{lookup-same}
use Rattle.resolver_fetch_scan.specs.Known.{Company, Known, eligible, is_local, known_by, may_be_asked, sampling_weight, weight_in}
use Rattle.resolver_fetch_scan.specs.Orders.{is_one_of}
use Rattle.resolver_fetch_scan.specs.Pools.{IsWhole, Pool, revalued, reweighed, weighing, whole}
use Rattle.resolver_fetch_scan.specs.Trying.{drawn_from, sampled, weighed}
use Rattle.resolver_fetch_scan.proofs.Entries.{set_value-none}
use Rattle.resolver_fetch_scan.proofs.Pools.{revalued-nothing, revalued-some}
use Rattle.resolver_fetch_scan.proofs.Tried.{equal-back, equal-is}
use Rattle.resolver_fetch.proofs.Weighing.{same-filter, unchanged, weight-some}

-- which may be asked, with what they weigh
abbrev pub samples : {P : Type 0} → (may : P → Bool) → List (P × Averages) → List (P × ℕ)
samples may set = map (λ p. (p.0, if may p.0 then weight_of p.1 else 0)) set

abbrev pub one_if : Bool → ℕ
one_if b = if b then 1 else 0

module _ {P : Type 0} (may : P → Bool) where
  -- those that may be asked weigh something, and no others
  pub samples-left : (set : List (P × Averages)) → weighing (samples may set) ≡ weighed (filter (λ p. may p.0) set)
  samples-left [] = refl
  samples-left (e ∷ set) = at (may e.0) (samples-left set) where
    at : (b : Bool) → weighing (samples may set) ≡ weighed (filter (λ p. may p.0) set)
        → weighing ((e.0, if b then weight_of e.1 else 0) ∷ samples may set) ≡ weighed (cond b (e ∷ filter (λ p. may p.0) set) (filter (λ p. may p.0) set))
    at true rest = rw (lt-ltb 0 (weight_of e.1) (weight-some e.1), rest) refl
    at false rest = rest

  and-true : (b : Bool) → (b && true) ≡ b
  and-true true = refl
  and-true false = refl

  -- they have the names of the set
  pub samples-keys : (set : List (P × Averages)) → keys_of (samples may set) ≡ keys_of set
  samples-keys [] = refl
  samples-keys (e ∷ set) = ap (λ ns. e.0 ∷ ns) (samples-keys set)

  -- what a peer is like changes what it weighs, if it may be asked
  pub samples-set : (at : P → Bool) (same : Bool) → ((p : P) → at p ≡ true → may p ≡ same) → (v : Averages) (set : List (P × Averages))
      → samples may (set_value at set v) ≡ set_value at (samples may set) (if same then weight_of v else 0)
  samples-set at same alike v [] = refl
  samples-set at same alike v (e ∷ set) = here (at e.0) refl (samples-set at same alike v set) where
    here : (b : Bool) → at e.0 ≡ b → samples may (set_value at set v) ≡ set_value at (samples may set) (if same then weight_of v else 0)
        → samples may (cond b ((e.0, v) ∷ set) (e ∷ set_value at set v))
        ≡ cond b ((e.0, if same then weight_of v else 0) ∷ samples may set) ((e.0, if may e.0 then weight_of e.1 else 0) ∷ set_value at (samples may set) (if same then weight_of v else 0))
    here true is rest = rw (alike e.0 is) refl
    here false is rest = ap (λ ps. (e.0, if may e.0 then weight_of e.1 else 0) ∷ ps) rest

  -- also one that may not be asked
  pub samples-stay : (at : P → Bool) → ((p : P) → at p ≡ true → may p ≡ false) → (v : Averages) (set : List (P × Averages))
      → samples may (set_value at set v) ≡ samples may set
  samples-stay at none v [] = refl
  samples-stay at none v (e ∷ set) = here (at e.0) refl (samples-stay at none v set) where
    here : (b : Bool) → at e.0 ≡ b → samples may (set_value at set v) ≡ samples may set → samples may (cond b ((e.0, v) ∷ set) (e ∷ set_value at set v)) ≡ samples may (e ∷ set)
    here true is rest = rw (none e.0 is) refl
    here false is rest = ap (λ ps. (e.0, if may e.0 then weight_of e.1 else 0) ∷ ps) rest

-- what is left of the peers that are drawn from, where none was tried
pub drawn-left : {P : Type 0} (R : P → P → Ordering) (known : Known P) (targets : Option (List P)) → weighing (drawn_from R known targets) ≡ weighed (eligible R known targets)
drawn-left R known None =
    samples-left (may_be_asked R known) known.set
    ∙ ap weighed (same-filter (λ p. may_be_asked R known p.0) (λ p. may_be_asked R known p.0 && true) (λ p. sym (and-true (may_be_asked R known) (may_be_asked R known p.0))) known.set)
drawn-left R known (Some targets) = unchanged (eligible R known (Some targets))

-- the same peers may be asked before and now, but for one
module _ {P : Type 0} {R : P → P → Ordering} (total : IsTotalOrder R) (x : P) (may now : P → Bool)
    (alike : (p : P) → R x p ≡ Equal → now p ≡ now x) (before : (p : P) → R x p ≡ Equal → may p ≡ may x) (others : (p : P) → is_eq (R x p) ≡ false → now p ≡ may p) where
  -- behind the peer itself are others
  behind : (n : P) → R x n ≡ Equal → (m : P) → R n m ≡ Less → is_eq (R x m) ≡ false
  behind n same m less = ap is_eq (total.congr x n m same ∙ less)

  same-samples : (n : P) → R x n ≡ Equal → (set : List (P × Averages)) → AllByRecursion (λ m. R n m ≡ Less) (keys_of set) → samples now set ≡ samples may set
  same-samples n same [] all = refl
  same-samples n same (e ∷ set) all = rw (others e.0 (behind n same e.0 all.0), same-samples n same set all.1) refl

  abbrev Sampled : List (P × Averages) → Option Averages → Type 0
  Sampled set None = samples now set ≡ samples may set
  Sampled set (Some a) = samples now set ≡ set_value (is_at (R x)) (samples may set) (if now x then weight_of a else 0)

  pub samples-then : (set : List (P × Averages)) → IsStrictlySortedBy R (keys_of set) → Sampled set (lookup (is_at (R x)) set)
  samples-then [] sorted = refl
  samples-then (e ∷ set) sorted = at (is_eq (R x e.0)) refl (lookup (is_at (R x)) set) (samples-then set (sorted_tail R e.0 (keys_of set) sorted)) where
    at : (b : Bool) → is_eq (R x e.0) ≡ b → (found : Option Averages) → Sampled set found → Sampled (e ∷ set) (cond b (Some e.1) found)
    at true here found rest =
        let same = equal-is (R x e.0) here in
        let tail : samples now set ≡ samples may set = same-samples e.0 same set (sorted_head R e.0 (keys_of set) sorted) in
        rw (here, alike e.0 same, tail) refl
    at false here None rest = rw (others e.0 here, rest) refl
    at false here (Some a) rest = rw (here, others e.0 here, rest) refl

  same-counts : (n : P) → R x n ≡ Equal → (set : List (P × Averages)) → AllByRecursion (λ m. R n m ≡ Less) (keys_of set)
      → filter (λ p. now p.0) set ≡ filter (λ p. may p.0) set
  same-counts n same [] all = refl
  same-counts n same (e ∷ set) all = rw (others e.0 (behind n same e.0 all.0), same-counts n same set all.1) refl

  abbrev pub Counted : List (P × Averages) → Option Averages → Type 0
  Counted set None = length (filter (λ p. now p.0) set) ≡ length (filter (λ p. may p.0) set)
  Counted set (Some a) = length (filter (λ p. now p.0) set) + one_if (may x) ≡ length (filter (λ p. may p.0) set) + one_if (now x)

  first : (a b : Bool) (e : P × Averages) (rest : List (P × Averages)) → length (cond a (e ∷ rest) rest) + one_if b ≡ length (cond b (e ∷ rest) rest) + one_if a
  first true true e rest = refl
  first true false e rest = omega arith
  first false true e rest = omega arith
  first false false e rest = refl

  later : (b : Bool) (e : P × Averages) (n m : ℕ) (xs ys : List (P × Averages)) → length xs + n ≡ length ys + m → length (cond b (e ∷ xs) xs) + n ≡ length (cond b (e ∷ ys) ys) + m
  later true e n m xs ys same = omega (arith, same)
  later false e n m xs ys same = same

  pub counts-then : (set : List (P × Averages)) → IsStrictlySortedBy R (keys_of set) → Counted set (lookup (is_at (R x)) set)
  counts-then [] sorted = refl
  counts-then (e ∷ set) sorted = at (is_eq (R x e.0)) refl (lookup (is_at (R x)) set) (counts-then set (sorted_tail R e.0 (keys_of set) sorted)) where
    at : (b : Bool) → is_eq (R x e.0) ≡ b → (found : Option Averages) → Counted set found → Counted (e ∷ set) (cond b (Some e.1) found)
    at true here found rest =
        let same = equal-is (R x e.0) here in
        rw (alike e.0 same, before e.0 same, same-counts e.0 same set (sorted_head R e.0 (keys_of set) sorted)) (first (now x) (may x) e (filter (λ p. may p.0) set))
    at false here None rest =
        rw (others e.0 here)
        (omega (arith, later (may e.0) e 0 0 (filter (λ p. now p.0) set) (filter (λ p. may p.0) set) (ap (λ n. n + 0) rest)))
    at false here (Some a) rest = rw (others e.0 here) (later (may e.0) e (one_if (may x)) (one_if (now x)) (filter (λ p. now p.0) set) (filter (λ p. may p.0) set) rest)

-- equal peers may be asked alike
module _ {P : Type 0} {R : P → P → Ordering} (total : IsTotalOrder R) (p q : P) (same : R p q ≡ Equal) where
  equal-local : (local : Option P) → is_local R local p ≡ is_local R local q
  equal-local None = refl
  equal-local (Some local) = equal-back total local p ∙ ap is_eq (total.congr p q local same) ∙ equal-back total q local

  equal-blocked : (blocked : List P) → is_one_of R blocked p ≡ is_one_of R blocked q
  equal-blocked [] = refl
  equal-blocked (b ∷ blocked) = rw (ap is_eq (total.congr p q b same), equal-blocked blocked) refl

  equal-full : (counts : Option (Counts P)) → is_full (option_map (loaded R) counts) p ≡ is_full (option_map (loaded R) counts) q
  equal-full None = refl
  equal-full (Some c) = ap (λ (o : Option ℕ). nat_le c.limit (unwrap_or o 0)) (lookup-same total p q c.counts same)

  pub equal-may : (company : Company P) → may_be_asked R (known_by R company) p ≡ may_be_asked R (known_by R company) q
  equal-may company = rw (equal-local company.local, equal-blocked company.blocked, equal-full company.counts) refl

-- what is observed of a peer changes what it weighs, if it may be asked
module _ {P : Type 0} {R : P → P → Ordering} (total : IsTotalOrder R) (company : Company P) (x : P) (v : Averages) where
  abbrev Then : Company P
  Then = record company { set = set_value (is_at (R x)) company.set v }

  abbrev May : P → Bool
  May p = may_be_asked R (known_by R company) p

  alike : (p : P) → is_at (R x) p ≡ true → May p ≡ May x
  alike p same = sym (equal-may total x p (equal-is (R x p) same) company)

  -- what it weighs so far
  sampled-at : (set : List (P × Averages)) → lookup (is_at (R x)) (samples May set) ≡ option_map (λ a. if May x then weight_of a else 0) (lookup (is_at (R x)) set)
  sampled-at [] = refl
  sampled-at (e ∷ set) = at (is_at (R x) e.0) refl (sampled-at set) where
    at : (b : Bool) → is_at (R x) e.0 ≡ b → lookup (is_at (R x)) (samples May set) ≡ option_map (λ a. if May x then weight_of a else 0) (lookup (is_at (R x)) set)
        → cond b (Some (if May e.0 then weight_of e.1 else 0)) (lookup (is_at (R x)) (samples May set)) ≡ option_map (λ a. if May x then weight_of a else 0) (cond b (Some e.1) (lookup (is_at (R x)) set))
    at true is rest = rw (alike e.0 is) refl
    at false is rest = rest

  revalued-with : (a : Averages) → lookup (is_at (R x)) company.set ≡ Some a → (b : Bool) → May x ≡ b → (pool : Pool P) → pool ≡ whole (sampled R (known_by R company))
      → revalued R x (weight_of v) pool ≡ whole (sampled R (known_by R Then))
  revalued-with a there b may pool is =
      let found : lookup (is_at (R x)) pool.all ≡ Some (if b then weight_of a else 0) =
      ap (λ (p : Pool P). lookup (is_at (R x)) p.all) is ∙ sampled-at company.set
      ∙ ap (λ (o : Option Averages). option_map (λ a. if May x then weight_of a else 0) o) there ∙ ap (λ (m : Bool). Some (if m then weight_of a else 0)) may in
      at b may found where
        at : (b : Bool) → May x ≡ b → lookup (is_at (R x)) pool.all ≡ Some (if b then weight_of a else 0) → revalued R x (weight_of v) pool ≡ whole (sampled R (known_by R Then))
        at true may found =
            revalued-some total x pool (weight_of a) (weight_of v) found (weight-some a)
            ∙ ap (λ (p : Pool P). whole (set_value (is_at (R x)) p.all (weight_of v))) is
            ∙ ap whole (sym (samples-set May (is_at (R x)) true (λ p same. alike p same ∙ may) v company.set))
        at false may found =
            revalued-nothing total x pool 0 (weight_of v) found (omega arith)
            ∙ ap (λ (p : Pool P). whole p.all) is
            ∙ ap whole (sym (samples-stay May (is_at (R x)) (λ p same. alike p same ∙ may) v company.set))

  whole-there : (a : Averages) → lookup (is_at (R x)) company.set ≡ Some a → (pool : Option (Pool P)) → IsWhole R (known_by R company) pool
      → IsWhole R (known_by R Then) (option_map (revalued R x (weight_of v)) pool)
  whole-there a there None so = tt
  whole-there a there (Some pool) so = revalued-with a there (May x) refl pool so

  -- by what its score weighs then
  pub whole-revalued : (seen : Observation) (found : Option Averages) → lookup (is_at (R x)) company.set ≡ found → v ≡ averaged (unwrap_or found Unobserved) seen
      → (weight : ℕ) → Some weight ≡ option_map (λ a. weight_of (averaged a seen)) found → (pool : Option (Pool P)) → IsWhole R (known_by R company) pool
      → IsWhole R (known_by R Then) (option_map (revalued R x weight) pool)
  whole-revalued seen None none is weight weighs pool so = absurd cc
  whole-revalued seen (Some a) there is weight weighs pool so =
      let same : weight_of v ≡ weight = cc in
      subst (λ (w : ℕ). IsWhole R (known_by R Then) (option_map (revalued R x w) pool)) same (whole-there a there pool so)

  -- where it is not in the set nothing changes
  pub whole-unseen : (seen : Observation) (found : Option Averages) → lookup (is_at (R x)) company.set ≡ found → None ≡ option_map (λ a. weight_of (averaged a seen)) found
      → (pool : Option (Pool P)) → IsWhole R (known_by R company) pool → IsWhole R (known_by R Then) pool
  whole-unseen seen None none unseen pool so =
      subst (λ (set : List (P × Averages)). IsWhole R (known_by R (record company { set = set })) pool) (sym (set_value-none (is_at (R x)) company.set v none)) so
  whole-unseen seen (Some a) there unseen pool so = absurd cc

-- what one peer weighs, and how many may be asked, where it has more or fewer requests
module _ {P : Type 0} {R : P → P → Ordering} (total : IsTotalOrder R) (x : P) (old new : Company P) (set : new.set ≡ old.set) (sorted : IsStrictlySortedBy R (keys_of old.set))
    (others : (p : P) → is_eq (R x p) ≡ false → may_be_asked R (known_by R new) p ≡ may_be_asked R (known_by R old) p) where
  abbrev Was : P → Bool
  Was p = may_be_asked R (known_by R old) p

  abbrev Is : P → Bool
  Is p = may_be_asked R (known_by R new) p

  refits : (found : Option Averages) → Sampled total x Was Is (λ p same. sym (equal-may total x p same new)) (λ p same. sym (equal-may total x p same old)) others old.set found
      → (pool : Pool P) → pool ≡ whole (sampled R (known_by R old))
      → reweighed R x (option_map (λ a. sampling_weight R (known_by R new) (x, a)) found) pool ≡ whole (samples Is old.set)
  refits None same pool is = is ∙ ap whole (sym same)
  refits (Some a) same pool is = ap (λ (p : Pool P). whole (set_value (is_at (R x)) p.all (if Is x then weight_of a else 0))) is ∙ ap whole (sym same)

  pub whole-refitted : (pool : Option (Pool P)) → IsWhole R (known_by R old) pool → IsWhole R (known_by R new) (option_map (reweighed R x (weight_in R (known_by R new) x)) pool)
  whole-refitted None so = tt
  whole-refitted (Some pool) so =
      subst (λ (es : List (P × Averages)). reweighed R x (option_map (λ a. sampling_weight R (known_by R new) (x, a)) (lookup (is_at (R x)) es)) pool ≡ whole (samples Is es)) (sym set)
      (refits (lookup (is_at (R x)) old.set) (samples-then total x Was Is (λ p same. sym (equal-may total x p same new)) (λ p same. sym (equal-may total x p same old)) others old.set sorted) pool so)
