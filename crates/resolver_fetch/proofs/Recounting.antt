-- How many peers may be asked at all, where one of them has more or fewer requests.
use Rattle.std.proofs.Common.{◌≡◌, refl, ap, sym, subst, ◌∙◌, ℕ, ◌+◌, ◌<◌, ◌≤◌, ◌^◌, Bool, true, false, cond, List, [], ◌∷◌, length, filter, Option, None, Some, option_map, if◌then◌else◌, arith}
use Rattle.std.specs.Prelude.{IsTrue}
use Rattle.std.specs.BTreeMap.{is_at}
use Rattle.std.specs.Cmp.{IsTotalOrder}
use Rattle.std.specs.List.Sorted.{IsStrictlySortedBy}
use Rattle.std.specs.Map.{keys_of, lookup}
use Rattle.std.specs.Ordering.{is_eq}
use Rattle.std.specs.declared.cmp.Ordering.{Ordering}
use Rattle.std.specs.declared.cmp.Ordering.TheVariants.{Equal}
use Rattle.std.proofs.lemmas.Bool.{lt-ltb}
use Rattle.resolver_sampling.specs.declared.score.Averages.{Averages}
use Rattle.resolver_sampling.specs.Scores.{weight_of}
use Rattle.resolver_fetch_requests.specs.Loads.{Counts, Load, fills, is_full, loaded, one_fewer, one_more}
use Rattle.resolver_fetch_scan.specs.Known.{Company, Known, askable, known_by, may_be_asked, weight_in, with_load}
use Rattle.resolver_fetch_scan.specs.Pools.{Pool, recounted, resampled, weighs, whole}
use Rattle.resolver_fetch_scan.specs.Trying.{sampled}
use Rattle.resolver_fetch_scan.proofs.Tried.{equal-is}
use Rattle.resolver_fetch.proofs.Filling.{more-full}
use Rattle.resolver_fetch.proofs.Refitting.{Counted, counts-then, equal-may, samples, whole-refitted}
use Rattle.resolver_fetch.proofs.Weighing.{weight-some}

-- a request more or fewer of one peer fills no other
module _ {P : Type 0} (R : P → P → Ordering) (x : P) where
  pub full-more : (load : Option (Load P)) (p : P) → is_eq (R x p) ≡ false → is_full (option_map (one_more R x) load) p ≡ is_full load p
  full-more None p other = refl
  full-more (Some load) p other = rw other refl

  pub full-fewer : (load : Option (Load P)) (p : P) → is_eq (R x p) ≡ false → is_full (option_map (one_fewer R x) load) p ≡ is_full load p
  full-fewer None p other = refl
  full-fewer (Some load) p other = rw other refl

  others-with : (company : Company P) (load : Option (Load P)) → ((p : P) → is_eq (R x p) ≡ false → is_full load p ≡ is_full (known_by R company).load p)
      → (p : P) → is_eq (R x p) ≡ false → may_be_asked R (record (known_by R company) { load = load }) p ≡ may_be_asked R (known_by R company) p
  others-with company load same p other = rw (same p other) refl

  pub others-more : (company : Company P) (counts : Option (Counts P)) → option_map (loaded R) counts ≡ option_map (one_more R x) (option_map (loaded R) company.counts)
      → (p : P) → is_eq (R x p) ≡ false → may_be_asked R (known_by R (record company { counts = counts })) p ≡ may_be_asked R (known_by R company) p
  others-more company counts is p other =
      others-with company (option_map (loaded R) counts) (λ q apart. ap (λ (l : Option (Load P)). is_full l q) is ∙ full-more (option_map (loaded R) company.counts) q apart) p other

  pub others-fewer : (company : Company P) (counts : Option (Counts P)) → option_map (loaded R) counts ≡ option_map (one_fewer R x) (option_map (loaded R) company.counts)
      → (p : P) → is_eq (R x p) ≡ false → may_be_asked R (known_by R (record company { counts = counts })) p ≡ may_be_asked R (known_by R company) p
  others-fewer company counts is p other =
      others-with company (option_map (loaded R) counts) (λ q apart. ap (λ (l : Option (Load P)). is_full l q) is ∙ full-fewer (option_map (loaded R) company.counts) q apart) p other

-- no more may be asked than there are
pub few-pass : {X : Type 0} (test : X → Bool) (xs : List X) → length (filter test xs) ≤ length xs
few-pass test [] = omega arith
few-pass test (x ∷ xs) = at (test x) (few-pass test xs) where
  at : (b : Bool) → length (filter test xs) ≤ length xs → length (cond b (x ∷ filter test xs) (filter test xs)) ≤ length (x ∷ xs)
  at true few = omega (arith, few)
  at false few = omega (arith, few)

pub room-for : {X : Type 0} (test : X → Bool) (xs : List X) → length xs < 2 ^ 63 → length (filter test xs) + 1 < 2 ^ 64
room-for test xs few = let fewer = few-pass test xs in omega (arith, few, fewer)

module _ {P : Type 0} {R : P → P → Ordering} (total : IsTotalOrder R) (x : P) (may : P → Bool) (alike : (p : P) → R x p ≡ Equal → may p ≡ may x) where
  -- where a peer of the set may be asked, some may
  some-asked : may x ≡ true → (set : List (P × Averages)) (a : Averages) → lookup (is_at (R x)) set ≡ Some a → 0 < length (filter (λ p. may p.0) set)
  some-asked is [] a found = absurd cc
  some-asked is (e ∷ set) a found = at (is_eq (R x e.0)) refl found (some-asked is set a) where
    more : (b : Bool) (xs : List (P × Averages)) → 0 < length xs → 0 < length (cond b (e ∷ xs) xs)
    more true xs some = omega arith
    more false xs some = some

    at : (b : Bool) → is_eq (R x e.0) ≡ b → cond b (Some e.1) (lookup (is_at (R x)) set) ≡ Some a
        → (lookup (is_at (R x)) set ≡ Some a → 0 < length (filter (λ p. may p.0) set)) → 0 < length (filter (λ p. may p.0) (e ∷ set))
    at true here found rest = rw (alike e.0 (equal-is (R x e.0) here) ∙ is) (omega arith)
    at false here found rest = more (may e.0) (filter (λ p. may p.0) set) (rest found)

module _ {P : Type 0} {R : P → P → Ordering} (total : IsTotalOrder R) (company : Company P) (x : P) where
  some-with : (found : Option Averages) → lookup (is_at (R x)) company.set ≡ found → (b : Bool) → may_be_asked R (known_by R company) x ≡ b
      → IsTrue (weighs (option_map (λ a. if b then weight_of a else 0) found)) → 0 < askable R (known_by R company)
  some-with None none b is weighed = absurd cc
  some-with (Some a) there true is weighed = some-asked total x (may_be_asked R (known_by R company)) (λ p same. sym (equal-may total x p same company)) is company.set a there
  some-with (Some a) there false is weighed = absurd cc

  -- where a peer weighs something, some may be asked
  pub some-weighs : IsTrue (weighs (weight_in R (known_by R company) x)) → 0 < askable R (known_by R company)
  some-weighs weighed = some-with (lookup (is_at (R x)) company.set) refl (may_be_asked R (known_by R company) x) refl weighed

recounts : (a : Averages) (before now : Bool) (was is : ℕ) → is + (if before then 1 else 0) ≡ was + (if now then 1 else 0)
    → recounted (Some (if before then weight_of a else 0)) (Some (if now then weight_of a else 0)) was ≡ is
recounts a true true was is same = rw (lt-ltb 0 (weight_of a) (weight-some a)) (omega (arith, same))
recounts a true false was is same = rw (lt-ltb 0 (weight_of a) (weight-some a)) (omega (arith, same))
recounts a false true was is same = rw (lt-ltb 0 (weight_of a) (weight-some a)) (omega (arith, same))
recounts a false false was is same = omega (arith, same)

module _ {P : Type 0} {R : P → P → Ordering} (total : IsTotalOrder R) (x : P) (old new : Company P) (set : new.set ≡ old.set) (sorted : IsStrictlySortedBy R (keys_of old.set))
    (others : (p : P) → is_eq (R x p) ≡ false → may_be_asked R (known_by R new) p ≡ may_be_asked R (known_by R old) p) where
  -- how many may be asked then
  pub recounted-then : recounted (weight_in R (known_by R old) x) (weight_in R (known_by R new) x) (askable R (known_by R old)) ≡ askable R (known_by R new)
  recounted-then =
      subst (λ (es : List (P × Averages)). recounted (weight_in R (known_by R old) x) (option_map (λ a. if may_be_asked R (known_by R new) x then weight_of a else 0) (lookup (is_at (R x)) es)) (askable R (known_by R old)) ≡ length (filter (λ p. may_be_asked R (known_by R new) p.0) es)) (sym set)
      (at (lookup (is_at (R x)) old.set) (counts-then total x (λ p. may_be_asked R (known_by R old) p) (λ p. may_be_asked R (known_by R new) p)
      (λ p same. sym (equal-may total x p same new)) (λ p same. sym (equal-may total x p same old)) others old.set sorted)) where
        at : (found : Option Averages)
            → Counted total x (λ p. may_be_asked R (known_by R old) p) (λ p. may_be_asked R (known_by R new) p) (λ p same. sym (equal-may total x p same new)) (λ p same. sym (equal-may total x p same old)) others old.set found
            → recounted (option_map (λ a. if may_be_asked R (known_by R old) x then weight_of a else 0) found) (option_map (λ a. if may_be_asked R (known_by R new) x then weight_of a else 0) found) (askable R (known_by R old))
            ≡ length (filter (λ p. may_be_asked R (known_by R new) p.0) old.set)
        at None same = sym same
        at (Some a) same = recounts a (may_be_asked R (known_by R old) x) (may_be_asked R (known_by R new) x) (askable R (known_by R old)) (length (filter (λ p. may_be_asked R (known_by R new) p.0) old.set)) same

-- the peers that are drawn from, where one of them was sent a request
module _ {P : Type 0} {R : P → P → Ordering} (total : IsTotalOrder R) (x : P) (old new : Company P) (sorted : IsStrictlySortedBy R (keys_of old.set))
    (is : known_by R new ≡ with_load (option_map (one_more R x)) (known_by R old)) where
  others-sent : (p : P) → is_eq (R x p) ≡ false → may_be_asked R (known_by R new) p ≡ may_be_asked R (known_by R old) p
  others-sent p apart =
      ap (λ (k : Known P). may_be_asked R k p) is
      ∙ others-with R x old (option_map (one_more R x) (known_by R old).load) (λ q other. full-more R x (known_by R old).load q other) p apart

  -- where it is not filled, all weigh what they weighed
  sent-with : (b : Bool) → fills R x old.counts ≡ b → sampled R (known_by R new) ≡ resampled R (known_by R new) (if b then Some x else None) (sampled R (known_by R old))
  sent-with false none =
      let same : (p : P) → may_be_asked R (with_load (option_map (one_more R x)) (known_by R old)) p ≡ may_be_asked R (known_by R old) p = λ p. rw (more-full total x old.counts none p) refl in
      ap (sampled R) is ∙ (λ i. samples (λ p. same p i) old.set)
  sent-with true some =
      ap (λ (p : Pool P). p.all) (sym (whole-refitted total x old new (ap (λ (k : Known P). k.set) is) sorted others-sent (Some (whole (sampled R (known_by R old)))) refl))

  pub sampled-sent : (name : Option P) → name ≡ (if fills R x old.counts then Some x else None)
      → sampled R (known_by R new) ≡ resampled R (known_by R new) name (sampled R (known_by R old))
  sampled-sent name named =
      subst (λ (n : Option P). sampled R (known_by R new) ≡ resampled R (known_by R new) n (sampled R (known_by R old))) (sym named) (sent-with (fills R x old.counts) refl)
