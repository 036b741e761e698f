-- Whether a request more or fewer changes who may be asked, and what a peer weighs that it fills or frees.
use Rattle.std.proofs.Common.{◌≡◌, ◌&&◌, refl, ap, sym, ◌∙◌, ℕ, ◌+◌, ◌-◌, Bool, true, false, not, List, length, filter, Option, None, Some, option_map, if◌then◌else◌, arith}
use Rattle.std.specs.Prelude.{nat_le, unwrap_or}
use Rattle.std.specs.Cmp.{IsTotalOrder}
use Rattle.std.specs.BTreeMap.{is_at}
use Rattle.std.specs.Map.{lookup}
use Rattle.std.specs.Ordering.{is_eq}
use Rattle.std.specs.declared.cmp.Ordering.{Ordering}
use Rattle.std.proofs.lemmas.Bool.Decides.{nat_tests}
use Rattle.std.proofs.lemmas.Cmp.{eq_by_cmp_equiv}
use Rattle.resolver_sampling.specs.declared.score.Averages.{Averages}
use Rattle.resolver_sampling.specs.Scores.{weight_of}
use Rattle.resolver_fetch_requests.specs.Loads.{Counts, counted, fills, frees, is_full, loaded, one_fewer, one_more}
use Rattle.resolver_fetch_requests.proofs.Names.{lookup-same}
use Rattle.resolver_fetch_scan.specs.Known.{Company, askable, is_local, known_by, may_be_asked, weight_in}
use Rattle.resolver_fetch_scan.specs.Orders.{is_one_of}
use Rattle.resolver_fetch_scan.specs.Pools.{IsWhole, Pool, whole}
use Rattle.resolver_fetch_scan.proofs.Tried.{equal-is}
use Rattle.resolver_fetch.proofs.Refitting.{samples}

-- the numbers behind it
more-same : (l n : ℕ) → (nat_le l (n + 1) && not (nat_le l n)) ≡ false → nat_le l (n + 1) ≡ nat_le l n
more-same l n is = at (nat_le l (n + 1)) (nat_le l n) refl refl is where
  at : (b c : Bool) → nat_le l (n + 1) ≡ b → nat_le l n ≡ c → (b && not c) ≡ false → b ≡ c
  at true true more less is = refl
  at false false more less is = refl
  at true false more less is = absurd cc
  at false true more less is = absurd (grind (arith, nat_tests, more, less))

fewer-same : (l n : ℕ) → (nat_le l n && not (nat_le l (n - 1))) ≡ false → nat_le l (n - 1) ≡ nat_le l n
fewer-same l n is = at (nat_le l (n - 1)) (nat_le l n) refl refl is where
  at : (b c : Bool) → nat_le l (n - 1) ≡ b → nat_le l n ≡ c → (c && not b) ≡ false → b ≡ c
  at true true less more is = refl
  at false false less more is = refl
  at false true less more is = absurd cc
  at true false less more is = absurd (grind (arith, nat_tests, less, more))

both-true : (b c : Bool) → (b && not c) ≡ true → (b ≡ true) × (c ≡ false)
both-true true false is = (refl, refl)
both-true true true is = absurd cc
both-true false c is = absurd cc

module _ {P : Type 0} {R : P → P → Ordering} (total : IsTotalOrder R) (x : P) where
  -- equal peers have as many
  counted-same : (counts : List (P × ℕ)) (p : P) → is_eq (R x p) ≡ true → counted R counts p ≡ counted R counts x
  counted-same counts p same = ap (λ (o : Option ℕ). unwrap_or o 0) (sym (lookup-same total x p counts (equal-is (R x p) same)))

  itself : is_eq (R x x) ≡ true
  itself = let laws = eq_by_cmp_equiv total in laws.refl x

  -- where a request more fills no peer, as many are full
  pub more-full : (counts : Option (Counts P)) → fills R x counts ≡ false → (p : P) → is_full (option_map (one_more R x) (option_map (loaded R) counts)) p ≡ is_full (option_map (loaded R) counts) p
  more-full None is p = refl
  more-full (Some c) is p = at (is_eq (R x p)) refl where
    at : (b : Bool) → is_eq (R x p) ≡ b → nat_le c.limit (if b then counted R c.counts p + 1 else counted R c.counts p) ≡ nat_le c.limit (counted R c.counts p)
    at false other = refl
    at true same = rw (counted-same c.counts p same) (more-same c.limit (counted R c.counts x) is)

  -- and where a request fewer frees none
  pub fewer-full : (counts : Option (Counts P)) → frees R x counts ≡ false → (p : P) → is_full (option_map (one_fewer R x) (option_map (loaded R) counts)) p ≡ is_full (option_map (loaded R) counts) p
  fewer-full None is p = refl
  fewer-full (Some c) is p = at (is_eq (R x p)) refl where
    at : (b : Bool) → is_eq (R x p) ≡ b → nat_le c.limit (if b then counted R c.counts p - 1 else counted R c.counts p) ≡ nat_le c.limit (counted R c.counts p)
    at false other = refl
    at true same = rw (counted-same c.counts p same) (fewer-same c.limit (counted R c.counts x) is)

  -- a peer that is filled
  pub filled : (counts : Option (Counts P)) → fills R x counts ≡ true → (is_full (option_map (loaded R) counts) x ≡ false) × (is_full (option_map (one_more R x) (option_map (loaded R) counts)) x ≡ true)
  filled None is = absurd cc
  filled (Some c) is =
      let both = both-true (nat_le c.limit (counted R c.counts x + 1)) (nat_le c.limit (counted R c.counts x)) is in
      (both.1, rw itself both.0)

  -- and one that is freed
  pub freed : (counts : Option (Counts P)) → frees R x counts ≡ true → (is_full (option_map (loaded R) counts) x ≡ true) × (is_full (option_map (one_fewer R x) (option_map (loaded R) counts)) x ≡ false)
  freed None is = absurd cc
  freed (Some c) is =
      let both = both-true (nat_le c.limit (counted R c.counts x)) (nat_le c.limit (counted R c.counts x - 1)) is in
      (both.0, rw itself both.1)

module _ {P : Type 0} (R : P → P → Ordering) where
  -- who is as full as before may be asked as before
  pub may-same : (company : Company P) (counts : Option (Counts P)) → ((p : P) → is_full (option_map (loaded R) counts) p ≡ is_full (option_map (loaded R) company.counts) p)
      → (p : P) → may_be_asked R (known_by R (record company { counts = counts })) p ≡ may_be_asked R (known_by R company) p
  may-same company counts same p = rw (same p) refl

  -- so as many may be asked, and the pool at hand is as it was
  pub refits-none : (company : Company P) (counts : Option (Counts P)) → ((p : P) → may_be_asked R (known_by R (record company { counts = counts })) p ≡ may_be_asked R (known_by R company) p)
      → (allowed : ℕ) (pool : Option (Pool P)) → (allowed ≡ askable R (known_by R company)) × IsWhole R (known_by R company) pool
      → (allowed ≡ askable R (known_by R (record company { counts = counts }))) × IsWhole R (known_by R (record company { counts = counts })) pool
  refits-none company counts same allowed pool so = (so.0 ∙ ap (λ (may : P → Bool). length (filter (λ p. may p.0) company.set)) mays, at pool so.1) where
    mays : may_be_asked R (known_by R company) ≡ may_be_asked R (known_by R (record company { counts = counts }))
    mays = λ i p. sym (same p) i

    at : (pool : Option (Pool P)) → IsWhole R (known_by R company) pool → IsWhole R (known_by R (record company { counts = counts })) pool
    at None whole = tt
    at (Some pool) is = is ∙ ap (λ (may : P → Bool). whole (samples may company.set)) mays

  -- without a limit a peer weighs what it weighs where it is not full
  pub weighs-free : (company : Company P) (x : P) → is_full (option_map (loaded R) company.counts) x ≡ false
      → weight_in R (known_by R (record company { counts = None })) x ≡ weight_in R (known_by R company) x
  weighs-free company x free = rw free refl

  never : (b c : Bool) (w : ℕ) → (if b && c && false then w else 0) ≡ 0
  never true true w = refl
  never true false w = refl
  never false c w = refl

  -- a full peer of the set weighs nothing
  pub weighs-nothing : (company : Company P) (x : P) (weight : Option ℕ) (other : Company P) → other.set ≡ company.set → weight ≡ weight_in R (known_by R other) x
      → is_full (option_map (loaded R) company.counts) x ≡ true → option_map {T = ℕ} {U = ℕ} (λ _. 0) weight ≡ weight_in R (known_by R company) x
  weighs-nothing company x weight other set is full =
      ap (option_map {T = ℕ} {U = ℕ} (λ _. 0)) is
      ∙ zeros (lookup (is_at (R x)) other.set) (λ a. if may_be_asked R (known_by R other) x then weight_of a else 0)
      ∙ ap (λ (es : List (P × Averages)). option_map {T = Averages} {U = ℕ} (λ a. 0) (lookup (is_at (R x)) es)) set
      ∙ sym (nothing (lookup (is_at (R x)) company.set)) where
        zeros : (found : Option Averages) (f : Averages → ℕ) → option_map {T = ℕ} {U = ℕ} (λ _. 0) (option_map f found) ≡ option_map {T = Averages} {U = ℕ} (λ a. 0) found
        zeros None f = refl
        zeros (Some a) f = refl

        nothing : (found : Option Averages) → option_map (λ a. if may_be_asked R (known_by R company) x then weight_of a else 0) found ≡ option_map {T = Averages} {U = ℕ} (λ a. 0) found
        nothing None = refl
        nothing (Some a) = ap Some (rw full (never (not (is_local R company.local x)) (not (is_one_of R company.blocked x)) (weight_of a)))
