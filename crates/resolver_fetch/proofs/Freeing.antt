-- How many requests each peer has, while those whose keys are let go are counted off.
use Rattle.std.proofs.Common.{◌≡◌, refl, ap, sym, ◌∙◌, ℕ, ◌+◌, ◌-◌, ◌≤◌, Bool, true, false, cond, List, [], ◌∷◌, length, filter, Option, None, Some, option_map, if◌then◌else◌, arith}
use Rattle.std.specs.BTreeMap.{is_at}
use Rattle.std.specs.declared.cmp.Ordering.{Ordering}
use Rattle.resolver_fetch_requests.specs.declared.requests.request.Request.{Request}
use Rattle.resolver_fetch_requests.specs.Loads.{IsLoadedBy, Load, load_of, one_fewer}
use Rattle.resolver_fetch_requests.specs.Requests.{is_to, requests_to}
use Rattle.resolver_fetch_scan.specs.Known.{Known, with_load}
use Rattle.resolver_fetch.specs.LeftPeers.{loaded_by, loaded_with}

module _ {K P : Type 0} (R : P → P → Ordering) (keep : K → Bool) where
  abbrev pub kept : List (ℕ × Request K P) → List (ℕ × Request K P)
  kept asked = filter (λ r. keep r.1.key) asked

  -- each peer has as many as those that are kept, and those of the rest that aren't
  abbrev pub IsFreed : (all rest : List (ℕ × Request K P)) → (old now : Known P) → Type 0
  IsFreed all rest old now =
      (f : P → ℕ) × (now ≡ with_load (option_map (loaded_with f)) old)
      × ((p : P) → f p + requests_to R (kept rest) p ≡ requests_to R (kept all) p + requests_to R rest p)

  as-loaded : (all : List (ℕ × Request K P)) (load : Option (Load P)) → IsLoadedBy R all load → load ≡ option_map (loaded_with (requests_to R all)) load
  as-loaded all None is = refl
  as-loaded all (Some load) is = λ i. Some (record { limit = load.limit; requests = is i })

  pub freed-first : (all : List (ℕ × Request K P)) (old : Known P) → IsLoadedBy R all old.load → IsFreed all all old old
  freed-first all old is =
      (requests_to R all, ap (λ (load : Option (Load P)). record old { load = load }) (as-loaded all old.load is), λ p. let a = requests_to R all p in let b = requests_to R (kept all) p in omega arith)

  count : (b : Bool) (r : ℕ × Request K P) (p : P) (rs : List (ℕ × Request K P))
      → requests_to R (cond b (r ∷ rs) rs) p ≡ requests_to R rs p + (if b then (if is_to R p r then 1 else 0) else 0)
  count true r p rs = at (is_to R p r) where
    at : (b : Bool) → length (cond b (r ∷ filter (is_to R p) rs) (filter (is_to R p) rs)) ≡ length (filter (is_to R p) rs) + (if b then 1 else 0)
    at true = omega arith
    at false = omega arith
  count false r p rs = omega arith

  fewer : (rs : List (ℕ × Request K P)) (p : P) → requests_to R (kept rs) p ≤ requests_to R rs p
  fewer [] p = omega arith
  fewer (r ∷ rs) p = at (keep r.1.key) (is_to R p r) (count (keep r.1.key) r p (kept rs)) (count true r p rs) (fewer rs p) where
    at : (b t : Bool) → requests_to R (kept (r ∷ rs)) p ≡ requests_to R (kept rs) p + (if b then (if t then 1 else 0) else 0)
        → requests_to R (r ∷ rs) p ≡ requests_to R rs p + (if t then 1 else 0) → requests_to R (kept rs) p ≤ requests_to R rs p
        → requests_to R (kept (r ∷ rs)) p ≤ requests_to R (r ∷ rs) p
    at true true k a l = omega (arith, k, a, l)
    at true false k a l = omega (arith, k, a, l)
    at false true k a l = omega (arith, k, a, l)
    at false false k a l = omega (arith, k, a, l)

  module _ (all : List (ℕ × Request K P)) (r : ℕ × Request K P) (rest : List (ℕ × Request K P)) (old now : Known P) (so : IsFreed all (r ∷ rest) old now) where
    pub freed-kept : keep r.1.key ≡ true → IsFreed all rest old now
    freed-kept is = (so.0, so.1, λ p. at p (is_to R p r) (ap (λ b. requests_to R (cond b (r ∷ kept rest) (kept rest)) p) is ∙ count true r p (kept rest)) (count true r p rest) (so.2 p)) where
      at : (p : P) (t : Bool) → requests_to R (kept (r ∷ rest)) p ≡ requests_to R (kept rest) p + (if t then 1 else 0)
          → requests_to R (r ∷ rest) p ≡ requests_to R rest p + (if t then 1 else 0)
          → so.0 p + requests_to R (kept (r ∷ rest)) p ≡ requests_to R (kept all) p + requests_to R (r ∷ rest) p
          → so.0 p + requests_to R (kept rest) p ≡ requests_to R (kept all) p + requests_to R rest p
      at p true k a e = omega (arith, k, a, e)
      at p false k a e = omega (arith, k, a, e)

    abbrev less : P → ℕ
    less p = if is_at (R r.1.peer) p then so.0 p - 1 else so.0 p

    less-load : (load : Option (Load P)) → option_map (one_fewer R r.1.peer) (option_map (loaded_with so.0) load) ≡ option_map (loaded_with less) load
    less-load None = refl
    less-load (Some load) = refl

    pub freed-off : keep r.1.key ≡ false → (next : Known P) → next ≡ with_load (option_map (one_fewer R r.1.peer)) now → IsFreed all rest old next
    freed-off is next e = (
      less,
      e ∙ ap (with_load (option_map (one_fewer R r.1.peer))) so.1 ∙ ap (λ (load : Option (Load P)). record old { load = load }) (less-load old.load),
      λ p. at p (is_to R p r) (ap (λ b. requests_to R (cond b (r ∷ kept rest) (kept rest)) p) is) (count true r p rest) (so.2 p) (fewer rest p),
    ) where
      at : (p : P) (t : Bool) → requests_to R (kept (r ∷ rest)) p ≡ requests_to R (kept rest) p
          → requests_to R (r ∷ rest) p ≡ requests_to R rest p + (if t then 1 else 0)
          → so.0 p + requests_to R (kept (r ∷ rest)) p ≡ requests_to R (kept all) p + requests_to R (r ∷ rest) p
          → requests_to R (kept rest) p ≤ requests_to R rest p
          → (if t then so.0 p - 1 else so.0 p) + requests_to R (kept rest) p ≡ requests_to R (kept all) p + requests_to R rest p
      at p true k a e l = omega (arith, k, a, e, l)
      at p false k a e l = omega (arith, k, a, e, l)

  pub freed-last : (all : List (ℕ × Request K P)) (old now : Known P) → IsFreed all [] old now → now ≡ loaded_by R (kept all) old
  freed-last all old now so =
      let each : (p : P) → so.0 p ≡ requests_to R (kept all) p = λ p. let e = so.2 p in omega (arith, e) in
      so.1 ∙ (λ i. with_load (option_map (loaded_with (λ p. each p i))) old)

  pub freed-none : (all : List (ℕ × Request K P)) (old : Known P) → old.load ≡ None → old ≡ loaded_by R (kept all) old
  freed-none all old none =
      ap (λ (load : Option (Load P)). record old { load = load }) none
      ∙ sym (ap (λ (load : Option (Load P)). record old { load = option_map (loaded_with (requests_to R (kept all))) load }) none)

-- what is left of a load
pub load-kept : {K P : Type 0} (R : P → P → Ordering) (limit : Option ℕ) (load : Option (Load P)) (asked left : List (ℕ × Request K P)) → load ≡ load_of R limit asked
    → option_map (loaded_with (requests_to R left)) load ≡ load_of R limit left
load-kept R limit load asked left is = ap (option_map (loaded_with (requests_to R left))) is ∙ of limit where
  of : (most : Option ℕ) → option_map (loaded_with (requests_to R left)) (load_of R most asked) ≡ load_of R most left
  of None = refl
  of (Some most) = refl
