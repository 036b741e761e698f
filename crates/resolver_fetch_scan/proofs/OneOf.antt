-- What is one of a list, and what a search or a filter tells of it.
use Rattle.std.proofs.Common.{◌≡◌, refl, ap, ◌∙◌, sym, inl, inr, ℕ, zero, suc, Bool, true, false, cond, List, [], ◌∷◌, Some, None, filter, if◌then◌else◌}
use Rattle.std.specs.Prelude.{find, nat_lt, sum}
use Rattle.resolver_sampling.specs.declared.score.Averages.{Averages}
use Rattle.resolver_sampling.specs.Choice as choice
use Rattle.resolver_fetch_scan.specs.FetcherLaws.{IsAmong}
use Rattle.resolver_fetch_scan.specs.Scan.{by_place, by_weight, weights}

module _ {X : Type 0} where
  among-if : (b : Bool) (x y : X) (xs ys : List X) → (IsAmong x xs → IsAmong x ys) → IsAmong x (cond b (y ∷ xs) xs) → IsAmong x (y ∷ ys)
  among-if true x y xs ys rest (inl e) = inl e
  among-if true x y xs ys rest (inr i) = inr (rest i)
  among-if false x y xs ys rest i = inr (rest i)

  pub among-filter : (test : X → Bool) (x : X) (xs : List X) → IsAmong x (filter test xs) → IsAmong x xs
  among-filter test x [] i = i
  among-filter test x (y ∷ ys) i = among-if (test y) x y (filter test ys) ys (among-filter test x ys) i

  among-found : (test : X → Bool) (b : Bool) (w x : X) (xs : List X) → (find test xs ≡ Some w → IsAmong w xs) → cond b (Some x) (find test xs) ≡ Some w → IsAmong w (x ∷ xs)
  among-found test true w x xs rest e = let same : x ≡ w = cc in inl (sym same)
  among-found test false w x xs rest e = inr (rest e)

  -- what is found is one of the list
  pub found-among : (test : X → Bool) (xs : List X) (w : X) → find test xs ≡ Some w → IsAmong w xs
  found-among test [] w e = absurd cc
  found-among test (x ∷ xs) w e = among-found test (test x) w x xs (found-among test xs w) e

  -- what a search finds passes its test
  pub found-passes : (test : X → Bool) (xs : List X) (x : X) → find test xs ≡ Some x → test x ≡ true
  found-passes test [] x e = cc
  found-passes test (y ∷ ys) x e = at (test y) refl e (found-passes test ys x) where
    at : (b : Bool) → test y ≡ b → cond b (Some y) (find test ys) ≡ Some x → (find test ys ≡ Some x → test x ≡ true) → test x ≡ true
    at true is e rest = let same : y ≡ x = cc in ap test (sym same) ∙ is
    at false is e rest = rest e

  tested-if : (test : X → Bool) (b : Bool) (x y : X) (xs : List X) → test y ≡ b → (IsAmong x xs → test x ≡ true) → IsAmong x (cond b (y ∷ xs) xs) → test x ≡ true
  tested-if test true x y xs is rest (inl e) = ap test e ∙ is
  tested-if test true x y xs is rest (inr i) = rest i
  tested-if test false x y xs is rest i = rest i

  -- what passes a filter passes its test
  pub tested : (test : X → Bool) (x : X) (xs : List X) → IsAmong x (filter test xs) → test x ≡ true
  tested test x [] i = absurd i
  tested test x (y ∷ ys) i = tested-if test (test y) x y (filter test ys) refl (tested test x ys) i

module _ {P : Type 0} where
  -- with what averages
  abbrev pub IsOneOf : P → List (P × Averages) → Type 0
  IsOneOf peer ps = (x : Averages) × IsAmong (peer, x) ps

  pub by_place-among : (ps : List (P × Averages)) (n : ℕ) (peer : P) → by_place ps n ≡ Some peer → IsOneOf peer ps
  by_place-among [] n peer e = absurd cc
  by_place-among (p ∷ ps) zero peer e = let same : p.0 ≡ peer = cc in (p.1, inl (ap (λ q. (q, p.1)) (sym same)))
  by_place-among (p ∷ ps) (suc n) peer e = let found : IsOneOf peer ps = by_place-among ps n peer e in (found.0, inr found.1)

  within-among : (ps : List (P × Averages)) (b : Bool) (n : ℕ) (peer : P) → (if b then by_place ps n else None) ≡ Some peer → IsOneOf peer ps
  within-among ps true n peer e = by_place-among ps n peer e
  within-among ps false n peer e = absurd cc

  pub by_weight-among : (ps : List (P × Averages)) (n : ℕ) (peer : P) → by_weight ps n ≡ Some peer → IsOneOf peer ps
  by_weight-among ps n peer e = within-among ps (nat_lt n (sum (weights ps))) (choice.chosen (weights ps) n) peer e
