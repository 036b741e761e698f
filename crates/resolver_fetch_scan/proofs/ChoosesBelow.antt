-- A number chooses a peer exactly where it is below the asked bound.
use Rattle.std.proofs.Common.{◌≡◌, refl, ◌∙◌, sym, ℕ, zero, suc, ◌<◌, Bool, true, false, List, [], ◌∷◌, length, Option, None, Some, is_some, if◌then◌else◌, arith}
use Rattle.std.specs.Prelude.{nat_lt, option_map, sum}
use Rattle.std.specs.List.{slice_get}
use Rattle.std.proofs.lemmas.Bool.{lt-ltb, le-ltb, ltb-true}
use Rattle.std.proofs.lemmas.List.{length-map}
use Rattle.resolver_sampling.specs.declared.score.Averages.{Averages}
use Rattle.resolver_sampling.specs.Scores.{weight_of}
use Rattle.resolver_sampling.specs.Choice.{chosen}
use Rattle.resolver_fetch_scan.specs.Scan.{weights, by_place}
use Rattle.resolver_fetch_scan.specs.FetcherLaws.{ChoosesBelow}
use Rattle.resolver_sampling.proofs.Choices.{chosen-within}

-- a look-up by place finds something exactly below the length
some-below : {X : Type 0} (xs : List X) (n : ℕ) → is_some (slice_get xs n) ≡ nat_lt n (length xs)
some-below [] n = sym (le-ltb n 0 (omega arith))
some-below (x ∷ xs) zero = sym (lt-ltb 0 (length (x ∷ xs)) (omega arith))
some-below (x ∷ xs) (suc n) = grind (arith, some-below xs n)

some-map : {X Y : Type 0} (f : X → Y) (found : Option X) → is_some (option_map f found) ≡ is_some found
some-map f None = refl
some-map f (Some x) = refl

module _ {P : Type 0} where
  at-place : (ps : List (P × Averages)) (n : ℕ) → is_some (by_place ps n) ≡ nat_lt n (length ps)
  at-place ps n = some-map (λ p. p.0) (slice_get ps n) ∙ some-below ps n

  by-test : (ps : List (P × Averages)) (n : ℕ) (b : Bool) → nat_lt n (sum (weights ps)) ≡ b
      → is_some (if b then by_place ps (chosen (weights ps) n) else None) ≡ b
  by-test ps n true is =
      let same : length (weights ps) ≡ length ps = length-map ps (λ p. weight_of p.1) in
      let within : chosen (weights ps) n < length (weights ps) = chosen-within (weights ps) n (ltb-true n (sum (weights ps)) is) in
      at-place ps (chosen (weights ps) n) ∙ lt-ltb (chosen (weights ps) n) (length ps) (omega (arith, same, within))
  by-test ps n false is = refl

  pub chooses_below : ChoosesBelow P
  chooses_below = record { weighted = λ ps n. by-test ps n (nat_lt n (sum (weights ps))) refl; uniform = at-place }
