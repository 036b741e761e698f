-- Lists that grow by a last element.
use Rattle.std.proofs.Common.{◌≡◌, refl, ap, ◌∙◌, Bool, true, false, ◌||◌, List, [], ◌∷◌, ◌++◌}
use Rattle.std.specs.List.{list_any}
use Rattle.std.proofs.lemmas.List.Folds.{list_any-append}

module _ {X : Type 0} (p : X → Bool) where
  or-false : (b : Bool) → (b || false) ≡ b
  or-false true = refl
  or-false false = refl

  -- where no element passes the test, it is the last that decides
  pub last-decides : (xs : List X) (x : X) (b : Bool) → list_any p xs ≡ false → p x ≡ b → list_any p (xs ++ x ∷ []) ≡ b
  last-decides xs x b none is = list_any-append p xs (x ∷ []) ∙ ap (λ fore. fore || (p x || false)) none ∙ or-false (p x) ∙ is
