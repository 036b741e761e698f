-- Whether a test keeps one of some subscribers.
use Rattle.std.proofs.Common.{◌≡◌, ◌<◌, ◌∙◌, true, Bool, ℕ, List, [], ◌∷◌, length, filter, nat_lt, arith, rules}
use Rattle.std.proofs.lemmas.Grind.{common_steps}
use Rattle.std.specs.List.{list_any}
use Rattle.resolver_types.specs.Subscribers.{keeps_any, all_kept}

-- a test finds an item exactly where the filter has one
list_any-filter : {X : Type 0} (p : X → Bool) (xs : List X) → nat_lt 0 (length (filter p xs)) ≡ list_any p xs
list_any-filter p [] = search rules
list_any-filter p (x ∷ xs) = let rest = list_any-filter p xs in grind (arith, common_steps, rest)

module _ {S : Type 0} (keep : S → Bool) (ss : List (S × ℕ)) where
  pub keeps_any-left : nat_lt 0 (length (all_kept keep ss)) ≡ keeps_any keep ss
  keeps_any-left = list_any-filter (λ s. keep s.0) ss

  -- where one is kept, some are left
  pub some-left : keeps_any keep ss ≡ true → 0 < length (all_kept keep ss)
  some-left any = let is : nat_lt 0 (length (all_kept keep ss)) ≡ true = keeps_any-left ∙ any in grind (arith, common_steps, is)
