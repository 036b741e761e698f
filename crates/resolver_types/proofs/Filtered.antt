-- What a filter leaves.
use Rattle.std.proofs.Common.{◌≡◌, Bool, List, [], ◌∷◌, length, filter, nat_lt, arith, rules}
use Rattle.std.proofs.lemmas.Grind.{common_steps}
use Rattle.std.specs.List.{list_any}

-- a test finds an item exactly where the filter has one
pub list_any-filter : {X : Type 0} (p : X → Bool) (xs : List X) → nat_lt 0 (length (filter p xs)) ≡ list_any p xs
list_any-filter p [] = search rules
list_any-filter p (x ∷ xs) = let rest = list_any-filter p xs in grind (arith, common_steps, rest)
