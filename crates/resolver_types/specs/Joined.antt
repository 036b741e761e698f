-- A list that takes the items of another one, without repeats.
use Rattle.std.specs.Prelude.{Bool, List, [], ◌∷◌, ◌++◌, if◌then◌else◌}
use Rattle.std.specs.List.{list_any}

module _ {A : Type 0} (same : A → A → Bool) where
  -- one item more, last; of equal ones the first stays
  abbrev pub joined_one : List A → A → List A
  joined_one items item = if list_any (λ other. same other item) items then items else items ++ item ∷ []

  -- the items of the other list in their order, behind those that are there
  abbrev pub joined : List A → List A → List A
  joined items [] = items
  joined items (item ∷ more) = joined (joined_one items item) more
