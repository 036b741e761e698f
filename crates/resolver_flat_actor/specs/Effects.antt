-- How the actor's effects are spelled: a tag, and what the effect carries.
use Rattle.std.specs.Prelude.{ℕ, List, ◌∷◌, ◌++◌, map}
use Rattle.std.specs.List.{concat}
use Rattle.resolver_model_opaque.specs.declared.effects.Effect.{Effect}
use Rattle.resolver_model_opaque.specs.declared.effects.Effect.TheVariants.{Start, Abort, Deliver, Cancel}
use Rattle.resolver_model_opaque.specs.declared.rows.Row.{Row}
use Rattle.resolver_flat.specs.Spelling.{demanded, handed, number, value}

-- `bytes_of` is a name's bytes
module _ {K : Type 0} (bytes_of : K → List ℕ) where
  abbrev pub spelled : Effect K (List ℕ) ℕ → List ℕ
  spelled (Start attempt key) = 0 ∷ number attempt ++ bytes_of key
  spelled (Abort attempt) = 1 ∷ number attempt
  spelled (Deliver id response delivery bytes) = 2 ∷ handed bytes_of id response delivery ++ value bytes
  spelled (Cancel id) = 3 ∷ number id

  -- one behind the other
  abbrev pub all_spelled : List (Effect K (List ℕ) ℕ) → List ℕ
  all_spelled effects = concat (map spelled effects)

  -- a demanded key, and who wants it
  unfoldable pub row_spelled : Row K ℕ → List ℕ
  row_spelled row = demanded bytes_of row.key row.subscribers

  abbrev pub all_rows : List (Row K ℕ) → List ℕ
  all_rows rows = concat (map row_spelled rows)
