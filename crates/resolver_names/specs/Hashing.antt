-- What names feed a hasher: their bytes, by one call.
use Rattle.std.specs.Prelude.{◌≡◌, ℕ, List, [], ◌∷◌, true, nat_eq}
use Rattle.std.proofs.Common.{ap}
use Rattle.std.specs.Cmp.Lexicographic.{pointwise, bytes_decides}

-- equal bytes are fed alike
pub alike : (bytes others : List ℕ) → pointwise nat_eq bytes others ≡ true → (bytes ∷ []) ≡ (others ∷ [])
alike bytes others equal = ap (λ fed. fed ∷ []) ((bytes_decides bytes others).0 equal)
