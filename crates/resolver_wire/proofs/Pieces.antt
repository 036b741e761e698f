-- The pieces of a message.
use Rattle.std.proofs.Common.{◌≡◌, ℕ, ◌<◌, List, [], ◌∷◌, length, refl, arith}
use Rattle.resolver_wire.specs.Spelling.{value_piece}

pub no_piece : (value : List ℕ) → length value ≡ 0 → value_piece value ≡ []
no_piece [] none = refl
no_piece (b ∷ bytes) none = absurd (omega arith)

pub one_piece : (value : List ℕ) → 0 < length value → value_piece value ≡ value ∷ []
one_piece [] some = absurd (omega arith)
one_piece (b ∷ bytes) some = refl
