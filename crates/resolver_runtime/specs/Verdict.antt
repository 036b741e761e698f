-- What a consumer for tests says of a value.
use Rattle.std.specs.Prelude.{Bool, true, Option, None, Some}

-- a value is right where none is expected, and where it equals the one that is
abbrev pub is_right : {V : Type 0} → (V → V → Bool) → Option V → V → Bool
is_right eq None value = true
is_right eq (Some expected) value = eq expected value
