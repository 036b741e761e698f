-- A key's four bytes.
use Rattle.std.specs.Prelude.{◌≡◌, ℕ, List, [], ◌∷◌, Option, None, Some}
use Rattle.tests_support.specs.declared.wide.Name.{Name}

abbrev pub bytes_of : Name → List ℕ
bytes_of name = name.first ∷ name.second ∷ name.third ∷ name.fourth ∷ []

abbrev pub read_from : List ℕ → Option Name
read_from (a ∷ b ∷ c ∷ d ∷ []) = Some (record { first = a; second = b; third = c; fourth = d })
read_from bytes = None

name_is : (a b : Name) → Some a ≡ Some b → a ≡ b
name_is a b e = cc

pub own_bytes : (bytes : List ℕ) (name : Name) → read_from bytes ≡ Some name → bytes_of name ≡ bytes
own_bytes (a ∷ b ∷ c ∷ d ∷ []) name e = cc
own_bytes [] name e = absurd cc
own_bytes (a ∷ []) name e = absurd cc
own_bytes (a ∷ b ∷ []) name e = absurd cc
own_bytes (a ∷ b ∷ c ∷ []) name e = absurd cc
own_bytes (a ∷ b ∷ c ∷ d ∷ e' ∷ bytes) name e = absurd cc
