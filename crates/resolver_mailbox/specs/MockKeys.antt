-- A key of one byte, and that byte.
use Rattle.std.specs.Prelude.{◌≡◌, ℕ, List, [], ◌∷◌, Option, None, Some}
use Rattle.resolver_mailbox.specs.declared.mocks.Key.{Key}

abbrev pub bytes_of : Key → List ℕ
bytes_of key = key.0 ∷ []

abbrev pub read_from : List ℕ → Option Key
read_from (b ∷ []) = Some (record { 0 = b })
read_from bytes = None

-- bytes that are read as a key are the byte that it writes
pub bytes_of-read_from : (bytes : List ℕ) (key : Key) → read_from bytes ≡ Some key → bytes_of key ≡ bytes
bytes_of-read_from [] key is = cc
bytes_of-read_from (b ∷ []) key is = cc
bytes_of-read_from (b ∷ c ∷ bs) key is = cc
