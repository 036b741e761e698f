-- How what effects carry is spelled.
use Rattle.std.specs.Prelude.{ℕ, Bool, true, false, List, [], ◌∷◌, ◌++◌, length, map}
use Rattle.std.specs.Int.{w64, w128, to_le_bytes}
use Rattle.std.specs.List.{concat}
use Rattle.resolver_types.specs.declared.delivery.Delivery.{Delivery}

-- a number of eight bytes, the low one first
unfoldable pub number : ℕ → List ℕ
number n = to_le_bytes w64 n

-- a number of sixteen
unfoldable pub wide : ℕ → List ℕ
wide n = to_le_bytes w128 n

abbrev pub flag : Bool → List ℕ
flag true = 1 ∷ []
flag false = 0 ∷ []

-- bytes behind their number
abbrev pub value : List ℕ → List ℕ
value bytes = number (length bytes) ++ bytes

-- a subscriber, and its mark
abbrev pub subscriber : ℕ × ℕ → List ℕ
subscriber one = number one.0 ++ number one.1

-- subscribers behind their number
abbrev pub subscribers : List (ℕ × ℕ) → List ℕ
subscribers list = number (length list) ++ concat (map subscriber list)

-- a key, and who wants it
abbrev pub demanded : {K : Type 0} → (K → List ℕ) → K → List (ℕ × ℕ) → List ℕ
demanded bytes_of key list = bytes_of key ++ subscribers list

-- a delivery behind its numbers
abbrev pub handed : {K : Type 0} → (K → List ℕ) → (id response : ℕ) → Delivery K ℕ → List ℕ
handed bytes_of id response delivery = number id ++ number response ++ demanded bytes_of delivery.key delivery.subscribers
