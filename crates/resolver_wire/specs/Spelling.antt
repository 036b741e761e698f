-- How a message is spelled: its id, a tag, and what the tag asks for.
use Rattle.std.specs.Prelude.{◌≡◌, ◌↔◌, ℕ, zero, suc, ◌+◌, ◌*◌, ◌/◌, ◌%◌, ◌^◌, ◌<◌, ◌≤◌, ⊤, List, [], ◌∷◌, ◌++◌, length, nat_lt, if◌then◌else◌}
use Rattle.std.specs.Int.{w64, to_be_bytes}
use Rattle.resolver_wire.specs.declared.wire.Message.{Message}
use Rattle.resolver_wire.specs.declared.wire.Payload.{Payload}
use Rattle.resolver_wire.specs.declared.wire.Payload.TheVariants.{Request, Response, Error}

-- The shortest spelling of a length, low group first. A byte below 128 is the last and stands for
-- itself. One from 128 on has the low seven bits; those after it stand for the rest, which isn't 0.
abbrev pub IsVarint : List ℕ → ℕ → Type 0
IsVarint [] n = ⊥
IsVarint (b ∷ []) n = (b < 128) × (n ≡ b)
IsVarint (b ∷ c ∷ bytes) n =
    (128 ≤ b) × (b < 256) × ((rest : ℕ) × (0 < rest) × (n + 128 ≡ b + 128 * rest) × IsVarint (c ∷ bytes) rest)

-- the same as a function, for a length that takes at most k more bytes than one
unfoldable pub varint_in : ℕ → ℕ → List ℕ
varint_in zero n = n ∷ []
varint_in (suc k) n = if nat_lt n 128 then n ∷ [] else (n % 128 + 128) ∷ varint_in k (n / 128)

abbrev pub varint : ℕ → List ℕ
varint n = varint_in 4 n

-- a response on the wire has at most `u32::MAX` bytes
abbrev pub IsShort : {K : Type 0} → Payload K → Type 0
IsShort (Request key) = ⊤
IsShort (Response value) = length value < 2 ^ 32
IsShort Error = ⊤

-- what has a spelling
pub record IsSendable {K : Type 0} (m : Message K) : Type 0 where
  pub id : m.id < 2 ^ 64
  pub short : IsShort m.payload

-- the value that a message carries
abbrev pub value_of : {K : Type 0} → Payload K → List ℕ
value_of (Request key) = []
value_of (Response value) = value
value_of Error = []

-- a value that isn't empty is a piece of its own
abbrev pub value_piece : List ℕ → List (List ℕ)
value_piece [] = []
value_piece (b ∷ bytes) = (b ∷ bytes) ∷ []

module _ {K : Type 0} (bytes_of : K → List ℕ) where
  -- the spelling, by three cases
  abbrev pub SpellsPayload : Payload K → List ℕ → Type 0
  SpellsPayload (Request key) bytes = bytes ≡ 0 ∷ bytes_of key
  SpellsPayload (Response value) bytes = (len : List ℕ) × IsVarint len (length value) × (bytes ≡ 1 ∷ len ++ value)
  SpellsPayload Error bytes = bytes ≡ 2 ∷ []

  abbrev pub Spells : Message K → List ℕ → Type 0
  Spells m bytes = (rest : List ℕ) × SpellsPayload m.payload rest × (bytes ≡ to_be_bytes w64 m.id ++ rest)

  -- what stands before the value
  abbrev pub lead : Payload K → List ℕ
  lead (Request key) = 0 ∷ bytes_of key
  lead (Response value) = 1 ∷ varint (length value)
  lead Error = 2 ∷ []

  abbrev pub inline : Message K → List ℕ
  inline m = to_be_bytes w64 m.id ++ lead m.payload

  -- the one spelling
  abbrev pub spelling : Message K → List ℕ
  spelling m = inline m ++ value_of m.payload

  abbrev pub pieces : Message K → List (List ℕ)
  pieces m = inline m ∷ value_piece (value_of m.payload)

module _ {K : Type 0} (bytes_of : K → List ℕ) where
  -- each message has one spelling
  abbrev pub EachHasOneSpelling : Type 0
  EachHasOneSpelling =
      (m : Message K) (bytes : List ℕ) → IsSendable m → Spells bytes_of m bytes ↔ (bytes ≡ spelling bytes_of m)

  -- no message with a value of at most this many bytes is longer
  abbrev pub Covers : ℕ → ℕ → Type 0
  Covers value longest =
      (m : Message K) → length (value_of m.payload) ≤ value → length (spelling bytes_of m) ≤ longest

-- how long a message with this payload is
abbrev pub HasLength : {K : Type 0} → ℕ → Payload K → ℕ → Type 0
HasLength size (Request key) n = n ≡ size + 9
HasLength size (Response value) n = n ≤ length value + 14
HasLength size Error n = n ≡ 9

-- how long it is up to its value
abbrev pub HasInlineLength : {K : Type 0} → ℕ → Payload K → ℕ → Type 0
HasInlineLength size (Request key) n = n ≡ size + 9
HasInlineLength size (Response value) n = n ≤ 14
HasInlineLength size Error n = n ≡ 9
