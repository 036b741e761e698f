-- Reading a message from the front: the first fault decides.
use Rattle.std.specs.Prelude.{◌≡◌, ℕ, zero, suc, ◌+◌, ◌-◌, ◌*◌, ◌<◌, Bool, true, ⊤, ◌==◌, List, [], ◌∷◌, ◌++◌, length, take, drop, slice_index, Option, Some, None, Result, Ok, Err, MatchResult, IsOkAnd, nat_lt, if◌then◌else◌}
use Rattle.std.specs.Int.{w64, from_be_bytes}
use Rattle.resolver_base.specs.declared.fault.Fault.{Fault}
use Rattle.resolver_base.specs.declared.fault.Fault.TheVariants as faults
use Rattle.resolver_wire.specs.declared.wire.Message.{Message}
use Rattle.resolver_wire.specs.declared.wire.Payload.{Payload}
use Rattle.resolver_wire.specs.declared.wire.Payload.TheVariants.{Request, Response, Error}
use Rattle.resolver_wire.specs.Spelling.{IsSendable, value_of, Spells}

infixl 10 ◌>>=◌
abbrev pub ◌>>=◌ : {A B : Type 0} → Result A Fault → (A → Result B Fault) → Result B Fault
(Ok x) >>= f = f x
(Err e) >>= f = Err e

-- each is a byte
abbrev pub AreBytes : List ℕ → Type 0
AreBytes bytes = (i : ℕ) → slice_index bytes i < 256

-- n bytes, and those after them
unfoldable pub bytes_at : ℕ → List ℕ → Result (List ℕ × List ℕ) Fault
bytes_at n bytes = if nat_lt (length bytes) n then Err faults.EndOfBuffer else Ok (take n bytes, drop n bytes)

-- eight bytes, the high one first
unfoldable pub id_at : List ℕ → Result (ℕ × List ℕ) Fault
id_at bytes = do
  id ← bytes_at 8 bytes
  Ok (from_be_bytes w64 id.0, id.1)

-- a length of at most k more bytes than one, and the bytes after it. The last of five has four bits,
-- and a last byte of 0 behind another is a fault.
unfoldable pub varint_at : ℕ → List ℕ → Result (ℕ × List ℕ) Fault
varint_at k [] = Err faults.EndOfBuffer
varint_at zero (b ∷ bytes) = if nat_lt b 16 then Ok (b, bytes) else Err faults.InvalidVarint
varint_at (suc k) (b ∷ bytes) = if nat_lt b 128 then Ok (b, bytes) else do
  rest ← varint_at k bytes
  if rest.0 == 0 then Err faults.InvalidVarint else Ok (b - 128 + 128 * rest.0, rest.1)

module _ {K : Type 0} (size : ℕ) (read_from : List ℕ → Option K) where
  -- the key's own codec may refuse its bytes
  abbrev pub key_from : Option K → Result K Fault
  key_from None = Err faults.Key
  key_from (Some key) = Ok key

  -- what a tag asks for, and the bytes after it
  unfoldable pub payload_at : List ℕ → Result (Payload K × List ℕ) Fault
  payload_at [] = Err faults.EndOfBuffer
  payload_at (zero ∷ bytes) = do
    name ← bytes_at size bytes
    key ← key_from (read_from name.0)
    Ok (Request key, name.1)
  payload_at (suc zero ∷ bytes) = do
    len ← varint_at 4 bytes
    value ← bytes_at len.0 len.1
    Ok (Response value.0, value.1)
  payload_at (suc (suc zero) ∷ bytes) = Ok (Error, bytes)
  payload_at (suc (suc (suc tag)) ∷ bytes) = Err faults.InvalidTag

  -- a message, and the bytes after it
  unfoldable pub message_at : List ℕ → Result (Message K × List ℕ) Fault
  message_at bytes = do
    id ← id_at bytes
    payload ← payload_at id.1
    Ok (record { id = id.0; payload = payload.0 }, payload.1)

  -- a message, and nothing after it
  unfoldable pub whole_message : List ℕ → Result (Message K) Fault
  whole_message bytes = do
    read ← message_at bytes
    if length read.1 == 0 then Ok read.0 else Err faults.ExtraData

-- a value has to be cut from a longer buffer
abbrev pub CutsValue : {K : Type 0} → Result (Message K × List ℕ) Fault → Type 0
CutsValue (Ok read) = (0 < length (value_of read.0.payload)) × (0 < length read.1)
CutsValue (Err fault) = ⊥

module _ {K : Type 0} (eq : K → K → Bool) where
  -- the same but for the key, which is equal
  abbrev pub SamePayload : Payload K → Payload K → Type 0
  SamePayload (Request key) (Request other) = eq key other ≡ true
  SamePayload (Response value) (Response other) = value ≡ other
  SamePayload Error Error = ⊤
  SamePayload payload other = ⊥

  pub record IsSame (m n : Message K) : Type 0 where
    pub id : m.id ≡ n.id
    pub payload : SamePayload m.payload n.payload

-- the message can be sent, and its spelling was taken from the front
abbrev pub TakesSpelling : {K : Type 0} → (K → List ℕ) → Message K → List ℕ → List ℕ → Type 0
TakesSpelling bytes_of m old new = IsSendable m × ((front : List ℕ) × Spells bytes_of m front × (old ≡ front ++ new))

module _ {K : Type 0} (bytes_of : K → List ℕ) (eq : K → K → Bool) where
  -- what spells a message is read as that message
  abbrev pub ReadsSpelling : List ℕ → Result (Message K) Fault → Type 0
  ReadsSpelling bytes result = (m : Message K) → IsSendable m → Spells bytes_of m bytes → IsOkAnd result (λ n. IsSame eq m n)

  -- so is what begins with its spelling, and the rest is left; memory may be wanting
  abbrev pub ReadsFront : List ℕ → Result (Message K) Fault → List ℕ → Type 0
  ReadsFront old result new =
      (m : Message K) (front rest : List ℕ) → IsSendable m → Spells bytes_of m front → old ≡ front ++ rest
      → MatchResult result (λ n. IsSame eq m n × (new ≡ rest)) (λ fault. fault ≡ faults.OutOfMemory)

  -- what begins with the spellings of two messages begins with one spelling, and they are the same
  abbrev pub NoneBeginsAnother : Type 0
  NoneBeginsAnother =
      (m n : Message K) (front other rest end : List ℕ) → IsSendable m → IsSendable n
      → Spells bytes_of m front → Spells bytes_of n other → front ++ rest ≡ other ++ end
      → (front ≡ other) × (rest ≡ end) × IsSame eq m n
