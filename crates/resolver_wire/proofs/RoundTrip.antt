-- What is read is spelled so, and what is spelled so is read, whatever follows.
use Rattle.std.proofs.Common.{◌≡◌, ℕ, zero, suc, ◌+◌, ◌^◌, ◌<◌, ◌≤◌, max, Bool, true, false, cond, eqb, ltb, List, [], ◌∷◌, ◌++◌, length, take, drop, Option, Some, None, Result, Ok, Err, refl, sym, ap, subst, ◌∙◌, append_assoc, ◌⊎◌, inl, inr, arith}
use Rattle.std.specs.Prelude.{IsSomeAnd, IfOk, IfErr}
use Rattle.std.specs.Int.{w64, to_be_bytes, from_be_bytes}
use Rattle.std.proofs.lemmas.Bool.{cases_lt, ltb-false, le-ltb, eqb-true}
use Rattle.std.proofs.lemmas.List.{append-nil, nil_from_length, take_at, drop_at, take-append-drop, length-append, length-take, length-take-le, get_or-drop, get_or-take, get_or_past}
use Rattle.std.specs.Cmp.{IsEquivalence}
use Rattle.std.proofs.lemmas.Nat.{be_bytes_8, from_be_bytes-to_be_bytes_8}
use Rattle.resolver_base.specs.declared.fault.Fault.{Fault}
use Rattle.resolver_base.specs.declared.fault.Fault.TheVariants as faults
use Rattle.resolver_wire.specs.declared.wire.Message.{Message}
use Rattle.resolver_wire.specs.declared.wire.Payload.{Payload}
use Rattle.resolver_wire.specs.declared.wire.Payload.TheVariants.{Request, Response, Error}
use Rattle.resolver_wire.specs.Spelling.{IsVarint, varint, IsShort, IsSendable, value_of, SpellsPayload, Spells, lead, spelling, EachHasOneSpelling, Covers}
use Rattle.resolver_wire.specs.Reading.{◌>>=◌, AreBytes, bytes_at, id_at, varint_at, key_from, payload_at, message_at, whole_message, SamePayload, IsSame, CutsValue, TakesSpelling, ReadsFront, ReadsSpelling, NoneBeginsAnother}
use Rattle.resolver_wire.proofs.Varints.{varint_short, bind_ok, guard_ok, guard_held, ok_is, varint_is, varint_only, varint_again, varint_took, Took, AreBytes-rest}

abbrev a_message : {K : Type 0} → Message K × List ℕ → Result (Message K × List ℕ) Fault
a_message read = Ok read

bind_is : {A B : Type 0} (r : Result A Fault) (f : A → Result B Fault) (x : A) → r ≡ Ok x → (r >>= f) ≡ f x
bind_is r f x e = rw e refl

Took-then : (a x b y c : List ℕ) → Took a x b → Took b y c → Took a (x ++ y) c
Took-then a x b y c p q = record { parts = p.parts ∙ ap (λ (t : List ℕ). x ++ t) q.parts ∙ sym (append_assoc x y c); octets = q.octets }

Took-is : (bytes front other rest end : List ℕ) → front ≡ other → rest ≡ end → Took bytes front rest → Took bytes other end
Took-is bytes front other rest end same left took = rw (← same, ← left) took

AreBytes-drop : (n : ℕ) (bytes : List ℕ) → AreBytes bytes → AreBytes (drop n bytes)
AreBytes-drop n bytes h i = rw get_or-drop (h (n + i))

AreBytes-take : (n : ℕ) (bytes : List ℕ) → AreBytes bytes → AreBytes (take n bytes)
AreBytes-take n bytes h i =
    elim (cases_lt i n) [
      | inl lt ↦ rw (get_or-take n bytes i 0 lt) (h i)
      | inr le ↦ rw (get_or_past (take n bytes) i 0 (omega (arith, length-take n bytes))) (omega arith)
    ]

-- ---- some bytes

bytes_again : (n : ℕ) (front rest : List ℕ) → length front ≡ n → bytes_at n (front ++ rest) ≡ Ok (front, rest)
unfolding bytes_at
bytes_again n front rest len =
    let long : ltb (length (front ++ rest)) n ≡ false = le-ltb _ _ (omega (arith, length-append front rest)) in
    rw (long, take_at front rest n len, drop_at front rest n len) refl

bytes_took : (n : ℕ) (bytes front rest : List ℕ) → AreBytes bytes → bytes_at n bytes ≡ Ok (front, rest) → Took bytes front rest × (length front ≡ n) × AreBytes front
unfolding bytes_at
bytes_took n bytes front rest octets e =
    let g = guard_ok (ltb (length bytes) n) faults.EndOfBuffer (take n bytes, drop n bytes) (front, rest) e in
    let long = ltb-false _ _ g.0 in
    let is_front : take n bytes ≡ front = ap (λ (p : List ℕ × List ℕ). p.0) g.1 in
    let is_rest : drop n bytes ≡ rest = ap (λ (p : List ℕ × List ℕ). p.1) g.1 in (
      record { parts = rw (← is_front, ← is_rest) (sym (take-append-drop n bytes)); octets = rw (← is_rest) (AreBytes-drop n bytes octets) },
      rw (← is_front) (length-take-le n bytes long),
      rw (← is_front) (AreBytes-take n bytes octets),
    )

-- ---- the id

id_again : (id : ℕ) (rest : List ℕ) → id < 2 ^ 64 → id_at (to_be_bytes w64 id ++ rest) ≡ Ok (id, rest)
unfolding id_at
id_again id rest small =
    bind_is (bytes_at 8 (to_be_bytes w64 id ++ rest)) (λ id. Ok (from_be_bytes w64 id.0, id.1)) (to_be_bytes w64 id, rest) (bytes_again 8 (to_be_bytes w64 id) rest refl)
    ∙ ap (λ (n : ℕ). Ok (n, rest)) (from_be_bytes-to_be_bytes_8 id small)

id_below : (bytes : List ℕ) → AreBytes bytes → from_be_bytes w64 bytes < 2 ^ 64
id_below bytes octets = omega (arith, octets 0, octets 1, octets 2, octets 3, octets 4, octets 5, octets 6, octets 7)

id_took : (bytes : List ℕ) (id : ℕ) (rest : List ℕ) → AreBytes bytes → id_at bytes ≡ Ok (id, rest) → Took bytes (to_be_bytes w64 id) rest × (id < 2 ^ 64)
unfolding id_at
id_took bytes id rest octets e =
    let b = bind_ok (bytes_at 8 bytes) (λ id. Ok (from_be_bytes w64 id.0, id.1)) (id, rest) e in
    let took = bytes_took 8 bytes b.0.0 b.0.1 octets b.1 in
    let is = ok_is (from_be_bytes w64 b.0.0, b.0.1) (id, rest) b.2 in
    let is_id : from_be_bytes w64 b.0.0 ≡ id = ap (λ (p : ℕ × List ℕ). p.0) is in
    let is_rest : b.0.1 ≡ rest = ap (λ (p : ℕ × List ℕ). p.1) is in
    let same : to_be_bytes w64 id ≡ b.0.0 = be_bytes_8 b.0.0 id took.1 took.2 (sym is_id) in
    (Took-is bytes b.0.0 (to_be_bytes w64 id) b.0.1 rest (sym same) is_rest took.0, subst (λ (n : ℕ). n < 2 ^ 64) is_id (id_below b.0.0 took.2))

-- ---- the payload

-- what a codec of keys keeps
pub record IsCodec {K : Type 0} (size : ℕ) (bytes_of : K → List ℕ) (read_from : List ℕ → Option K) (eq : K → K → Bool) : Type 0 where
  pub sized : (key : K) → length (bytes_of key) ≡ size
  pub again : (key : K) → IsSomeAnd (read_from (bytes_of key)) (λ same. eq key same ≡ true)
  pub own : (bytes : List ℕ) (key : K) → read_from bytes ≡ Some key → bytes_of key ≡ bytes

some_is : {K : Type 0} (o : Option K) (P : K → Type 0) → IsSomeAnd o P → (x : K) × (o ≡ Some x) × P x
some_is None P h = absurd h
some_is (Some x) P h = (x, refl, h)

module _ {K : Type 0} (size : ℕ) (bytes_of : K → List ℕ) (read_from : List ℕ → Option K) (eq : K → K → Bool) (codec : IsCodec size bytes_of read_from eq) where
  request_again : (key same : K) (bytes rest : List ℕ) → bytes ≡ 0 ∷ bytes_of key → read_from (bytes_of key) ≡ Some same → payload_at size read_from (bytes ++ rest) ≡ Ok (Request same, rest)
  unfolding payload_at
  request_again key same bytes rest spelled read = rw (spelled, bytes_again size (bytes_of key) rest (codec.sized key), read) refl

  payload_again : (payload : Payload K) (bytes rest : List ℕ) → IsShort payload → SpellsPayload bytes_of payload bytes
      → (other : Payload K) × (payload_at size read_from (bytes ++ rest) ≡ Ok (other, rest)) × SamePayload eq payload other
  unfolding payload_at
  payload_again (Request key) bytes rest short spelled =
      let same = some_is (read_from (bytes_of key)) (λ same. eq key same ≡ true) (codec.again key) in
      (Request same.0, request_again key same.0 bytes rest spelled same.1, same.2)
  payload_again (Response value) bytes rest short spelled =
      let len = spelled.0 in
      let grouped : bytes ++ rest ≡ 1 ∷ (len ++ (value ++ rest)) = ap (λ (xs : List ℕ). xs ++ rest) spelled.2 ∙ ap (λ (xs : List ℕ). 1 ∷ xs) (append_assoc len value rest) in
      (Response value, rw (grouped, varint_again 4 (length value) len (value ++ rest) short spelled.1, bytes_again (length value) value rest refl) refl, refl)
  payload_again Error bytes rest short spelled = (Error, rw spelled refl, tt)

  pub message_again : (m : Message K) (bytes rest : List ℕ) → IsSendable m → Spells bytes_of m bytes
      → (other : Message K) × (message_at size read_from (bytes ++ rest) ≡ Ok (other, rest)) × IsSame eq m other
  unfolding message_at
  message_again m bytes rest sendable spelled =
      let p = payload_again m.payload spelled.0 rest sendable.short spelled.1 in
      let grouped : bytes ++ rest ≡ to_be_bytes w64 m.id ++ (spelled.0 ++ rest) = ap (λ (xs : List ℕ). xs ++ rest) spelled.2 ∙ append_assoc (to_be_bytes w64 m.id) spelled.0 rest in (
        record { id = m.id; payload = p.0 },
        ap (message_at size read_from) grouped
            ∙ bind_is (id_at (to_be_bytes w64 m.id ++ (spelled.0 ++ rest))) (λ id. payload_at size read_from id.1 >>= λ payload. Ok (record { id = id.0; payload = payload.0 }, payload.1)) (m.id, spelled.0 ++ rest) (id_again m.id (spelled.0 ++ rest) sendable.id)
            ∙ bind_is (payload_at size read_from (spelled.0 ++ rest)) (λ payload. Ok (record { id = m.id; payload = payload.0 }, payload.1)) (p.0, rest) p.1,
        record { id = refl; payload = p.2 },
      )

  key_took : (o : Option K) (key : K) → key_from size read_from o ≡ Ok key → o ≡ Some key
  key_took None key e = absurd cc
  key_took (Some other) key e = ap (λ (k : K). Some k) (ok_is other key e)

  -- a payload that was read
  PayloadTook : List ℕ → Payload K → List ℕ → Type 0
  PayloadTook bytes payload rest = (front : List ℕ) × SpellsPayload bytes_of payload front × Took bytes front rest × IsShort payload

  payload_took : (bytes : List ℕ) (payload : Payload K) (rest : List ℕ) → AreBytes bytes → payload_at size read_from bytes ≡ Ok (payload, rest) → PayloadTook bytes payload rest
  unfolding payload_at PayloadTook
  payload_took [] payload rest octets e = absurd cc
  payload_took (zero ∷ bytes) payload rest octets e =
      let a = bind_ok (bytes_at size bytes) (λ name. key_from size read_from (read_from name.0) >>= λ key. Ok (Request key, name.1)) (payload, rest) e in
      let b = bind_ok (key_from size read_from (read_from a.0.0)) (λ key. Ok (Request key, a.0.1)) (payload, rest) a.2 in
      let took = bytes_took size bytes a.0.0 a.0.1 (AreBytes-rest 0 bytes octets) a.1 in
      let own = codec.own a.0.0 b.0 (key_took (read_from a.0.0) b.0 b.1) in
      let made : Payload K × List ℕ = (Request b.0, a.0.1) in
      let whole : PayloadTook (0 ∷ bytes) made.0 made.1 = (0 ∷ a.0.0, ap (λ (xs : List ℕ). 0 ∷ xs) (sym own), record { parts = ap (λ (xs : List ℕ). 0 ∷ xs) took.0.parts; octets = took.0.octets }, tt) in
      subst (λ (p : Payload K × List ℕ). PayloadTook (0 ∷ bytes) p.0 p.1) (ok_is made (payload, rest) b.2) whole
  payload_took (suc zero ∷ bytes) payload rest octets e =
      let a = bind_ok (varint_at 4 bytes) (λ len. bytes_at len.0 len.1 >>= λ value. Ok (Response value.0, value.1)) (payload, rest) e in
      let b = bind_ok (bytes_at a.0.0 a.0.1) (λ value. Ok (Response value.0, value.1)) (payload, rest) a.2 in
      let len = varint_took 4 bytes a.0.0 a.0.1 (AreBytes-rest 1 bytes octets) a.1 in
      let took = bytes_took a.0.0 a.0.1 b.0.0 b.0.1 len.2.octets b.1 in
      let both = Took-then bytes len.0 a.0.1 b.0.0 b.0.1 len.2 took.0 in
      let made : Payload K × List ℕ = (Response b.0.0, b.0.1) in
      let whole : PayloadTook (1 ∷ bytes) made.0 made.1 =
      (1 ∷ len.0 ++ b.0.0, (len.0, subst (IsVarint len.0) (sym took.1) len.1, refl), record { parts = ap (λ (xs : List ℕ). 1 ∷ xs) both.parts; octets = both.octets }, omega (arith, len.3, took.1)) in
      subst (λ (p : Payload K × List ℕ). PayloadTook (1 ∷ bytes) p.0 p.1) (ok_is made (payload, rest) b.2) whole
  payload_took (suc (suc zero) ∷ bytes) payload rest octets e =
      let made : Payload K × List ℕ = (Error, bytes) in
      let whole : PayloadTook (2 ∷ bytes) made.0 made.1 = (2 ∷ [], refl, record { parts = refl; octets = AreBytes-rest 2 bytes octets }, tt) in
      subst (λ (p : Payload K × List ℕ). PayloadTook (2 ∷ bytes) p.0 p.1) (ok_is made (payload, rest) e) whole
  payload_took (suc (suc (suc tag)) ∷ bytes) payload rest octets e = absurd cc

  pub message_took : (bytes : List ℕ) (m : Message K) (rest : List ℕ) → AreBytes bytes → message_at size read_from bytes ≡ Ok (m, rest) → IsSendable m × ((front : List ℕ) × Spells bytes_of m front × (bytes ≡ front ++ rest))
  unfolding message_at PayloadTook
  message_took bytes m rest octets e =
      let a = bind_ok (id_at bytes) (λ id. payload_at size read_from id.1 >>= λ payload. Ok (record { id = id.0; payload = payload.0 }, payload.1)) (m, rest) e in
      let b = bind_ok (payload_at size read_from a.0.1) (λ payload. Ok (record { id = a.0.0; payload = payload.0 }, payload.1)) (m, rest) a.2 in
      let id = id_took bytes a.0.0 a.0.1 octets a.1 in
      let body = payload_took a.0.1 b.0.0 b.0.1 id.0.octets b.1 in
      let both = Took-then bytes (to_be_bytes w64 a.0.0) a.0.1 body.0 b.0.1 id.0 body.2 in
      let made : Message K × List ℕ = (record { id = a.0.0; payload = b.0.0 }, b.0.1) in
      subst (λ (p : Message K × List ℕ). IsSendable p.0 × ((front : List ℕ) × Spells bytes_of p.0 front × (bytes ≡ front ++ p.1))) (ok_is made (m, rest) b.2)
      (record { id = id.1; short = body.3 }, (to_be_bytes w64 a.0.0 ++ body.0, (body.0, body.1, refl), both.parts))

  -- what the calls say of their results
  pub found_front : (r : Result (Message K) Fault) (old new : List ℕ) → AreBytes old → IfOk r (λ m. message_at size read_from old ≡ Ok (m, new)) → IfOk r (λ m. TakesSpelling bytes_of m old new)
  found_front (Ok m) old new octets read = message_took old m new octets read
  found_front (Err fault) old new octets read = tt

  pub again_front : (r : Result (Message K) Fault) (old new : List ℕ) → IfOk r (λ m. message_at size read_from old ≡ Ok (m, new))
      → IfErr r (λ fault. (message_at size read_from old ≡ Err fault) ⊎ ((fault ≡ faults.OutOfMemory) × CutsValue (message_at size read_from old)))
      → ReadsFront bytes_of eq old r new
  again_front (Ok n) old new read refused m front rest sendable spelled begins =
      let again = message_again m front rest sendable spelled in
      let same = ok_is (again.0, rest) (n, new) (sym again.1 ∙ ap (message_at size read_from) (sym begins) ∙ read) in
      (subst (IsSame eq m) (ap (λ (p : Message K × List ℕ). p.0) same) again.2, sym (ap (λ (p : Message K × List ℕ). p.1) same))
  again_front (Err fault) old new read refused m front rest sendable spelled begins =
      let again = message_again m front rest sendable spelled in
      elim refused [
        | inl e ↦ absurd (no_message (sym again.1 ∙ ap (message_at size read_from) (sym begins) ∙ e))
        | inr h ↦ h.0
      ]
    where
      no_message : {x : Message K × List ℕ} {fault : Fault} → a_message x ≡ Err fault → ⊥
      no_message e = cc

  pub found_whole : (r : Result (Message K) Fault) (bytes : List ℕ) → AreBytes bytes → r ≡ whole_message size read_from bytes → IfOk r (λ m. TakesSpelling bytes_of m bytes [])
  unfolding whole_message
  found_whole (Ok m) bytes octets exact =
      let a = bind_ok (message_at size read_from bytes) (λ read. cond (eqb (length read.1) 0) (Ok read.0) (Err faults.ExtraData)) m (sym exact) in
      let g = guard_held (eqb (length a.0.1) 0) faults.ExtraData a.0.0 m a.2 in
      let nothing : a.0.1 ≡ [] = nil_from_length a.0.1 (eqb-true _ _ g.0) in
      subst (λ (p : Message K). TakesSpelling bytes_of p bytes []) g.1 (subst (TakesSpelling bytes_of a.0.0 bytes) nothing (message_took bytes a.0.0 a.0.1 octets a.1))
  found_whole (Err fault) bytes octets exact = tt

  pub again_whole : (r : Result (Message K) Fault) (bytes : List ℕ) → r ≡ whole_message size read_from bytes → ReadsSpelling bytes_of eq bytes r
  unfolding whole_message
  again_whole r bytes exact m sendable spelled =
      let again = message_again m bytes [] sendable spelled in
      let read : message_at size read_from bytes ≡ Ok (again.0, []) = ap (message_at size read_from) (sym (append-nil bytes)) ∙ again.1 in
      let whole : r ≡ Ok again.0 = exact ∙ bind_is (message_at size read_from bytes) (λ read. cond (eqb (length read.1) 0) (Ok read.0) (Err faults.ExtraData)) (again.0, []) read in
      rw whole again.2

-- ---- the one spelling

module _ {K : Type 0} (bytes_of : K → List ℕ) where
  payload_spelled : (payload : Payload K) → IsShort payload → SpellsPayload bytes_of payload (lead bytes_of payload ++ value_of payload)
  payload_spelled (Request key) short = append-nil (0 ∷ bytes_of key)
  payload_spelled (Response value) short = (varint (length value), varint_is 4 (length value) short, refl)
  payload_spelled Error short = refl

  payload_only : (payload : Payload K) (bytes : List ℕ) → IsShort payload → SpellsPayload bytes_of payload bytes → bytes ≡ lead bytes_of payload ++ value_of payload
  payload_only (Request key) bytes short spelled = spelled ∙ sym (append-nil (0 ∷ bytes_of key))
  payload_only (Response value) bytes short spelled = spelled.2 ∙ ap (λ (len : List ℕ). 1 ∷ len ++ value) (varint_only 4 (length value) spelled.0 short spelled.1)
  payload_only Error bytes short spelled = spelled

  pub spelling_spells : (m : Message K) → IsSendable m → Spells bytes_of m (spelling bytes_of m)
  spelling_spells m sendable =
      (lead bytes_of m.payload ++ value_of m.payload, payload_spelled m.payload sendable.short, append_assoc (to_be_bytes w64 m.id) (lead bytes_of m.payload) (value_of m.payload))

  pub spelling_only : (m : Message K) (bytes : List ℕ) → IsSendable m → Spells bytes_of m bytes → bytes ≡ spelling bytes_of m
  spelling_only m bytes sendable spelled =
      spelled.2 ∙ ap (λ (xs : List ℕ). to_be_bytes w64 m.id ++ xs) (payload_only m.payload spelled.0 sendable.short spelled.1)
      ∙ sym (append_assoc (to_be_bytes w64 m.id) (lead bytes_of m.payload) (value_of m.payload))

  pub one_spelling : EachHasOneSpelling bytes_of
  one_spelling m bytes sendable = (spelling_only m bytes sendable, λ e. rw e (spelling_spells m sendable))

  lead_short : (size : ℕ) → ((key : K) → length (bytes_of key) ≡ size) → (payload : Payload K) → 8 + length (lead bytes_of payload) + length (value_of payload) ≤ max (size + 9) (length (value_of payload) + 14)
  lead_short size sized (Request key) = omega (arith, sized key)
  lead_short size sized (Response value) = omega (arith, varint_short 4 (length value))
  lead_short size sized Error = omega arith

  pub covers : (size value : ℕ) → ((key : K) → length (bytes_of key) ≡ size) → Covers bytes_of value (max (size + 9) (value + 14))
  covers size value sized m most = omega (arith, lead_short size sized m.payload, length-append (lead bytes_of m.payload) (value_of m.payload))

-- ---- two spellings in front of the same bytes

module _ {K : Type 0} (size : ℕ) (bytes_of : K → List ℕ) (read_from : List ℕ → Option K) (eq : K → K → Bool) (codec : IsCodec size bytes_of read_from eq) (equal : IsEquivalence eq) where
  same_payload : (p q r : Payload K) → SamePayload eq p r → SamePayload eq q r → SamePayload eq p q
  same_payload (Request k) (Request l) (Request m) a b = equal.congr k m l a ∙ equal.symm m l ∙ b
  same_payload (Request k) (Response w) (Request m) a b = absurd b
  same_payload (Request k) Error (Request m) a b = absurd b
  same_payload (Response v) (Request l) (Response x) a b = absurd b
  same_payload (Response v) (Response w) (Response x) a b = a ∙ sym b
  same_payload (Response v) Error (Response x) a b = absurd b
  same_payload Error (Request l) Error a b = absurd b
  same_payload Error (Response w) Error a b = absurd b
  same_payload Error Error Error a b = tt
  same_payload (Request k) q (Response x) a b = absurd a
  same_payload (Request k) q Error a b = absurd a
  same_payload (Response v) q (Request m) a b = absurd a
  same_payload (Response v) q Error a b = absurd a
  same_payload Error q (Request m) a b = absurd a
  same_payload Error q (Response x) a b = absurd a

  pub none_begins : NoneBeginsAnother bytes_of eq
  none_begins m n front other rest end sends_m sends_n spells_m spells_n alike =
      let a = message_again size bytes_of read_from eq codec m front rest sends_m spells_m in
      let b = message_again size bytes_of read_from eq codec n other end sends_n spells_n in
      let same = ok_is (a.0, rest) (b.0, end) (sym a.1 ∙ ap (message_at size read_from) alike ∙ b.1) in
      let ends : rest ≡ end = ap (λ (p : Message K × List ℕ). p.1) same in
      let reads : IsSame eq m b.0 = subst (IsSame eq m) (ap (λ (p : Message K × List ℕ). p.0) same) a.2 in
      let long : length front ≡ length other = omega (arith, ap length alike, ap length ends, length-append front rest, length-append other end) in (
        sym (take_at front rest (length front) refl) ∙ ap (take (length front)) alike ∙ take_at other end (length front) (sym long),
        ends,
        record { id = reads.id ∙ sym b.2.id; payload = same_payload m.payload n.payload b.0.payload reads.payload b.2.payload },
      )
