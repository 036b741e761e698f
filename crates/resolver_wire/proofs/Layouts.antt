-- Where the parts of a message lie.
use Rattle.std.proofs.Common.{◌≡◌, ℕ, suc, ◌+◌, ◌-◌, ◌<◌, ◌≤◌, eqb, false, List, ◌∷◌, length, take, drop, drop-drop, length-drop, Option, Result, Ok, Err, refl, sym, ap, ◌∙◌, arith}
use Rattle.std.proofs.lemmas.Bool.{ne_eqb}
use Rattle.std.proofs.lemmas.List.{drop-take, take_all, length-take-le}
use Rattle.resolver_base.specs.declared.fault.Fault.{Fault}
use Rattle.resolver_base.specs.declared.fault.Fault.TheVariants as faults
use Rattle.resolver_wire.specs.declared.wire.Message.{Message}
use Rattle.resolver_wire.specs.declared.wire.Payload.TheVariants as payloads
use Rattle.resolver_wire.specs.declared.wire.reading.Layout.{Layout}
use Rattle.resolver_wire.specs.declared.wire.reading.Body.{Body}
use Rattle.resolver_wire.specs.declared.wire.reading.Kind.{Kind}
use Rattle.resolver_wire.specs.declared.wire.reading.Kind.TheVariants as kinds
use Rattle.resolver_wire.specs.Spelling.{value_of}
use Rattle.resolver_wire.specs.Reading.{bytes_at, id_at, varint_at, payload_at, message_at, whole_message}
use Rattle.resolver_wire.specs.Layout.{IsRest, value_len, payload_of, payload_in, body_end, message_in, end_of}

-- a message that was read
abbrev pub done : {K : Type 0} → Message K → Result (Message K) Fault
done m = Ok m

module _ {K : Type 0} (size : ℕ) (read_from : List ℕ → Option K) where
  pub response_lies : (bytes rest after held end : List ℕ) (value : ℕ) → bytes ≡ 1 ∷ rest → varint_at 4 rest ≡ Ok (value, after) → IsRest after rest → bytes_at value after ≡ Ok (held, end) → held ≡ take value after → end ≡ drop value after
      → payload_at size read_from bytes ≡ Ok (payloads.Response (take value (drop (length bytes - length after) bytes)), drop (length bytes - length after + value) bytes)
  unfolding payload_at
  response_lies bytes rest after held end value whole len ends there is_held is_end =
      let lead : length bytes - length after ≡ suc (length rest - length after) = omega (arith, ap length whole, ends.fits) in
      let at_value : drop (length bytes - length after) bytes ≡ after = rw (lead, whole) ends.end in
      let at_end : drop (length bytes - length after + value) bytes ≡ drop value after = sym (drop-drop value (length bytes - length after) bytes) ∙ ap (drop value) at_value in
      rw (at_value, at_end, whole, len, there, is_held, is_end) refl

  pub message_lies : (bytes rest : List ℕ) (id : ℕ) (body : Body K) → id_at bytes ≡ Ok (id, rest) → rest ≡ drop 8 bytes → payload_at size read_from rest ≡ Ok (payload_in body rest, drop (body_end body) rest)
      → message_at size read_from bytes ≡ Ok (record { id = id; payload = payload_in body (drop 8 bytes) }, drop (8 + (body_end body)) bytes)
  unfolding message_at
  message_lies bytes rest id body front after there =
      let at_end : drop (body_end body) rest ≡ drop (8 + (body_end body)) bytes = ap (drop (body_end body)) after ∙ drop-drop (body_end body) 8 bytes in
      rw (front, there, at_end) (ap (λ (r : List ℕ). Ok (record { id = id; payload = payload_in body r }, drop (8 + (body_end body)) bytes)) after)

  pub read_is : (bytes rest left : List ℕ) (m n : Message K) → n ≡ m → left ≡ rest → message_at size read_from bytes ≡ Ok (m, rest) → message_at size read_from bytes ≡ Ok (n, left)
  read_is bytes rest left m n same end e = rw (same, end) e

  pub whole_refused : (bytes : List ℕ) (fault : Fault) → message_at size read_from bytes ≡ Err fault → whole_message size read_from bytes ≡ Err fault
  unfolding whole_message
  whole_refused bytes fault e = rw e refl

  pub whole_extra : (bytes rest : List ℕ) (m : Message K) → message_at size read_from bytes ≡ Ok (m, rest) → 0 < length rest → whole_message size read_from bytes ≡ Err faults.ExtraData
  unfolding whole_message
  whole_extra bytes rest m e more = let some : eqb (length rest) 0 ≡ false = ne_eqb _ _ (λ h. omega arith) in rw (e, some) refl

  pub whole_read : (bytes rest : List ℕ) (m : Message K) → message_at size read_from bytes ≡ Ok (m, rest) → length rest ≡ 0 → whole_message size read_from bytes ≡ Ok m
  unfolding whole_message
  whole_read bytes rest m e none = rw (e, none) refl

pub value_at_end : (bytes : List ℕ) (lead count : ℕ) → length bytes ≤ 8 + (lead + count) → take count (drop lead (drop 8 bytes)) ≡ drop (8 + lead) bytes
value_at_end bytes lead count all =
    rw (drop-drop lead 8 bytes) (take_all count (drop (8 + lead) bytes) (omega (arith, length-drop (8 + lead) bytes)))

pub value_cut : (bytes : List ℕ) (lead count : ℕ) → drop (8 + lead) (take (8 + lead + count) bytes) ≡ take count (drop lead (drop 8 bytes))
value_cut bytes lead count = drop-take (8 + lead) count bytes ∙ ap (take count) (sym (drop-drop lead 8 bytes))

has_value : {K : Type 0} (kind : Kind K) (value : List ℕ) → 0 < value_len kind → length value ≡ value_len kind → 0 < length (value_of (payload_of kind value))
has_value (kinds.Request key) value some len = absurd (omega arith)
has_value (kinds.Response count) value some len = omega arith
has_value kinds.Error value some len = absurd (omega arith)

pub cuts_value : {K : Type 0} (layout : Layout K) (bytes : List ℕ) → 0 < value_len layout.body.kind → end_of layout < length bytes
    → (0 < length (value_of (message_in layout bytes).payload)) × (0 < length (drop (end_of layout) bytes))
cuts_value layout bytes some longer =
    let left = length-drop 8 bytes in
    let behind = length-drop layout.body.lead (drop 8 bytes) in
    (has_value layout.body.kind _ some (length-take-le _ _ (omega arith)), omega (arith, length-drop (end_of layout) bytes))
