-- A message as it lies in a buffer.
use Rattle.std.specs.Prelude.{◌≡◌, ℕ, ◌+◌, ◌-◌, ◌≤◌, List, length, take, drop, Result, Ok, Err}
use Rattle.resolver_base.specs.declared.fault.Fault.{Fault}
use Rattle.resolver_wire.specs.declared.wire.Message.{Message}
use Rattle.resolver_wire.specs.declared.wire.Payload.{Payload}
use Rattle.resolver_wire.specs.declared.wire.Payload.TheVariants as payloads
use Rattle.resolver_wire.specs.declared.wire.reading.Layout.{Layout}
use Rattle.resolver_wire.specs.declared.wire.reading.Body.{Body}
use Rattle.resolver_wire.specs.declared.wire.reading.Kind.{Kind}
use Rattle.resolver_wire.specs.declared.wire.reading.Kind.TheVariants as kinds

-- what a call returned, seen by view, is what reading gives
abbrev pub Gives : {X Y : Type 0} → (X → Y) → Result X Fault → Result Y Fault → Type 0
Gives view (Ok x) read = read ≡ Ok (view x)
Gives view (Err fault) read = read ≡ Err fault

-- the bytes end with this rest
pub record IsRest (rest bytes : List ℕ) : Type 0 where
  pub fits : length rest ≤ length bytes
  pub end : drop (length bytes - length rest) bytes ≡ rest

module _ {K : Type 0} where
  -- how many bytes the value has
  abbrev pub value_len : Kind K → ℕ
  value_len (kinds.Request key) = 0
  value_len (kinds.Response count) = count
  value_len kinds.Error = 0

  -- the payload, given its value
  abbrev pub payload_of : Kind K → List ℕ → Payload K
  payload_of (kinds.Request key) value = payloads.Request key
  payload_of (kinds.Response count) value = payloads.Response value
  payload_of kinds.Error value = payloads.Error

  -- what a body says of the bytes after the id
  abbrev pub payload_in : Body K → List ℕ → Payload K
  payload_in body bytes = payload_of body.kind (take (value_len body.kind) (drop body.lead bytes))

  abbrev pub body_end : Body K → ℕ
  body_end body = body.lead + value_len body.kind

  abbrev pub message_of : Layout K → List ℕ → Message K
  message_of layout value = record { id = layout.id; payload = payload_of layout.body.kind value }

  abbrev pub message_in : Layout K → List ℕ → Message K
  message_in layout bytes = record { id = layout.id; payload = payload_in layout.body (drop 8 bytes) }

  abbrev pub end_of : Layout K → ℕ
  end_of layout = 8 + body_end layout.body
