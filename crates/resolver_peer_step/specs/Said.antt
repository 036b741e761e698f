-- What the engine's inputs are to the machine, and what the machine's effects are to the engine's caller.
use Rattle.std.specs.Prelude.{ℕ, Bool, List, map, Option, None, Some, Result, Ok, Err}
use Rattle.std.specs.declared.vec.Vec.{Vec}
use Rattle.std.specs.declared.alloc.Global.{Global}
use Rattle.resolver_base.specs.declared.fault.Fault.{Fault}
use Rattle.resolver_messages.specs.declared.message.FetchKey.{FetchKey}
use Rattle.resolver_wire.specs.declared.wire.Message.{Message}
use Rattle.resolver_wire.specs.Reading.{whole_message}
use Rattle.resolver_wire.specs.Spelling.{spelling}
use Rattle.resolver_model_peer.specs.declared.effects.Effect.{Effect as Told}
use Rattle.resolver_model_peer.specs.declared.effects.Effect.TheVariants as told
use Rattle.resolver_model_peer.specs.declared.inputs.Event.{Event as CodeEvent}
use Rattle.resolver_model_peer.specs.declared.inputs.Event.TheVariants as events
use Rattle.resolver_model_peer.specs.declared.inputs.Input.{Input as CodeInput}
use Rattle.resolver_model_peer.specs.declared.inputs.Input.TheVariants as inputs
use Rattle.resolver_model_peer.specs.Peer.{Item, Event, Fetch, Retain, PeerSet, Blocked, ActiveDue, PendingDue, Verdict, Served, Net, End, Input, Happens, Answers, Effect, Ask, Deliver, Cancel, Produce, Reply, Credit, Block}
use Rattle.resolver_model_peer.specs.PeerRun.{Fed}

-- how a key is written in a message, and read
pub record Codec (K : Type 0) : Type 0 where
  pub size : ℕ
  pub bytes_of : K → List ℕ
  pub read_from : List ℕ → Option K

-- as a clause writes them: `codec K.SIZE K.bytes_of K.read_from`
abbrev pub codec : {K : Type 0} → ℕ → (K → List ℕ) → (List ℕ → Option K) → Codec K
codec size bytes_of read_from = record { size = size; bytes_of = bytes_of; read_from = read_from }

module _ {K S P : Type 0} where
  abbrev pub item_of : FetchKey K S (Option (List P)) → Item K S P
  item_of item = record { key = item.key; subscribers = item.subscribers; targets = item.metadata }

module _ {K : Type 0} (c : Codec K) where
  abbrev pub ok_of : {X : Type 0} → Result X Fault → Option X
  ok_of (Ok x) = Some x
  ok_of (Err fault) = None

  -- the message that these bytes spell, all of them, if they spell one
  abbrev pub message_of : List ℕ → Option (Message K)
  message_of bytes = ok_of (whole_message c.size c.read_from bytes)

  -- an effect with the bytes of its message
  abbrev pub written : {S P : Type 0} → Effect K S P → Told K P S
  written (Ask question) = told.Ask question
  written (Deliver number handed value) = told.Deliver number handed.response (record { key = handed.key; subscribers = handed.subscribers }) value
  written (Cancel number) = told.Cancel number
  written (Produce serve key) = told.Produce serve key
  written (Reply peer message priority) = told.Reply peer (spelling c.bytes_of message) priority
  written (Credit response source) = told.Credit response source
  written (Block response peer) = told.Block response peer

-- `keeps` is what the predicates keep
module _ {K P S Q : Type 0} (c : Codec K) (keeps : Q → K → S → Bool) where
  abbrev pub event_of : CodeEvent K P S Q → Event K S P
  event_of (events.Fetch items) = Fetch (map item_of items.items)
  event_of (events.Retain keep) = Retain (keeps keep)
  event_of (events.PeerSet index peers) = PeerSet index peers.items
  event_of (events.Blocked peers) = Blocked peers.items
  event_of events.ActiveDue = ActiveDue
  event_of events.PendingDue = PendingDue
  event_of (events.Verdict number outcome) = Verdict number outcome
  event_of (events.Served serve value) = Served serve value
  event_of (events.Net peer bytes) = Net peer (message_of c bytes)
  event_of events.End = End

  -- an answer has the moment of its scan
  abbrev pub fed_of : (moment : ℕ) → CodeInput K P S Q → Fed K S P
  fed_of moment (inputs.Happens happening) = record { now = happening.now; input = Happens (event_of happening.event) }
  fed_of moment (inputs.Answers answer) = record { now = moment; input = Answers answer }

module _ {K P S : Type 0} where
  -- an answer without where its list lies in memory
  abbrev pub answer_of : Result (Vec (Told K P S) Global) Fault → Result (List (Told K P S)) Fault
  answer_of (Ok effects) = Ok effects.items
  answer_of (Err fault) = Err fault
