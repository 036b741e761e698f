-- Steps and runs of the peer machine, with what the code may refuse.
use Rattle.std.specs.Prelude.{◌≡◌, ℕ, Bool, true, false, not, is_none, ◌&&◌, ◌==◌, List, Option, None, Some, Result, Ok, Err}
use Rattle.std.specs.Map.{lookup}
use Rattle.resolver_base.specs.declared.fault.Fault.{Fault}
use Rattle.resolver_fetch_requests.specs.Requests.{overdue}
use Rattle.resolver_wire.specs.declared.wire.Message.{Message}
use Rattle.resolver_wire.specs.declared.wire.Payload.{Payload}
use Rattle.resolver_wire.specs.declared.wire.Payload.TheVariants as payloads
use Rattle.resolver_fetch_scan.specs.Scan as scans
use Rattle.resolver_fetch_scan.specs.Scan.{is_over}
use Rattle.resolver_model.specs.Steps as steps
use Rattle.resolver_model_peer.specs.Parties.{Parties, orders_of}
use Rattle.resolver_model.specs.declared.status.Status.TheVariants.{Running, Failed}
use Rattle.resolver_model_peer.specs.Peer.{Machine, Event, Fetch, Retain, PeerSet, Blocked, ActiveDue, PendingDue, Verdict, Served, Net, End, Input, Happens, Answers, Effect, answered, is_newer, snapshot, wake_up, is_due, step}
use Rattle.resolver_model_peer.specs.PeerRun.{Fed}

abbrev is_refusal : {X : Type 0} → Result X Fault → Bool
is_refusal (Ok x) = false
is_refusal (Err fault) = true

module _ {K S P : Type 0} (a : Parties K S P) where
  abbrev pub is_unasked_as : Machine K S P → P → (id : ℕ) → Payload K → Bool
  is_unasked_as m peer id (payloads.Request key) = false
  is_unasked_as m peer id payload = is_none (answered a m peer id)

  -- what a peer sent is no message, or asks for nothing and answers no request that went to this peer under this id
  abbrev pub is_unasked : Machine K S P → P → Option (Message K) → Bool
  is_unasked m peer None = true
  is_unasked m peer (Some message) = is_unasked_as m peer message.id message.payload

  -- an event that changes nothing: the set is no newer, no request is overdue, nothing is open under the number, or nobody asked for the message
  abbrev pub is_passed_over : Machine K S P → (now : ℕ) → Event K S P → Bool
  is_passed_over m now PendingDue = true
  is_passed_over m now (PeerSet index peers) = not (is_newer m.last_index index)
  is_passed_over m now (Net peer message) = is_unasked m peer message
  is_passed_over m now ActiveDue = is_none (overdue (snapshot a m).asked now)
  is_passed_over m now (Verdict number outcome) = is_none (lookup (λ n. number == n) m.deliveries)
  is_passed_over m now (Served serve bytes) = is_none (lookup (λ n. serve == n) m.serves)
  is_passed_over m now (Fetch items) = false
  is_passed_over m now (Retain keep) = false
  is_passed_over m now (Blocked peers) = false
  is_passed_over m now End = false

  -- an event while a scan goes on, and an answer that it does not expect or that is out of range
  abbrev pub is_refused : Machine K S P → Input K S P → Bool
  is_refused m (Happens event) = not (is_over m.scan)
  is_refused m (Answers answer) = is_refusal (scans.takes (orders_of a) (snapshot a m) m.scan answer)

  -- A machine that runs and takes an input may want memory, but for an event that is passed over and begins no scan.
  abbrev pub takes_no_memory : Machine K S P → (now : ℕ) → Input K S P → Bool
  takes_no_memory m now (Happens event) = is_passed_over m now event && not (is_due now (wake_up a m))
  takes_no_memory m now (Answers answer) = false

  abbrev pub MayWant : Machine K S P → Fed K S P → Type 0
  MayWant m fed = (m.status ≡ Running) × (is_refused m fed.input ≡ false) × (takes_no_memory m fed.now fed.input ≡ false)

  abbrev pub step_on : Machine K S P → Fed K S P → Result (List (Effect K S P)) Fault × Machine K S P
  step_on m fed = step a m fed.now fed.input

  abbrev pub Takes : (old : Machine K S P) → Fed K S P → Result (List (Effect K S P)) Fault → (new : Machine K S P) → Type 0
  Takes = steps.Takes step_on MayWant (λ m. m.status ≡ Failed)

  abbrev pub Runs : (old : Machine K S P) → List (Fed K S P) → List (Result (List (Effect K S P)) Fault) → (new : Machine K S P) → Type 0
  Runs = steps.Runs step_on MayWant (λ m. m.status ≡ Failed)

  -- runs of the peer machine go on
  abbrev pub RunsJoin : Type 0
  RunsJoin = steps.RunsJoin step_on MayWant (λ m. m.status ≡ Failed)
