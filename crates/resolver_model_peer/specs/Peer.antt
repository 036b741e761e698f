-- The peer machine: what it is, and one step of it.
use Rattle.std.specs.Prelude.{ℕ, ◌+◌, ◌^◌, Bool, true, false, not, ◌==◌, nat_lt, nat_le, List, [], ◌∷◌, ◌++◌, length, Option, None, Some, Result, Ok, Err, option_map, option_and_then, option_to_list, filter, filter_map, map, if◌then◌else◌}
use Rattle.std.specs.Map.{lookup, remove_entry}
use Rattle.std.specs.BTreeMap.{insert_entry}
use Rattle.std.specs.Ordering.{nat_cmp}
use Rattle.resolver_base.specs.declared.fault.Fault.{Fault}
use Rattle.resolver_base.specs.declared.fault.Fault.TheVariants as faults
use Rattle.resolver_types.specs.declared.outcome.Outcome.{Outcome}
use Rattle.resolver_types.specs.declared.outcome.Outcome.TheVariants.{Invalid, Resolved, Unresolved, Ignored}
use Rattle.resolver_types.specs.Subscribers.{attached_all, without}
use Rattle.resolver_sampling.specs.declared.score.Averages.{Averages}
use Rattle.resolver_wire.specs.declared.wire.Message.{Message}
use Rattle.resolver_wire.specs.declared.wire.Payload.{Payload}
use Rattle.resolver_wire.specs.declared.wire.Payload.TheVariants as payloads
use Rattle.resolver_fetch_scan.specs.declared.config.Config.{Config}
use Rattle.resolver_fetch_requests.specs.declared.requests.request.Request.{Request}
use Rattle.resolver_fetch_scan.specs.declared.scan.Answer.{Answer}
use Rattle.resolver_fetch_scan.specs.declared.scan.Ask.{Ask as Question}
use Rattle.resolver_fetch_scan.specs.Orders.{same_key}
use Rattle.resolver_sampling.specs.Times.{elapsed_since, charged}
use Rattle.resolver_fetch_scan.specs.Waiting as waits
use Rattle.resolver_fetch_scan.specs.Waiting.{fresh_at, retry_at, once_more, in_order, waiter_freed}
use Rattle.resolver_fetch_requests.specs.Requests.{soonest, overdue, matching, by_id}
use Rattle.resolver_fetch_scan.specs.Peers.{replaced, observed, with_targets, set_of}
use Rattle.resolver_fetch_scan.specs.Snapshot.{Snapshot}
use Rattle.resolver_fetch_scan.specs.Scan as scans
use Rattle.resolver_fetch_scan.specs.Scan.{Scan, Turn, is_over}
use Rattle.resolver_model.specs.declared.ruling.Ruling.{Ruling}
use Rattle.resolver_model.specs.declared.ruling.Ruling.TheVariants as rulings
use Rattle.resolver_model.specs.Verdicts.{ruling}
use Rattle.resolver_model.specs.Account.{Handed}
use Rattle.resolver_model.specs.declared.status.Status.{Status}
use Rattle.resolver_model.specs.declared.status.Status.TheVariants.{Running, Ended, Failed}
use Rattle.resolver_model_peer.specs.Parties.{Parties, orders_of}
use Rattle.resolver_model_peer.specs.declared.named.Serve.{Serve}
use Rattle.resolver_model_peer.specs.declared.named.Source.{Source}
use Rattle.resolver_model_peer.specs.PeerRows.{Row, Phase, Waits, Asked, Judged, Judging, change_entry, waiting_of, request_of}

-- a delivery without its verdict. `accepted`: its response was judged Complete before it was handed out
pub record Open (K S P : Type 0) : Type 0 where
  pub handed : Handed K S
  pub source : Source P
  pub accepted : Bool

pub record Machine (K S P : Type 0) : Type 0 where
  -- in the order of the keys
  pub rows : List (K × Row K S P)
  -- the latest set, in the order of the peers
  pub peers : List (P × Averages)
  pub blocked : List P
  pub configuration : Config P
  -- whether replies are sent before other messages
  pub priority_responses : Bool
  -- of the latest set; none: no set came
  pub last_index : Option ℕ
  -- none: clear
  pub waiter : Option ℕ
  -- none: no id was ever taken
  pub last_id : Option ℕ
  pub next_delivery : ℕ
  pub next_serve : ℕ
  -- by number, without a verdict
  pub deliveries : List (ℕ × Open K S P)
  -- by number, without bytes
  pub serves : List (ℕ × Serve P)
  -- open, or the last one
  pub scan : Scan K P
  -- of the last event
  pub moment : ℕ
  pub status : Status

-- where every machine begins
abbrev pub opening : {K S P : Type 0} → Config P → (priority_responses : Bool) → Machine K S P
opening configuration priority_responses = record {
  rows = [];
  peers = [];
  blocked = [];
  configuration = configuration;
  priority_responses = priority_responses;
  last_index = None;
  waiter = None;
  last_id = None;
  next_delivery = 0;
  next_serve = 0;
  deliveries = [];
  serves = [];
  scan = record { moment = 0; trail = []; expects = None };
  moment = 0;
  status = Running;
}

-- a key to fetch, its subscribers with their marks, and the peers that may be asked; none: any peer
pub record Item (K S P : Type 0) : Type 0 where
  pub key : K
  pub subscribers : List (S × ℕ)
  pub targets : Option (List P)

pub data Event (K S P : Type 0) : Type 0 where
  Fetch : List (Item K S P) → Event K S P
  Retain : (K → S → Bool) → Event K S P
  PeerSet : (index : ℕ) → List P → Event K S P
  Blocked : List P → Event K S P
  ActiveDue : Event K S P
  PendingDue : Event K S P
  Verdict : (number : ℕ) → Option Outcome → Event K S P
  Served : (serve : ℕ) → Option (List ℕ) → Event K S P
  -- none: the bytes were no message
  Net : P → Option (Message K) → Event K S P
  End : Event K S P

pub data Input (K S P : Type 0) : Type 0 where
  Happens : Event K S P → Input K S P
  Answers : Answer → Input K S P

pub data Effect (K S P : Type 0) : Type 0 where
  Ask : Question K P → Effect K S P
  Deliver : (number : ℕ) → Handed K S → List ℕ → Effect K S P
  Cancel : (number : ℕ) → Effect K S P
  Produce : (serve : ℕ) → K → Effect K S P
  Reply : P → Message K → (priority : Bool) → Effect K S P
  Credit : (response : ℕ) → Source P → Effect K S P
  Block : (response : ℕ) → P → Effect K S P

abbrev pub is_newer : (last : Option ℕ) → (index : ℕ) → Bool
is_newer None index = true
is_newer (Some last) index = nat_lt last index

-- whether a wake-up is not later than now
abbrev pub is_due : (now : ℕ) → Option ℕ → Bool
is_due now None = false
is_due now (Some moment) = nat_le moment now

-- a reply: where there are no bytes, or more than a message can carry, they are missed
abbrev pub payload_of : {K : Type 0} → Option (List ℕ) → Payload K
payload_of None = payloads.Error
payload_of (Some bytes) = if nat_lt (length bytes) (2 ^ 32) then payloads.Response bytes else payloads.Error

-- a machine, and the effects on the way to it
pub record Done (K S P : Type 0) : Type 0 where
  pub machine : Machine K S P
  pub effects : List (Effect K S P)

module _ {K S P : Type 0} where
  abbrev pub quiet : Machine K S P → Done K S P
  quiet m = record { machine = m; effects = [] }

  -- one after another. What the machine does without a number is `None`: none was left
  abbrev pub and_then : Done K S P → (Machine K S P → Option (Done K S P)) → Option (Done K S P)
  and_then d next = option_map (λ e. record { machine = e.machine; effects = d.effects ++ e.effects }) (next d.machine)

  abbrev pub cancel_in : Phase K P → Option (Effect K S P)
  cancel_in (Judged j) = Some (Cancel j.number)
  cancel_in phase = None

  -- what is called off where these keys end
  abbrev pub cancels : List (K × Row K S P) → List (Effect K S P)
  cancels rows = filter_map (λ r. cancel_in r.1.phase) rows

  abbrev pub pruned : (K → S → Bool) → K × Row K S P → K × Row K S P
  pruned keep r = (r.0, record r.1 { subscribers = filter (λ s. keep r.0 s.0) r.1.subscribers })

  abbrev pub has_subscribers : K × Row K S P → Bool
  has_subscribers r = nat_lt 0 (length r.1.subscribers)

  abbrev pub retain : Machine K S P → (K → S → Bool) → Done K S P
  retain m keep =
      let rows = map (pruned keep) m.rows in record {
        machine = record m { rows = filter has_subscribers rows; waiter = None };
        effects = cancels (filter (λ r. not (has_subscribers r)) rows);
      }

  abbrev pub closed : Machine K S P → (number : ℕ) → Machine K S P
  closed m number = record m { deliveries = remove_entry (λ n. number == n) m.deliveries }

  -- Where requests are limited the peer that responds may be asked again.
  abbrev pub freed : Machine K S P → Machine K S P
  freed m = record m { waiter = waiter_freed m.configuration.peer_limit m.waiter }

  abbrev pub served_by : Machine K S P → (serve : ℕ) → Option (List ℕ) → Option (Serve P) → Done K S P
  served_by m serve bytes None = quiet m
  served_by m serve bytes (Some s) = record {
    machine = record m { serves = remove_entry (λ n. serve == n) m.serves };
    effects = Reply s.peer (record { id = s.id; payload = payload_of bytes }) m.priority_responses ∷ [];
  }

  abbrev pub served : Machine K S P → (serve : ℕ) → Option (List ℕ) → Done K S P
  served m serve bytes = served_by m serve bytes (lookup (λ n. serve == n) m.serves)

  -- a peer's request is handed to the producer under the next number
  abbrev pub produce : Machine K S P → P → (id : ℕ) → K → Option (Done K S P)
  produce m peer id key =
      if nat_lt m.next_serve (2 ^ 64)
      then Some (record {
        machine = record m { serves = insert_entry nat_cmp m.serves m.next_serve (record { peer = peer; id = id }); next_serve = m.next_serve + 1 };
        effects = Produce m.next_serve key ∷ [];
      })
      else None

  abbrev pub end : Machine K S P → Done K S P
  end m = record { machine = record m { rows = []; waiter = None; deliveries = []; serves = []; status = Ended }; effects = cancels m.rows }

module _ {K S P : Type 0} (a : Parties K S P) where
  -- what a scan reads of the machine
  abbrev pub snapshot : Machine K S P → Snapshot K P
  snapshot m = record {
    waiting = in_order (orders_of a) (filter_map waiting_of m.rows);
    asked = by_id (filter_map request_of m.rows);
    peers = m.peers;
    blocked = m.blocked;
    configuration = m.configuration;
    last_id = m.last_id;
  }

  abbrev pub is_key : K → K → Bool
  is_key k l = same_key (orders_of a) k l

  abbrev pub row_of : Machine K S P → K → Option (Row K S P)
  row_of m key = lookup (is_key key) m.rows

  abbrev pub with_new_row : Machine K S P → K → Row K S P → Machine K S P
  with_new_row m key row = record m { rows = insert_entry a.key m.rows key row }

  abbrev pub with_row : Machine K S P → K → (Row K S P → Row K S P) → Machine K S P
  with_row m key f = record m { rows = change_entry (is_key key) f m.rows }

  -- the waiter stays as it is
  abbrev pub without_row : Machine K S P → K → Machine K S P
  without_row m key = record m { rows = remove_entry (is_key key) m.rows }

  -- an observation of a peer
  abbrev pub observe : Machine K S P → Source P → Machine K S P
  observe m source = record m { peers = observed a.peer m.peers source.peer (record { elapsed = source.elapsed; bytes = source.bytes }) }

  -- a peer is charged for a time that did not help
  abbrev pub charge : Machine K S P → P → (time : ℕ) → Machine K S P
  charge m peer time = observe m (record { peer = peer; elapsed = charged time m.configuration.retry_delay; bytes = 0 })

  -- the key waits until the delay is over, and counts as retried once more
  abbrev pub retry : Machine K S P → (now : ℕ) → K → Machine K S P
  retry m now key = record (with_row m key (λ row. record row {
    retries = once_more row.retries;
    phase = Waits (retry_at (now + m.configuration.retry_delay));
  })) { waiter = None }

  -- a key that any peer may be asked for stays so, and one that is fetched without targets becomes so
  abbrev pub targets_with : (there given : Option (List P)) → Option (List P)
  targets_with (Some there) (Some given) = Some (with_targets a.peer there given)
  targets_with there given = None

  -- targets for a key that any peer may be asked for change nothing
  abbrev pub waiter_with : (there given : Option (List P)) → (waiter : Option ℕ) → Option ℕ
  waiter_with None (Some given) waiter = waiter
  waiter_with there given waiter = None

  abbrev pub fetch_one : Machine K S P → (now : ℕ) → Item K S P → Option (Row K S P) → Machine K S P
  fetch_one m now item (Some row) = record (with_row m item.key (λ old. record old {
    subscribers = attached_all a.subscriber old.subscribers item.subscribers;
    targets = targets_with old.targets item.targets;
  })) { waiter = waiter_with row.targets item.targets m.waiter }
  fetch_one m now item None = record (with_new_row m item.key (record {
    subscribers = attached_all a.subscriber [] item.subscribers;
    targets = option_map (with_targets a.peer []) item.targets;
    retries = 0;
    phase = Waits (fresh_at now);
  })) { waiter = None }

  abbrev pub fetch : Machine K S P → (now : ℕ) → List (Item K S P) → Machine K S P
  fetch m now [] = m
  fetch m now (item ∷ items) = fetch (fetch_one m now item (row_of m item.key)) now items

  -- a set that is not newer is passed over
  abbrev pub peer_set : Machine K S P → (index : ℕ) → List P → Machine K S P
  peer_set m index peers =
      if is_newer m.last_index index
      then record m { peers = replaced a.peer m.peers peers; last_index = Some index; waiter = None }
      else m

  abbrev pub block : Machine K S P → List P → Machine K S P
  block m peers = record m { blocked = set_of a.peer peers; waiter = None }

  -- a request that did not help: its peer is charged for the time, and its key is retried
  abbrev pub fails : Machine K S P → (now : ℕ) → Request K P → (time : ℕ) → Machine K S P
  fails m now r time = retry (charge m r.peer time) now r.key

  abbrev pub times_out : Machine K S P → (now : ℕ) → Option (ℕ × Request K P) → Machine K S P
  times_out m now None = m
  times_out m now (Some r) = fails m now r.1 m.configuration.fetch_timeout

  -- what a delivery of the key names
  abbrev pub handed_as : K → List (S × ℕ) → Judging P → Handed K S
  handed_as key subscribers j = record { response = j.response; key = key; subscribers = subscribers }

  -- The response is handed out under its number, if there is one.
  abbrev pub hand_out : Machine K S P → K → List (S × ℕ) → Judging P → Option (Done K S P)
  hand_out m key subscribers j =
      if nat_lt j.number (2 ^ 64)
      then Some (record {
        machine = record (with_row m key (λ row. record row { subscribers = subscribers; phase = Judged j })) {
          deliveries = insert_entry nat_cmp m.deliveries j.number (record { handed = handed_as key subscribers j; source = j.source; accepted = j.accepted });
          next_delivery = j.number + 1;
        };
        effects = Deliver j.number (handed_as key subscribers j) j.value ∷ [];
      })
      else None

  -- what a peer's response earns it, once
  abbrev pub account_for : Machine K S P → Open K S P → (accepted : Bool) → Option Outcome → Done K S P
  account_for m h false (Some (Resolved resolution)) = record { machine = observe m h.source; effects = Credit h.handed.response h.source ∷ [] }
  account_for m h false (Some Invalid) = record { machine = m; effects = Block h.handed.response h.source.peer ∷ [] }
  account_for m h false (Some Unresolved) = quiet m
  account_for m h false (Some Ignored) = quiet m
  account_for m h false None = quiet m
  account_for m h true outcome = quiet m

  -- The named subscribers are served. The rest get the same response again, under a new number.
  abbrev pub serves_rest : Machine K S P → Open K S P → (value : List ℕ) → (accepted : Bool) → List (S × ℕ) → Option (Done K S P)
  serves_rest m h value accepted [] = Some (quiet (without_row m h.handed.key))
  serves_rest m h value accepted (s ∷ rest) = hand_out m h.handed.key (s ∷ rest) (record {
    number = m.next_delivery;
    response = h.handed.response;
    source = h.source;
    value = value;
    accepted = accepted;
  })

  -- a ruling on the delivery in progress
  abbrev pub ruled : Machine K S P → (now : ℕ) → Open K S P → Row K S P → (value : List ℕ) → Ruling → Option (Done K S P)
  ruled m now h row value (rulings.Serve accepted) = serves_rest m h value accepted (without a.subscriber h.handed.subscribers row.subscribers)
  ruled m now h row value rulings.Retry = Some (quiet (retry m now h.handed.key))
  ruled m now h row value rulings.Retire = Some (quiet (without_row m h.handed.key))

  -- A verdict rules only where its key is judged under its number.
  abbrev pub ruled_in : Machine K S P → (now number : ℕ) → Open K S P → Option Outcome → Row K S P → Phase K P → Option (Done K S P)
  ruled_in m now number h outcome row (Judged j) = if number == j.number then ruled m now h row j.value (ruling h.accepted outcome) else Some (quiet m)
  ruled_in m now number h outcome row phase = Some (quiet m)

  abbrev pub ruled_at : Machine K S P → (now number : ℕ) → Open K S P → Option Outcome → Option (Row K S P) → Option (Done K S P)
  ruled_at m now number h outcome None = Some (quiet m)
  ruled_at m now number h outcome (Some row) = ruled_in m now number h outcome row row.phase

  abbrev pub verdict_on : Machine K S P → (now number : ℕ) → Option Outcome → Option (Open K S P) → Option (Done K S P)
  verdict_on m now number outcome None = Some (quiet m)
  verdict_on m now number outcome (Some h) =
      and_then (account_for (closed m number) h h.accepted outcome) (λ n. ruled_at n now number h outcome (row_of n h.handed.key))

  abbrev pub verdict : Machine K S P → (now number : ℕ) → Option Outcome → Option (Done K S P)
  verdict m now number outcome = verdict_on m now number outcome (lookup (λ n. number == n) m.deliveries)

  abbrev pub responds : Machine K S P → (now : ℕ) → List ℕ → Option (Request K P) → Option (Row K S P) → Option (Done K S P)
  responds m now value (Some r) (Some row) = hand_out (freed m) r.key row.subscribers (record {
    number = m.next_delivery;
    response = m.next_delivery;
    source = record { peer = r.peer; elapsed = elapsed_since r.start now; bytes = length value };
    value = value;
    accepted = false;
  })
  responds m now value r row = Some (quiet m)

  abbrev pub misses : Machine K S P → (now : ℕ) → Option (Request K P) → Machine K S P
  misses m now None = m
  misses m now (Some r) = fails m now r (elapsed_since r.start now)

  -- the request that a message of this peer answers
  abbrev pub answered : Machine K S P → P → (id : ℕ) → Option (Request K P)
  answered m peer id = matching a.peer (snapshot m).asked id peer

  abbrev pub receive : Machine K S P → (now : ℕ) → P → (id : ℕ) → Payload K → Option (Done K S P)
  receive m now peer id (payloads.Request key) = produce m peer id key
  receive m now peer id (payloads.Response value) = responds m now value (answered m peer id) (option_and_then (λ r. row_of m r.key) (answered m peer id))
  receive m now peer id payloads.Error = Some (quiet (misses m now (answered m peer id)))

  -- what a running machine does at an event
  abbrev pub does : Machine K S P → (now : ℕ) → Event K S P → Option (Done K S P)
  does m now (Fetch items) = Some (quiet (fetch m now items))
  does m now (Retain keep) = Some (retain m keep)
  does m now (PeerSet index peers) = Some (quiet (peer_set m index peers))
  does m now (Blocked peers) = Some (quiet (block m peers))
  does m now ActiveDue = Some (quiet (times_out m now (overdue (snapshot m).asked now)))
  does m now PendingDue = Some (quiet m)
  does m now (Verdict number outcome) = verdict m now number outcome
  does m now (Served serve bytes) = Some (served m serve bytes)
  does m now (Net peer None) = Some (quiet m)
  does m now (Net peer (Some message)) = receive m now peer message.id message.payload
  does m now End = Some (end m)

  abbrev pub with_sent : Machine K S P → Option (ℕ × Request K P) → Machine K S P
  with_sent m None = m
  with_sent m (Some r) = with_row m r.1.key (λ row. record row { phase = Asked r.0 r.1 })

  abbrev pub turned : Machine K S P → Turn K P → Machine K S P
  turned m t = record (with_sent m t.sent) { scan = t.scan; last_id = t.last_id; waiter = t.waiter }

  abbrev pub question : Machine K S P → Option (Question K P)
  question m = scans.question (orders_of a) (snapshot m) m.scan

  -- with what the scan asks
  abbrev pub asking : Machine K S P → Done K S P
  asking m = record { machine = m; effects = option_to_list (option_map Ask (question m)) }

  -- none: no key waits
  abbrev pub wake_up : Machine K S P → Option ℕ
  wake_up m = waits.wake_up (λ w. w.1.place.due) (snapshot m).waiting m.waiter

  abbrev pub scanned_if : Bool → Machine K S P → (now : ℕ) → Done K S P
  scanned_if true m now = asking (turned m (scans.begins (orders_of a) (snapshot m) now))
  scanned_if false m now = quiet m

  -- a scan begins where the wake-up is not later than now
  abbrev pub scanned : Machine K S P → (now : ℕ) → Done K S P
  scanned m now = scanned_if (is_due now (wake_up m)) m now

  abbrev pub step_of : Option (Done K S P) → Machine K S P → Result (List (Effect K S P)) Fault × Machine K S P
  step_of None m = (Err faults.Exhausted, record m { status = Failed })
  step_of (Some d) m = (Ok d.effects, d.machine)

  -- an event, with the scan that it gives rise to
  abbrev pub happen : Machine K S P → (now : ℕ) → Event K S P → Option (Done K S P)
  happen m now event = option_and_then (λ d. and_then d (λ n. Some (scanned n now))) (does (record m { moment = now }) now event)

  abbrev pub answer_of : Result (Turn K P) Fault → Machine K S P → Result (List (Effect K S P)) Fault × Machine K S P
  answer_of (Err fault) m = (Err fault, m)
  answer_of (Ok t) m = let d = asking (turned m t) in (Ok d.effects, d.machine)

  -- a running machine, and whether its scan is over
  abbrev pub step_running : (over : Bool) → Machine K S P → (now : ℕ) → Input K S P → Result (List (Effect K S P)) Fault × Machine K S P
  step_running true m now (Happens event) = step_of (happen m now event) m
  step_running false m now (Happens event) = (Err faults.Busy, m)
  step_running over m now (Answers answer) = answer_of (scans.takes (orders_of a) (snapshot m) m.scan answer) m

  abbrev pub step_in : Status → Machine K S P → (now : ℕ) → Input K S P → Result (List (Effect K S P)) Fault × Machine K S P
  step_in Failed m now input = (Err faults.Failed, m)
  step_in Ended m now input = (Err faults.Ended, m)
  step_in Running m now input = step_running (is_over m.scan) m now input

  abbrev pub step : Machine K S P → (now : ℕ) → Input K S P → Result (List (Effect K S P)) Fault × Machine K S P
  step m now input = step_in m.status m now input

  -- when the soonest request times out
  abbrev pub active_deadline : Machine K S P → Option ℕ
  active_deadline m = option_map (λ r. r.1.deadline) (soonest (snapshot m).asked)
