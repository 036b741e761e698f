-- The status of a machine once it took an input.
use Rattle.std.proofs.Common.{◌≡◌, refl, ◌∙◌, subst, ℕ, ◌^◌, Bool, true, false, List, [], ◌∷◌, ◌++◌, Option, None, Some, Result, Ok, Err, if◌then◌else◌}
use Rattle.std.specs.Option.{option_and_then, option_map}
use Rattle.std.specs.Prelude.{nat_lt, ◌==◌, ⊤}
use Rattle.std.specs.Map.{lookup}
use Rattle.resolver_base.specs.declared.fault.Fault.{Fault}
use Rattle.resolver_types.specs.declared.outcome.Outcome.{Outcome}
use Rattle.resolver_types.specs.declared.outcome.Outcome.TheVariants.{Invalid, Resolved, Unresolved, Ignored}
use Rattle.resolver_types.specs.Subscribers.{without}
use Rattle.resolver_fetch_requests.specs.declared.requests.request.Request.{Request}
use Rattle.resolver_wire.specs.declared.wire.Payload.{Payload}
use Rattle.resolver_wire.specs.declared.wire.Payload.TheVariants as payloads
use Rattle.resolver_fetch_requests.specs.Requests.{overdue}
use Rattle.resolver_fetch_scan.specs.Scan.{Turn, begins, is_over, takes}
use Rattle.resolver_model.specs.declared.ruling.Ruling.{Ruling}
use Rattle.resolver_model.specs.declared.ruling.Ruling.TheVariants as rulings
use Rattle.resolver_model.specs.Verdicts.{ruling}
use Rattle.resolver_model_peer.specs.declared.named.Serve.{Serve}
use Rattle.resolver_model_peer.specs.Parties.{Parties, orders_of}
use Rattle.resolver_model_peer.specs.PeerRows.{Row, Phase, Waits, Asked, Judged}
use Rattle.resolver_model.specs.declared.status.Status.{Status}
use Rattle.resolver_model.specs.declared.status.Status.TheVariants.{Ended}
use Rattle.resolver_model_peer.specs.Peer.{Done, Effect, Event, Fetch, Retain, PeerSet, Blocked, ActiveDue, PendingDue, Verdict, Served, Net, End, Input, Happens, Answers, Item, Machine, Open, account_for, and_then, answer_of, answered, closed, does, fetch, fetch_one, happen, is_due, is_newer, misses, quiet, receive, responds, row_of, ruled, ruled_at, ruled_in, scanned, scanned_if, served_by, serves_rest, snapshot, step_of, step_running, times_out, verdict_on, wake_up, with_sent}
use Rattle.resolver_model_peer.specs.PeerRun.{Fed}
use Rattle.resolver_peer_step.specs.EngineSteps.{running}

module _ {K S P : Type 0} where
  -- what is done has this status, where it is done
  abbrev Has : Status → Option (Done K S P) → Type 0
  Has status None = ⊤
  Has status (Some d) = d.machine.status ≡ status

  if-has : (status : Status) (b : Bool) (d : Done K S P) → d.machine.status ≡ status → Has status (if b then Some d else None)
  if-has status true d has = has
  if-has status false d has = tt

  either-has : (status : Status) (b : Bool) (o : Option (Done K S P)) (m : Machine K S P) → Has status o → m.status ≡ status → Has status (if b then o else Some (quiet m))
  either-has status true o m has same = has
  either-has status false o m has same = same

  with-has : (status : Status) (d : Done K S P) (o : Option (Done K S P)) → Has status o → Has status (option_map (λ e. record { machine = e.machine; effects = d.effects ++ e.effects }) o)
  with-has status d None has = tt
  with-has status d (Some e) has = has

  -- the status behind an event
  abbrev pub behind : Status → Event K S P → Status
  behind status End = Ended
  behind status event = status

  -- the status behind an input
  abbrev pub behind_input : Status → Input K S P → Status
  behind_input status (Happens event) = behind status event
  behind_input status (Answers answer) = status

module _ {K S P : Type 0} (a : Parties K S P) where
  fetch_one-has : (m : Machine K S P) (now : ℕ) (item : Item K S P) (row : Option (Row K S P)) → (fetch_one a m now item row).status ≡ m.status
  fetch_one-has m now item None = refl
  fetch_one-has m now item (Some row) = refl

  fetch-has : (m : Machine K S P) (now : ℕ) (items : List (Item K S P)) → (fetch a m now items).status ≡ m.status
  fetch-has m now [] = refl
  fetch-has m now (item ∷ items) = fetch-has (fetch_one a m now item (row_of a m item.key)) now items ∙ fetch_one-has m now item (row_of a m item.key)

  peers-has : (m n : Machine K S P) (b : Bool) → n.status ≡ m.status → (if b then n else m).status ≡ m.status
  peers-has m n true same = same
  peers-has m n false same = refl

  times_out-has : (m : Machine K S P) (now : ℕ) (r : Option (ℕ × Request K P)) → (times_out a m now r).status ≡ m.status
  times_out-has m now None = refl
  times_out-has m now (Some r) = refl

  misses-has : (m : Machine K S P) (now : ℕ) (r : Option (Request K P)) → (misses a m now r).status ≡ m.status
  misses-has m now None = refl
  misses-has m now (Some r) = refl

  served-has : (m : Machine K S P) (serve : ℕ) (bytes : Option (List ℕ)) (s : Option (Serve P)) → (served_by m serve bytes s).machine.status ≡ m.status
  served-has m serve bytes None = refl
  served-has m serve bytes (Some s) = refl

  account-has : (m : Machine K S P) (h : Open K S P) (accepted : Bool) (outcome : Option Outcome) → (account_for a m h accepted outcome).machine.status ≡ m.status
  account-has m h true outcome = refl
  account-has m h false None = refl
  account-has m h false (Some (Resolved resolution)) = refl
  account-has m h false (Some Invalid) = refl
  account-has m h false (Some Unresolved) = refl
  account-has m h false (Some Ignored) = refl

  rest-has : (m : Machine K S P) (h : Open K S P) (value : List ℕ) (again : Bool) (rest : List (S × ℕ)) → Has m.status (serves_rest a m h value again rest)
  rest-has m h value again [] = refl
  rest-has m h value again (s ∷ rest) = if-has m.status (nat_lt m.next_delivery (2 ^ 64)) _ refl

  ruled-has : (m : Machine K S P) (now : ℕ) (h : Open K S P) (row : Row K S P) (value : List ℕ) (rule : Ruling) → Has m.status (ruled a m now h row value rule)
  ruled-has m now h row value (rulings.Serve again) = rest-has m h value again (without a.subscriber h.handed.subscribers row.subscribers)
  ruled-has m now h row value rulings.Retry = refl
  ruled-has m now h row value rulings.Retire = refl

  in-has : (m : Machine K S P) (now number : ℕ) (h : Open K S P) (outcome : Option Outcome) (row : Row K S P) (phase : Phase K P) → Has m.status (ruled_in a m now number h outcome row phase)
  in-has m now number h outcome row (Waits place) = refl
  in-has m now number h outcome row (Asked id request) = refl
  in-has m now number h outcome row (Judged j) =
      either-has m.status (number == j.number) (ruled a m now h row j.value (ruling h.accepted outcome)) m (ruled-has m now h row j.value (ruling h.accepted outcome)) refl

  at-has : (m : Machine K S P) (now number : ℕ) (h : Open K S P) (outcome : Option Outcome) (row : Option (Row K S P)) → Has m.status (ruled_at a m now number h outcome row)
  at-has m now number h outcome None = refl
  at-has m now number h outcome (Some row) = in-has m now number h outcome row row.phase

  verdict-has : (m : Machine K S P) (now number : ℕ) (outcome : Option Outcome) (o : Option (Open K S P)) → Has m.status (verdict_on a m now number outcome o)
  verdict-has m now number outcome None = refl
  verdict-has m now number outcome (Some h) =
      let d : Done K S P = account_for a (closed m number) h h.accepted outcome in
      let same : d.machine.status ≡ m.status = account-has (closed m number) h h.accepted outcome in
      with-has m.status d (ruled_at a d.machine now number h outcome (row_of a d.machine h.handed.key))
      (subst (λ status. Has status (ruled_at a d.machine now number h outcome (row_of a d.machine h.handed.key))) same (at-has d.machine now number h outcome (row_of a d.machine h.handed.key)))

  responds-has : (m : Machine K S P) (now : ℕ) (value : List ℕ) (r : Option (Request K P)) (row : Option (Row K S P)) → Has m.status (responds a m now value r row)
  responds-has m now value None row = refl
  responds-has m now value (Some q) None = refl
  responds-has m now value (Some q) (Some row) = if-has m.status (nat_lt m.next_delivery (2 ^ 64)) _ refl

  receive-has : (m : Machine K S P) (now : ℕ) (peer : P) (id : ℕ) (payload : Payload K) → Has m.status (receive a m now peer id payload)
  receive-has m now peer id (payloads.Request key) = if-has m.status (nat_lt m.next_serve (2 ^ 64)) _ refl
  receive-has m now peer id (payloads.Response value) = responds-has m now value (answered a m peer id) (option_and_then (λ r. row_of a m r.key) (answered a m peer id))
  receive-has m now peer id payloads.Error = misses-has m now (answered a m peer id)

  does-has : (m : Machine K S P) (now : ℕ) (event : Event K S P) → Has (behind m.status event) (does a m now event)
  does-has m now (Fetch items) = fetch-has m now items
  does-has m now (Retain keep) = refl
  does-has m now (PeerSet index peers) = peers-has m _ (is_newer m.last_index index) refl
  does-has m now (Blocked peers) = refl
  does-has m now ActiveDue = times_out-has m now (overdue (snapshot a m).asked now)
  does-has m now PendingDue = refl
  does-has m now (Verdict number outcome) = verdict-has m now number outcome (lookup (λ n. number == n) m.deliveries)
  does-has m now (Served serve bytes) = served-has m serve bytes (lookup (λ n. serve == n) m.serves)
  does-has m now (Net peer None) = refl
  does-has m now (Net peer (Some message)) = receive-has m now peer message.id message.payload
  does-has m now End = refl

  sent-has : (m : Machine K S P) (t : Turn K P) (sent : Option (ℕ × Request K P)) → (with_sent a m sent).status ≡ m.status
  sent-has m t None = refl
  sent-has m t (Some r) = refl

  scanned-has : (m : Machine K S P) (now : ℕ) (due : Bool) → (scanned_if a due m now).machine.status ≡ m.status
  scanned-has m now true = let t = begins (orders_of a) (snapshot a m) now in sent-has m t t.sent
  scanned-has m now false = refl

  happen-has : (m : Machine K S P) (now : ℕ) (event : Event K S P) → Has (behind m.status event) (happen a m now event)
  happen-has m now event = at (does a (record m { moment = now }) now event) (does-has (record m { moment = now }) now event)
    where
      at : (going : Option (Done K S P)) → Has (behind m.status event) going → Has (behind m.status event) (option_and_then (λ d. and_then d (λ n. Some (scanned a n now))) going)
      at None has = tt
      at (Some d) has = scanned-has d.machine now (is_due now (wake_up a d.machine)) ∙ has

  -- an answer's machine has this status, where it takes the input
  abbrev HasIfOk : Status → Result (List (Effect K S P)) Fault × Machine K S P → Type 0
  HasIfOk status (Ok effects, n) = n.status ≡ status
  HasIfOk status (Err fault, n) = ⊤

  running-has : (m : Machine K S P) (now : ℕ) (input : Input K S P) (over : Bool) → HasIfOk (behind_input m.status input) (step_running a over m now input)
  running-has m now (Happens event) true = at (happen a m now event) (happen-has m now event)
    where
      at : (going : Option (Done K S P)) → Has (behind m.status event) going → HasIfOk (behind m.status event) (step_of a going m)
      at None has = tt
      at (Some d) has = has
  running-has m now (Happens event) false = tt
  running-has m now (Answers answer) over = at over (takes (orders_of a) (snapshot a m) m.scan answer)
    where
      at : (over : Bool) (taken : Result (Turn K P) Fault) → HasIfOk m.status (answer_of a taken m)
      at over (Ok t) = sent-has m t t.sent
      at over (Err fault) = tt

  -- the status of the machine once it took an input
  pub status-behind : (m n : Machine K S P) (fed : Fed K S P) (effects : List (Effect K S P)) → running a m fed ≡ (Ok effects, n) → n.status ≡ behind_input m.status fed.input
  status-behind m n fed effects is = subst (HasIfOk (behind_input m.status fed.input)) is (running-has m fed.now fed.input (is_over m.scan))
