-- What single inputs of a peer machine do, and what they don't.
use Rattle.std.proofs.Common.{◌≡◌, refl, ap, sym, subst, ◌∙◌, ℕ, ◌≤◌, ◌^◌, Bool, true, false, ◌&&◌, ◌==◌, List, [], ◌∷◌, ◌++◌, length, Option, None, Some, Result, Ok, Err, filter, if◌then◌else◌, append-nil, arith}
use Rattle.std.specs.Prelude.{option_map, option_and_then, option_to_list, nat_lt, is_none, ⊤, map, not}
use Rattle.std.specs.List.{cons_option}
use Rattle.std.specs.Map.{lookup}
use Rattle.std.proofs.lemmas.Bool.{lt-ltb}
use Rattle.std.proofs.lemmas.List.Elements.{filter-append}
use Rattle.resolver_base.specs.declared.fault.Fault.{Fault}
use Rattle.resolver_types.specs.declared.outcome.Outcome.{Outcome}
use Rattle.resolver_types.specs.declared.outcome.Outcome.TheVariants.{Invalid, Resolved, Unresolved, Ignored}
use Rattle.resolver_types.specs.Subscribers.{without}
use Rattle.resolver_fetch_requests.specs.declared.requests.request.Request.{Request}
use Rattle.resolver_fetch_requests.specs.Requests.{overdue}
use Rattle.resolver_wire.specs.declared.wire.Payload.{Payload}
use Rattle.resolver_wire.specs.declared.wire.Payload.TheVariants as payloads
use Rattle.resolver_fetch_scan.specs.declared.scan.Ask.{Ask as Question}
use Rattle.resolver_fetch_scan.specs.Peers.{replaced}
use Rattle.resolver_fetch_scan.specs.Waiting.{Waiting}
use Rattle.resolver_fetch_scan.specs.Scan as scans
use Rattle.resolver_fetch_scan.specs.Scan.{Turn, is_over}
use Rattle.resolver_model.specs.declared.ruling.Ruling.{Ruling}
use Rattle.resolver_model.specs.declared.ruling.Ruling.TheVariants as rulings
use Rattle.resolver_model.specs.Verdicts.{ruling}
use Rattle.resolver_model_peer.specs.declared.named.Serve.{Serve}
use Rattle.resolver_model_peer.specs.Parties.{Parties, orders_of}
use Rattle.resolver_model_peer.specs.PeerRows.{Row, Phase, Waits, Asked, Judged, Judging}
use Rattle.resolver_model_peer.specs.PeerRun.{effects_of}
use Rattle.resolver_model.specs.declared.status.Status.{Status}
use Rattle.resolver_model.specs.declared.status.Status.TheVariants.{Running, Ended, Failed}
use Rattle.resolver_model_peer.specs.Peer.{Machine, Open, Done, Effect, Ask, Cancel, Deliver, Produce, Event, Fetch, Retain, PeerSet, Blocked, ActiveDue, PendingDue, Verdict, Served, Net, End, Input, Happens, Answers, account_for, and_then, answer_of, answered, cancel_in, cancels, closed, does, freed, hand_out, has_subscribers, is_due, is_key, is_newer, misses, produce, pruned, question, quiet, receive, responds, row_of, ruled, ruled_at, ruled_in, scanned, scanned_if, served_by, serves_rest, snapshot, step_in, step_of, step_running, times_out, turned, verdict_on, wake_up}
use Rattle.resolver_model_peer.specs.PeerSteps.{is_passed_over, is_unasked_as}
use Rattle.resolver_model_peer.specs.PeerPoints.{DeadVerdictsPass, RepliesOnce, ResponsesAreDelivered, PassedOverPass, is_delivery, is_judged_as, is_live_as, is_payment, is_reply, is_running, replies_as, replies_if, row_judged_as}

module _ {K S P : Type 0} where
  -- the effects of what is done, if it is
  abbrev pub told : Option (Done K S P) → List (Effect K S P)
  told None = []
  told (Some d) = d.effects

  -- questions, and what is called off or produced, are none of these
  pub record Ignores (test : Effect K S P → Bool) : Type 0 where
    pub asks : (q : Question K P) → test (Ask q) ≡ false
    pub cancels : (number : ℕ) → test (Cancel number) ≡ false
    pub produces : (serve : ℕ) (key : K) → test (Produce serve key) ≡ false

  module _ (test : Effect K S P → Bool) (ignores : Ignores test) where
    asked-none : (o : Option (Question K P)) → filter test (option_to_list (option_map Ask o)) ≡ []
    asked-none None = refl
    asked-none (Some q) = rw (ignores.asks q) refl

    pub cancels-none : (rows : List (K × Row K S P)) → filter test (cancels rows) ≡ []
    cancels-none [] = refl
    cancels-none (row ∷ rows) = at row.1.phase (cancels-none rows) where
      at : (phase : Phase K P) → filter test (cancels rows) ≡ [] → filter test (cons_option (cancel_in phase) (cancels rows)) ≡ []
      at (Waits place) rest = rest
      at (Asked id request) rest = rest
      at (Judged j) rest = rw (ignores.cancels j.number) rest

    -- where what is done if a number is left has none
    pub if-none : (b : Bool) (d : Done K S P) → filter test d.effects ≡ [] → filter test (told (if b then Some d else None)) ≡ []
    if-none true d none = none
    if-none false d none = refl

    -- where neither what comes first has one, nor what follows
    pub and-none : (d : Done K S P) (next : Machine K S P → Option (Done K S P)) → filter test d.effects ≡ [] → filter test (told (next d.machine)) ≡ [] → filter test (told (and_then d next)) ≡ []
    and-none d next first later = at (next d.machine) later where
      at : (o : Option (Done K S P)) → filter test (told o) ≡ [] → filter test (told (option_map (λ e. record { machine = e.machine; effects = d.effects ++ e.effects }) o)) ≡ []
      at None none = refl
      at (Some e) none = filter-append test d.effects e.effects ∙ rw (first, none) refl

    -- a scan has none
    pub scan-none : (a : Parties K S P) (m : Machine K S P) (now : ℕ) → filter test (scanned a m now).effects ≡ []
    scan-none a m now = at (is_due now (wake_up a m)) where
      at : (b : Bool) → filter test (scanned_if a b m now).effects ≡ []
      at true = asked-none (question a (turned a m (scans.begins (orders_of a) (snapshot a m) now)))
      at false = refl

    -- so a step has those that its event has
    pub event-told : (a : Parties K S P) (o : Option (Done K S P)) (m : Machine K S P) (now : ℕ)
        → filter test (effects_of (step_of a (option_and_then (λ d. and_then d (λ n. Some (scanned a n now))) o) m).0) ≡ filter test (told o)
    event-told a None m now = refl
    event-told a (Some d) m now = filter-append test d.effects (scanned a d.machine now).effects ∙ rw (scan-none a d.machine now, append-nil) refl

    pub answer-none : (a : Parties K S P) (t : Result (Turn K P) Fault) (m : Machine K S P) → filter test (effects_of (answer_of a t m).0) ≡ []
    answer-none a (Ok t) m = asked-none (question a (turned a m t))
    answer-none a (Err fault) m = refl

  ignores-replies : Ignores is_reply
  ignores-replies = record { asks = λ q. refl; cancels = λ n. refl; produces = λ n k. refl }

  ignores-deliveries : Ignores is_delivery
  ignores-deliveries = record { asks = λ q. refl; cancels = λ n. refl; produces = λ n k. refl }

  ignores-payments : Ignores is_payment
  ignores-payments = record { asks = λ q. refl; cancels = λ n. refl; produces = λ n k. refl }

module _ {K S P : Type 0} (a : Parties K S P) where
  -- replies

  hands-none : (m : Machine K S P) (key : K) (subscribers : List (S × ℕ)) (j : Judging P) → filter is_reply (told (hand_out a m key subscribers j)) ≡ []
  hands-none m key subscribers j = if-none is_reply ignores-replies (nat_lt j.number (2 ^ 64)) _ refl

  rest-none : (m : Machine K S P) (h : Open K S P) (value : List ℕ) (accepted : Bool) (rest : List (S × ℕ)) → filter is_reply (told (serves_rest a m h value accepted rest)) ≡ []
  rest-none m h value accepted [] = refl
  rest-none m h value accepted (s ∷ rest) = hands-none m h.handed.key (s ∷ rest) _

  ruled-none : (m : Machine K S P) (now : ℕ) (h : Open K S P) (row : Row K S P) (value : List ℕ) (rule : Ruling) → filter is_reply (told (ruled a m now h row value rule)) ≡ []
  ruled-none m now h row value (rulings.Serve accepted) = rest-none m h value accepted (without a.subscriber h.handed.subscribers row.subscribers)
  ruled-none m now h row value rulings.Retry = refl
  ruled-none m now h row value rulings.Retire = refl

  at-none : (m : Machine K S P) (now number : ℕ) (h : Open K S P) (outcome : Option Outcome) (row : Option (Row K S P)) → filter is_reply (told (ruled_at a m now number h outcome row)) ≡ []
  at-none m now number h outcome None = refl
  at-none m now number h outcome (Some row) = in-none row.phase where
    either : (b : Bool) (o : Option (Done K S P)) → filter is_reply (told o) ≡ [] → filter is_reply (told (if b then o else Some (quiet m))) ≡ []
    either true o none = none
    either false o none = refl

    in-none : (phase : Phase K P) → filter is_reply (told (ruled_in a m now number h outcome row phase)) ≡ []
    in-none (Waits place) = refl
    in-none (Asked id request) = refl
    in-none (Judged j) = either (number == j.number) (ruled a m now h row j.value (ruling h.accepted outcome)) (ruled-none m now h row j.value (ruling h.accepted outcome))

  earned-none : (m : Machine K S P) (h : Open K S P) (accepted : Bool) (outcome : Option Outcome) → filter is_reply (account_for a m h accepted outcome).effects ≡ []
  earned-none m h true outcome = refl
  earned-none m h false None = refl
  earned-none m h false (Some (Resolved resolution)) = refl
  earned-none m h false (Some Invalid) = refl
  earned-none m h false (Some Unresolved) = refl
  earned-none m h false (Some Ignored) = refl

  verdict-none : (m : Machine K S P) (now number : ℕ) (outcome : Option Outcome) (o : Option (Open K S P)) → filter is_reply (told (verdict_on a m now number outcome o)) ≡ []
  verdict-none m now number outcome None = refl
  verdict-none m now number outcome (Some h) =
      let d : Done K S P = account_for a (closed m number) h h.accepted outcome in
      and-none is_reply ignores-replies d (λ n. ruled_at a n now number h outcome (row_of a n h.handed.key)) (earned-none (closed m number) h h.accepted outcome)
      (at-none d.machine now number h outcome (row_of a d.machine h.handed.key))

  served-replies : (m : Machine K S P) (serve : ℕ) (bytes : Option (List ℕ)) (s : Option (Serve P)) → filter is_reply (served_by m serve bytes s).effects ≡ replies_as m bytes s
  served-replies m serve bytes None = refl
  served-replies m serve bytes (Some s) = refl

  responds-none : (m : Machine K S P) (now : ℕ) (value : List ℕ) (r : Option (Request K P)) (row : Option (Row K S P)) → filter is_reply (told (responds a m now value r row)) ≡ []
  responds-none m now value None row = refl
  responds-none m now value (Some r) None = refl
  responds-none m now value (Some r) (Some row) = hands-none (freed m) r.key row.subscribers _

  produce-none : (m : Machine K S P) (peer : P) (id : ℕ) (key : K) → filter is_reply (told (produce m peer id key)) ≡ []
  produce-none m peer id key = if-none is_reply ignores-replies (nat_lt m.next_serve (2 ^ 64)) _ refl

  receive-none : (m : Machine K S P) (now : ℕ) (peer : P) (id : ℕ) (payload : Payload K) → filter is_reply (told (receive a m now peer id payload)) ≡ []
  receive-none m now peer id (payloads.Request key) = produce-none m peer id key
  receive-none m now peer id (payloads.Response value) = responds-none m now value (answered a m peer id) (option_and_then (λ r. row_of a m r.key) (answered a m peer id))
  receive-none m now peer id payloads.Error = refl

  does-replies : (m : Machine K S P) (now : ℕ) (event : Event K S P) → filter is_reply (told (does a m now event)) ≡ replies_if true m (Happens event)
  does-replies m now (Fetch items) = refl
  does-replies m now (Retain keep) = cancels-none is_reply ignores-replies (filter (λ r. not (has_subscribers r)) (map (pruned keep) m.rows))
  does-replies m now (PeerSet index peers) = refl
  does-replies m now (Blocked peers) = refl
  does-replies m now ActiveDue = refl
  does-replies m now PendingDue = refl
  does-replies m now (Verdict number outcome) = verdict-none m now number outcome (lookup (λ n. number == n) m.deliveries)
  does-replies m now (Served serve bytes) = served-replies m serve bytes (lookup (λ n. serve == n) m.serves)
  does-replies m now (Net peer None) = refl
  does-replies m now (Net peer (Some message)) = receive-none m now peer message.id message.payload
  does-replies m now End = cancels-none is_reply ignores-replies m.rows

  running-replies : (over : Bool) (m : Machine K S P) (now : ℕ) (input : Input K S P) → filter is_reply (effects_of (step_running a over m now input).0) ≡ replies_if over m input
  running-replies true m now (Happens event) =
      event-told is_reply ignores-replies a (does a (record m { moment = now }) now event) m now ∙ does-replies (record m { moment = now }) now event
  running-replies false m now (Happens event) = refl
  running-replies true m now (Answers answer) = answer-none is_reply ignores-replies a (scans.takes (orders_of a) (snapshot a m) m.scan answer) m
  running-replies false m now (Answers answer) = answer-none is_reply ignores-replies a (scans.takes (orders_of a) (snapshot a m) m.scan answer) m

  pub replies_once : RepliesOnce a
  replies_once m now input = at m.status where
    at : (status : Status) → filter is_reply (effects_of (step_in a status m now input).0) ≡ replies_if (is_running status && is_over m.scan) m input
    at Running = running-replies (is_over m.scan) m now input
    at Ended = refl
    at Failed = refl

  -- what is passed over

  unasked-quiet : (m : Machine K S P) (now : ℕ) (peer : P) (id : ℕ) (payload : Payload K) → is_unasked_as a m peer id payload ≡ true → receive a m now peer id payload ≡ Some (quiet m)
  unasked-quiet m now peer id (payloads.Request key) passed = absurd cc
  unasked-quiet m now peer id (payloads.Response value) passed = at (answered a m peer id) passed where
    at : (r : Option (Request K P)) → is_none r ≡ true → responds a m now value r (option_and_then (λ r. row_of a m r.key) r) ≡ Some (quiet m)
    at None passed = refl
    at (Some r) passed = absurd cc
  unasked-quiet m now peer id payloads.Error passed = at (answered a m peer id) passed where
    at : (r : Option (Request K P)) → is_none r ≡ true → Some (quiet (misses a m now r)) ≡ Some (quiet m)
    at None passed = refl
    at (Some r) passed = absurd cc

  -- it leaves the machine as it was
  pub passed-quiet : (m : Machine K S P) (now : ℕ) (event : Event K S P) → is_passed_over a m now event ≡ true → does a (record m { moment = now }) now event ≡ Some (quiet (record m { moment = now }))
  passed-quiet m now (Fetch items) passed = absurd cc
  passed-quiet m now (Retain keep) passed = absurd cc
  passed-quiet m now (PeerSet index peers) passed = at (is_newer m.last_index index) passed where
    at : (newer : Bool) → not newer ≡ true → Some (quiet (if newer then record m { moment = now; peers = replaced a.peer m.peers peers; last_index = Some index; waiter = None } else record m { moment = now })) ≡ Some (quiet (record m { moment = now }))
    at false passed = refl
    at true passed = absurd cc
  passed-quiet m now (Blocked peers) passed = absurd cc
  passed-quiet m now ActiveDue passed = at (overdue (snapshot a m).asked now) passed where
    at : (r : Option (ℕ × Request K P)) → is_none r ≡ true → Some (quiet (times_out a (record m { moment = now }) now r)) ≡ Some (quiet (record m { moment = now }))
    at None passed = refl
    at (Some r) passed = absurd cc
  passed-quiet m now PendingDue passed = refl
  passed-quiet m now (Verdict number outcome) passed = at (lookup (λ n. number == n) m.deliveries) passed where
    at : (h : Option (Open K S P)) → is_none h ≡ true → verdict_on a (record m { moment = now }) now number outcome h ≡ Some (quiet (record m { moment = now }))
    at None passed = refl
    at (Some h) passed = absurd cc
  passed-quiet m now (Served serve bytes) passed = at (lookup (λ n. serve == n) m.serves) passed where
    at : (s : Option (Serve P)) → is_none s ≡ true → Some (served_by (record m { moment = now }) serve bytes s) ≡ Some (quiet (record m { moment = now }))
    at None passed = refl
    at (Some s) passed = absurd cc
  passed-quiet m now (Net peer None) passed = refl
  passed-quiet m now (Net peer (Some message)) passed = unasked-quiet (record m { moment = now }) now peer message.id message.payload passed
  passed-quiet m now End passed = absurd cc

  pub passed_over_pass : PassedOverPass a
  passed_over_pass m now event is = at m.status where
    running : (over : Bool) → step_running a over m now (Happens event) ≡ step_running a over m now (Happens PendingDue)
    running true = ap (λ o. step_of a (option_and_then (λ d. and_then d (λ n. Some (scanned a n now))) o) m) (passed-quiet m now event is)
    running false = refl

    at : (status : Status) → step_in a status m now (Happens event) ≡ step_in a status m now (Happens PendingDue)
    at Running = running (is_over m.scan)
    at Ended = refl
    at Failed = refl

  -- verdicts that are not live

  scanned-rows : (m : Machine K S P) (now : ℕ) → (scanned a m now).machine.rows ≡ m.rows
  scanned-rows m now = at (is_due now (wake_up a m)) where
    tries : (w : Option (K × Waiting P)) → (turned a m (scans.goes_on_with (orders_of a) (snapshot a m) (record { moment = now; trail = []; expects = None }) w)).rows ≡ m.rows
    tries None = refl
    tries (Some w) = refl

    at : (b : Bool) → (scanned_if a b m now).machine.rows ≡ m.rows
    at true = tries (scans.next (orders_of a) (snapshot a m) (record { moment = now; trail = []; expects = None }))
    at false = refl

  -- nothing is retired, changed or handed out, and at most one credit or block is given
  abbrev Passes : Machine K S P → Machine K S P → List (Effect K S P) → Type 0
  Passes m n effects = (n.rows ≡ m.rows) × (filter is_delivery effects ≡ []) × (length (filter is_payment effects) ≤ 1)

  account-passes : (m : Machine K S P) (h : Open K S P) (accepted : Bool) (outcome : Option Outcome)
      → Passes m (account_for a m h accepted outcome).machine (account_for a m h accepted outcome).effects
  account-passes m h true outcome = (refl, refl, omega arith)
  account-passes m h false None = (refl, refl, omega arith)
  account-passes m h false (Some (Resolved resolution)) = (refl, refl, omega arith)
  account-passes m h false (Some Invalid) = (refl, refl, omega arith)
  account-passes m h false (Some Unresolved) = (refl, refl, omega arith)
  account-passes m h false (Some Ignored) = (refl, refl, omega arith)

  dead-rules : (m : Machine K S P) (now number : ℕ) (h : Open K S P) (outcome : Option Outcome) (row : Option (Row K S P)) → row_judged_as number row ≡ false
      → ruled_at a m now number h outcome row ≡ Some (quiet m)
  dead-rules m now number h outcome None dead = refl
  dead-rules m now number h outcome (Some row) dead = at row.phase dead where
    at : (phase : Phase K P) → is_judged_as number phase ≡ false → ruled_in a m now number h outcome row phase ≡ Some (quiet m)
    at (Waits place) dead = refl
    at (Asked id request) dead = refl
    at (Judged j) dead = rw dead refl

  abbrev PassesIfDone : Machine K S P → Option (Done K S P) → Type 0
  PassesIfDone m None = ⊤
  PassesIfDone m (Some d) = Passes m d.machine d.effects

  verdict-passes : (m : Machine K S P) (now number : ℕ) (outcome : Option Outcome) (o : Option (Open K S P)) → is_live_as a m number o ≡ false → PassesIfDone m (verdict_on a m now number outcome o)
  verdict-passes m now number outcome None dead = (refl, refl, omega arith)
  verdict-passes m now number outcome (Some h) dead =
      let d : Done K S P = account_for a (closed m number) h h.accepted outcome in
      let passes = account-passes (closed m number) h h.accepted outcome in
      let dead_then : row_judged_as number (row_of a d.machine h.handed.key) ≡ false = ap (λ rows. row_judged_as number (lookup (is_key a h.handed.key) rows)) passes.0 ∙ dead in
      rw (dead-rules d.machine now number h outcome (row_of a d.machine h.handed.key) dead_then, append-nil) passes

  happened-passes : (o : Option (Done K S P)) (m : Machine K S P) (now : ℕ) → PassesIfDone m o
      → let answer = step_of a (option_and_then (λ d. and_then d (λ n. Some (scanned a n now))) o) m in Passes m answer.1 (effects_of answer.0)
  happened-passes None m now passes = (refl, refl, omega arith)
  happened-passes (Some d) m now passes = (
    scanned-rows d.machine now ∙ passes.0,
    event-told is_delivery ignores-deliveries a (Some d) m now ∙ passes.1,
    subst (λ (es : List (Effect K S P)). length es ≤ 1) (sym (event-told is_payment ignores-payments a (Some d) m now)) passes.2,
  )

  pub dead_verdicts_pass : DeadVerdictsPass a
  dead_verdicts_pass m now number outcome dead = at m.status where
    running : (over : Bool) → let answer = step_running a over m now (Happens (Verdict number outcome)) in Passes m answer.1 (effects_of answer.0)
    running true =
        happened-passes (does a (record m { moment = now }) now (Verdict number outcome)) m now
        (verdict-passes (record m { moment = now }) now number outcome (lookup (λ n. number == n) m.deliveries) dead)
    running false = (refl, refl, omega arith)

    at : (status : Status) → let answer = step_in a status m now (Happens (Verdict number outcome)) in Passes m answer.1 (effects_of answer.0)
    at Running = running (is_over m.scan)
    at Ended = (refl, refl, omega arith)
    at Failed = (refl, refl, omega arith)

  -- responses

  -- what a running machine without a scan tells is told where events are taken
  delivers : (m : Machine K S P) (now : ℕ) (input : Input K S P) (effects : List (Effect K S P)) → filter is_delivery (effects_of (step_running a true m now input).0) ≡ effects
      → (status : Status) → (is_running status && is_over m.scan) ≡ true → filter is_delivery (effects_of (step_in a status m now input).0) ≡ effects
  delivers m now input effects so Running takes = at (is_over m.scan) takes where
    at : (over : Bool) → over ≡ true → filter is_delivery (effects_of (step_running a over m now input).0) ≡ effects
    at true is = so
    at false is = cc
  delivers m now input effects so Ended takes = cc
  delivers m now input effects so Failed takes = cc

  pub responses_are_delivered : ResponsesAreDelivered a
  responses_are_delivered m now peer id value r row takes asked there few =
      let input : Input K S P = Happens (Net peer (Some (record { id = id; payload = payloads.Response value }))) in
      let delivered : List (Effect K S P) = Deliver m.next_delivery (record { response = m.next_delivery; key = r.key; subscribers = row.subscribers }) value ∷ [] in
      let does-delivers : filter is_delivery (told (responds a (record m { moment = now }) now value (answered a m peer id) (option_and_then (λ r. row_of a m r.key) (answered a m peer id)))) ≡ delivered =
      rw (asked, there, lt-ltb m.next_delivery (2 ^ 64) few) refl in
      delivers m now input delivered (event-told is_delivery ignores-deliveries a (does a (record m { moment = now }) now (Net peer (Some (record { id = id; payload = payloads.Response value })))) m now ∙ does-delivers) m.status takes
