-- Each request goes to a peer that is eligible for its key.
use Rattle.std.proofs.Common.{◌≡◌, refl, subst, ap, ◌∙◌, sym, ◌⊎◌, inl, inr, ℕ, ◌^◌, Bool, true, false, not, ◌==◌, List, [], ◌∷◌, ◌++◌, Option, None, Some, Result, Ok, Err, filter, map, if◌then◌else◌}
use Rattle.std.specs.Prelude.{option_map, option_and_then, option_to_list, nat_lt, ⊤}
use Rattle.std.specs.Map.{lookup}
use Rattle.resolver_base.specs.declared.fault.Fault.{Fault}
use Rattle.resolver_types.specs.declared.outcome.Outcome.{Outcome}
use Rattle.resolver_types.specs.declared.outcome.Outcome.TheVariants.{Invalid, Resolved, Unresolved, Ignored}
use Rattle.resolver_types.specs.Subscribers.{without}
use Rattle.resolver_fetch_scan.specs.Waiting.{Waiting}
use Rattle.resolver_fetch_requests.specs.declared.requests.request.Request.{Request}
use Rattle.resolver_fetch_requests.specs.Requests.{overdue}
use Rattle.resolver_fetch_scan.specs.declared.trail.Try.{Try}
use Rattle.resolver_fetch_scan.specs.EligibleLaws.{MayBeAsked}
use Rattle.resolver_fetch_scan.specs.Snapshot.{Snapshot, eligible}
use Rattle.resolver_fetch_scan.specs.declared.trail.Expected.{Expected}
use Rattle.resolver_fetch_scan.specs.declared.trail.Expected.TheVariants.{Mode, ByWeight, ByPlace, Checking, FirstId, Sending}
use Rattle.resolver_fetch_scan.specs.declared.trail.Reason.{Reason}
use Rattle.resolver_fetch_scan.specs.Scan.{Scan, Turn, next, left, takes, begins, question_of, is_over, can_be_tried}
use Rattle.resolver_wire.specs.declared.wire.Payload.{Payload}
use Rattle.resolver_wire.specs.declared.wire.Payload.TheVariants as payloads
use Rattle.resolver_model.specs.declared.ruling.Ruling.{Ruling}
use Rattle.resolver_model.specs.declared.ruling.Ruling.TheVariants as rulings
use Rattle.resolver_model.specs.Verdicts.{ruling}
use Rattle.resolver_fetch_scan.specs.FetcherLaws.{AllAre, IsAmong, IsOnce}
use Rattle.resolver_fetch_scan.proofs.EligibleLaws.{eligible_means}
use Rattle.resolver_fetch_scan.proofs.OneOf.{IsOneOf, among-filter, found-among}
use Rattle.resolver_fetch_scan.proofs.Trails.{IsFine, IsFineAfter, IsFineTurn, IsSoundAt, begins-fine, grows-once, takes-fine}
use Rattle.resolver_model_peer.specs.Parties.{Parties, orders_of}
use Rattle.resolver_model_peer.specs.PeerRows.{Row, Phase, Waits, Asked, Judged}
use Rattle.resolver_model_peer.specs.declared.named.Serve.{Serve}
use Rattle.resolver_model.specs.declared.status.Status.{Status}
use Rattle.resolver_model.specs.declared.status.Status.TheVariants.{Running, Ended, Failed}
use Rattle.resolver_model_peer.specs.Peer.{Machine, Open, Done, Effect, Ask, Deliver, Cancel, Produce, Reply, Credit, Block, Item, Event, Fetch, Retain, PeerSet, Blocked, ActiveDue, PendingDue, Verdict, Served, Net, End, Input, Happens, Answers, quiet, and_then, snapshot, turned, with_sent, cancel_in, cancels, closed, served_by, row_of, fetch, fetch_one, times_out, account_for, serves_rest, ruled, ruled_in, ruled_at, verdict_on, responds, misses, answered, receive, does, is_due, wake_up, scanned_if, scanned, step_of, answer_of, step_running, step_in, step, opening, has_subscribers, pruned, is_newer}
use Rattle.std.specs.List.{cons_option}
use Rattle.resolver_model_peer.specs.PeerRun.{Fed, effects_of, after}
use Rattle.resolver_model_peer.specs.PeerLaws.{IsWellAsked, AsksEligible}
use Rattle.resolver_model_peer.proofs.WaitingRows.{row-of}
use Rattle.resolver_model_peer.proofs.Told.{all-append, over-none}

module _ {K S P : Type 0} (a : Parties K S P) where
  -- no pair was tried twice
  abbrev pub IsTrail : ℕ → List (Try K P) → Type 0
  IsTrail moment trail = IsOnce (orders_of a) trail

  -- and a word is expected only on a peer that is left
  abbrev pub IsSound : Machine K S P → Type 0
  IsSound m = IsFine (orders_of a) (snapshot a m) IsTrail m.scan

  abbrev pub IsSoundTurn : Machine K S P → Result (Turn K P) Fault → Type 0
  IsSoundTurn m r = IsFineAfter (orders_of a) (snapshot a m) IsTrail r

  grows : (s : Snapshot K P) (scan : Scan K P) (w : K × Waiting P) → next (orders_of a) s scan ≡ Some w → (peer : P) (reason : Reason) → IsOneOf peer (left (orders_of a) s scan.trail w)
      → IsOnce (orders_of a) scan.trail → IsOnce (orders_of a) (scan.trail ++ record { key = w.0; peer = peer; reason = reason } ∷ [])
  grows s scan w is peer reason found once = grows-once (orders_of a) s scan.trail w peer reason found once

  -- the machine that takes a turn
  sent-sound : (m : Machine K S P) (t : Turn K P) (sent : Option (ℕ × Request K P)) (expects : Option (Expected P)) → (sent ≡ None) ⊎ (expects ≡ None)
      → IsSoundAt (orders_of a) (snapshot a m) t.scan expects
      → IsSoundAt (orders_of a) (snapshot a (record (with_sent a m sent) { scan = t.scan; last_id = t.last_id; waiter = t.waiter })) t.scan expects
  sent-sound m t sent None over here = tt
  sent-sound m t None (Some Mode) over here = tt
  sent-sound m t None (Some ByWeight) over here = tt
  sent-sound m t None (Some ByPlace) over here = tt
  sent-sound m t None (Some (Checking peer)) over here = here
  sent-sound m t None (Some (FirstId peer)) over here = here
  sent-sound m t None (Some (Sending peer id)) over here = here
  sent-sound m t (Some r) (Some e) (inl none) here = absurd cc
  sent-sound m t (Some r) (Some e) (inr none) here = absurd cc

  turned-sound : (m : Machine K S P) (t : Turn K P) → IsFineTurn (orders_of a) (snapshot a m) IsTrail t → IsSound (turned a m t)
  turned-sound m t fine = (fine.0.0, sent-sound m t t.sent t.scan.expects fine.1 fine.0.1)

  -- what a sound machine asks
  question-well : (m : Machine K S P) (w : Option (K × Waiting P)) → next (orders_of a) (snapshot a m) m.scan ≡ w
      → (expected : Option (Expected P)) → IsSoundAt (orders_of a) (snapshot a m) m.scan expected
      → AllAre (IsWellAsked a m) (option_to_list (option_map Ask (question_of (orders_of a) (snapshot a m) m.scan w expected)))
  question-well m None is expected here = tt
  question-well m (Some w) is None here = tt
  question-well m (Some w) is (Some Mode) here = (tt, tt)
  question-well m (Some w) is (Some ByWeight) here = (tt, tt)
  question-well m (Some w) is (Some ByPlace) here = (tt, tt)
  question-well m (Some w) is (Some (Checking peer)) here = (tt, tt)
  question-well m (Some w) is (Some (FirstId peer)) here = (tt, tt)
  question-well m (Some w) is (Some (Sending peer id)) here =
      let in_waiting : IsAmong w (snapshot a m).waiting = found-among (can_be_tried (orders_of a) (snapshot a m) m.scan) (snapshot a m).waiting w is in
      let found : IsOneOf peer (left (orders_of a) (snapshot a m) m.scan.trail w) = here w is in
      let among : IsAmong (peer, found.0) (eligible (orders_of a) (snapshot a m) w.1.targets) = among-filter _ (peer, found.0) (eligible (orders_of a) (snapshot a m) w.1.targets) found.1 in
      let waits = row-of a m.rows w in_waiting in
      let may : MayBeAsked (orders_of a) (snapshot a m) w.1.targets peer = (eligible_means (orders_of a)).alone (snapshot a m) w.1.targets peer found.0 among in
      ((waits.0, waits.1, waits.2, subst (λ targets. MayBeAsked (orders_of a) (snapshot a m) targets peer) (sym waits.3) may), tt)

module _ {K S P : Type 0} where
  abbrev pub IsNoQuestion : Effect K S P → Type 0
  IsNoQuestion (Ask question) = ⊥
  IsNoQuestion effect = ⊤

  -- the scan is as it was, and nothing is asked
  abbrev pub IsCalm : Machine K S P → Done K S P → Type 0
  IsCalm m d = (d.machine.scan ≡ m.scan) × AllAre IsNoQuestion d.effects

  abbrev pub IsCalmIfDone : Machine K S P → Option (Done K S P) → Type 0
  IsCalmIfDone m None = ⊤
  IsCalmIfDone m (Some d) = IsCalm m d

  cancels-ask : (rows : List (K × Row K S P)) → AllAre IsNoQuestion (cancels rows)
  cancels-ask [] = tt
  cancels-ask (row ∷ rows) = at row.1.phase (cancels-ask rows)
    where
      at : (phase : Phase K P) → AllAre IsNoQuestion (cancels rows) → AllAre IsNoQuestion (cons_option (cancel_in phase) (cancels rows))
      at (Waits place) rest = rest
      at (Asked id request) rest = rest
      at (Judged j) rest = (tt, rest)

  calm-if : (m : Machine K S P) (b : Bool) (d : Done K S P) → IsCalm m d → IsCalmIfDone m (if b then Some d else None)
  calm-if m true d calm = calm
  calm-if m false d calm = tt

module _ {K S P : Type 0} (a : Parties K S P) where
  fetch_one-calm : (m : Machine K S P) (now : ℕ) (item : Item K S P) (row : Option (Row K S P)) → (fetch_one a m now item row).scan ≡ m.scan
  fetch_one-calm m now item None = refl
  fetch_one-calm m now item (Some row) = refl

  fetch-calm : (m : Machine K S P) (now : ℕ) (items : List (Item K S P)) → (fetch a m now items).scan ≡ m.scan
  fetch-calm m now [] = refl
  fetch-calm m now (item ∷ items) = fetch-calm (fetch_one a m now item (row_of a m item.key)) now items ∙ fetch_one-calm m now item (row_of a m item.key)

  peers-calm : (m n : Machine K S P) (b : Bool) → n.scan ≡ m.scan → (if b then n else m).scan ≡ m.scan
  peers-calm m n true e = e
  peers-calm m n false e = refl

  times_out-calm : (m : Machine K S P) (now : ℕ) (r : Option (ℕ × Request K P)) → (times_out a m now r).scan ≡ m.scan
  times_out-calm m now None = refl
  times_out-calm m now (Some r) = refl

  misses-calm : (m : Machine K S P) (now : ℕ) (r : Option (Request K P)) → (misses a m now r).scan ≡ m.scan
  misses-calm m now None = refl
  misses-calm m now (Some r) = refl

  served-calm : (m : Machine K S P) (serve : ℕ) (bytes : Option (List ℕ)) (s : Option (Serve P)) → IsCalm m (served_by m serve bytes s)
  served-calm m serve bytes None = (refl, tt)
  served-calm m serve bytes (Some s) = (refl, (tt, tt))

  account-calm : (m : Machine K S P) (h : Open K S P) (accepted : Bool) (outcome : Option Outcome) → IsCalm m (account_for a m h accepted outcome)
  account-calm m h true outcome = (refl, tt)
  account-calm m h false None = (refl, tt)
  account-calm m h false (Some (Resolved resolution)) = (refl, (tt, tt))
  account-calm m h false (Some Invalid) = (refl, (tt, tt))
  account-calm m h false (Some Unresolved) = (refl, tt)
  account-calm m h false (Some Ignored) = (refl, tt)

  rest-calm : (m : Machine K S P) (h : Open K S P) (value : List ℕ) (again : Bool) (rest : List (S × ℕ)) → IsCalmIfDone m (serves_rest a m h value again rest)
  rest-calm m h value again [] = (refl, tt)
  rest-calm m h value again (s ∷ rest) = calm-if m (nat_lt m.next_delivery (2 ^ 64)) _ (refl, (tt, tt))

  ruled-calm : (m : Machine K S P) (now : ℕ) (h : Open K S P) (row : Row K S P) (value : List ℕ) (rule : Ruling) → IsCalmIfDone m (ruled a m now h row value rule)
  ruled-calm m now h row value (rulings.Serve again) = rest-calm m h value again (without a.subscriber h.handed.subscribers row.subscribers)
  ruled-calm m now h row value rulings.Retry = (refl, tt)
  ruled-calm m now h row value rulings.Retire = (refl, tt)

  either-calm : (m : Machine K S P) (b : Bool) (o : Option (Done K S P)) → IsCalmIfDone m o → IsCalmIfDone m (if b then o else Some (quiet m))
  either-calm m true o calm = calm
  either-calm m false o calm = (refl, tt)

  in-calm : (m : Machine K S P) (now number : ℕ) (h : Open K S P) (outcome : Option Outcome) (row : Row K S P) (phase : Phase K P) → IsCalmIfDone m (ruled_in a m now number h outcome row phase)
  in-calm m now number h outcome row (Waits place) = (refl, tt)
  in-calm m now number h outcome row (Asked id request) = (refl, tt)
  in-calm m now number h outcome row (Judged j) = either-calm m (number == j.number) (ruled a m now h row j.value (ruling h.accepted outcome)) (ruled-calm m now h row j.value (ruling h.accepted outcome))

  at-calm : (m : Machine K S P) (now number : ℕ) (h : Open K S P) (outcome : Option Outcome) (row : Option (Row K S P)) → IsCalmIfDone m (ruled_at a m now number h outcome row)
  at-calm m now number h outcome None = (refl, tt)
  at-calm m now number h outcome (Some row) = in-calm m now number h outcome row row.phase

  and-calm : (m : Machine K S P) (d : Done K S P) (o : Option (Done K S P)) → IsCalm m d → IsCalmIfDone d.machine o
      → IsCalmIfDone m (option_map (λ e. record { machine = e.machine; effects = d.effects ++ e.effects }) o)
  and-calm m d None calm then_calm = tt
  and-calm m d (Some e) calm then_calm = (then_calm.0 ∙ calm.0, all-append IsNoQuestion d.effects e.effects calm.1 then_calm.1)

  verdict-calm : (m : Machine K S P) (now number : ℕ) (outcome : Option Outcome) (o : Option (Open K S P)) → IsCalmIfDone m (verdict_on a m now number outcome o)
  verdict-calm m now number outcome None = (refl, tt)
  verdict-calm m now number outcome (Some h) =
      let d : Done K S P = account_for a (closed m number) h h.accepted outcome in
      and-calm m d (ruled_at a d.machine now number h outcome (row_of a d.machine h.handed.key)) (account-calm (closed m number) h h.accepted outcome)
      (at-calm d.machine now number h outcome (row_of a d.machine h.handed.key))

  responds-calm : (m : Machine K S P) (now : ℕ) (value : List ℕ) (r : Option (Request K P)) (row : Option (Row K S P)) → IsCalmIfDone m (responds a m now value r row)
  responds-calm m now value None row = (refl, tt)
  responds-calm m now value (Some q) None = (refl, tt)
  responds-calm m now value (Some q) (Some row) = calm-if m (nat_lt m.next_delivery (2 ^ 64)) _ (refl, (tt, tt))

  receive-calm : (m : Machine K S P) (now : ℕ) (peer : P) (id : ℕ) (payload : Payload K) → IsCalmIfDone m (receive a m now peer id payload)
  receive-calm m now peer id (payloads.Request key) = calm-if m (nat_lt m.next_serve (2 ^ 64)) _ (refl, (tt, tt))
  receive-calm m now peer id (payloads.Response value) = responds-calm m now value (answered a m peer id) (option_and_then (λ r. row_of a m r.key) (answered a m peer id))
  receive-calm m now peer id payloads.Error = (misses-calm m now (answered a m peer id), tt)

  -- an event leaves the scan, and asks nothing by itself
  pub does-calm : (m : Machine K S P) (now : ℕ) (event : Event K S P) → IsCalmIfDone m (does a m now event)
  does-calm m now (Fetch items) = (fetch-calm m now items, tt)
  does-calm m now (Retain keep) = (refl, cancels-ask (filter (λ r. not (has_subscribers r)) (map (pruned keep) m.rows)))
  does-calm m now (PeerSet index peers) = (peers-calm m _ (is_newer m.last_index index) refl, tt)
  does-calm m now (Blocked peers) = (refl, tt)
  does-calm m now ActiveDue = (times_out-calm m now (overdue (snapshot a m).asked now), tt)
  does-calm m now PendingDue = (refl, tt)
  does-calm m now (Verdict number outcome) = verdict-calm m now number outcome (lookup (λ n. number == n) m.deliveries)
  does-calm m now (Served serve bytes) = served-calm m serve bytes (lookup (λ n. serve == n) m.serves)
  does-calm m now (Net peer None) = (refl, tt)
  does-calm m now (Net peer (Some message)) = receive-calm m now peer message.id message.payload
  does-calm m now End = (refl, cancels-ask m.rows)

  no-question : (n : Machine K S P) (effects : List (Effect K S P)) → AllAre IsNoQuestion effects → AllAre (IsWellAsked a n) effects
  no-question n [] none = tt
  no-question n (Ask q ∷ effects) none = absurd none.0
  no-question n (Deliver number handed value ∷ effects) none = (tt, no-question n effects none.1)
  no-question n (Cancel number ∷ effects) none = (tt, no-question n effects none.1)
  no-question n (Produce serve key ∷ effects) none = (tt, no-question n effects none.1)
  no-question n (Reply peer message priority ∷ effects) none = (tt, no-question n effects none.1)
  no-question n (Credit response source ∷ effects) none = (tt, no-question n effects none.1)
  no-question n (Block response peer ∷ effects) none = (tt, no-question n effects none.1)

  -- a sound machine, and what it asked
  abbrev pub IsFineAnswer : Result (List (Effect K S P)) Fault × Machine K S P → Type 0
  IsFineAnswer answer = IsSound a answer.1 × AllAre (IsWellAsked a answer.1) (effects_of answer.0)

  scanned-fine : (b : Bool) (m : Machine K S P) (now : ℕ) → IsSound a m → IsSound a (scanned_if a b m now).machine × AllAre (IsWellAsked a (scanned_if a b m now).machine) (scanned_if a b m now).effects
  scanned-fine true m now here =
      let n : Machine K S P = turned a m (begins (orders_of a) (snapshot a m) now) in
      let sound : IsSound a n = turned-sound a m (begins (orders_of a) (snapshot a m) now) (begins-fine (orders_of a) (snapshot a m) (IsTrail a) (grows a (snapshot a m)) now tt) in
      (sound, question-well a n (next (orders_of a) (snapshot a n) n.scan) refl n.scan.expects sound.1)
  scanned-fine false m now here = (here, tt)

  happened-fine : (o : Option (Done K S P)) (m : Machine K S P) (now : ℕ) → IsSound a m → ((d : Done K S P) → o ≡ Some d → IsSound a d.machine × AllAre IsNoQuestion d.effects)
      → IsFineAnswer (step_of a (option_and_then (λ d. and_then d (λ n. Some (scanned a n now))) o) m)
  happened-fine None m now sound here = (sound, tt)
  happened-fine (Some d) m now sound here =
      let calm : _ = here d refl in
      let b : Bool = is_due now (wake_up a d.machine) in
      let fine : _ = scanned-fine b d.machine now calm.0 in
      (fine.0, all-append (IsWellAsked a (scanned_if a b d.machine now).machine) d.effects (scanned_if a b d.machine now).effects (no-question (scanned_if a b d.machine now).machine d.effects calm.1) fine.1)

  -- nothing is expected
  over-sound : (m n : Machine K S P) → IsSound a m → is_over m.scan ≡ true → n.scan ≡ m.scan → IsSound a n
  over-sound m n sound is same =
      let none : n.scan.expects ≡ None = ap (λ scan. scan.expects) same ∙ over-none m.scan.expects is in
      let Q : Option (Expected P) → Type 0 = λ e. IsSoundAt (orders_of a) (snapshot a n) n.scan e in
      (subst (λ (scan : Scan K P). IsOnce (orders_of a) scan.trail) (sym same) sound.0, subst Q (sym none) tt)

  calm-fine : (m : Machine K S P) → IsSound a m → is_over m.scan ≡ true → (o : Option (Done K S P)) → IsCalmIfDone m o → (d : Done K S P) → o ≡ Some d → IsSound a d.machine × AllAre IsNoQuestion d.effects
  calm-fine m sound is None calm d e = cc
  calm-fine m sound is (Some c) calm d e =
      let same : c ≡ d = cc in
      let Q : Done K S P → Type 0 = λ x. IsSound a x.machine × AllAre IsNoQuestion x.effects in
      subst Q same (over-sound m c.machine sound is calm.0, calm.1)

  answered-fine : (t : Result (Turn K P) Fault) (m : Machine K S P) → IsSound a m → IsSoundTurn a m t → IsFineAnswer (answer_of a t m)
  answered-fine (Err fault) m sound here = (sound, tt)
  answered-fine (Ok t) m sound here =
      let n : Machine K S P = turned a m t in
      let fine : IsSound a n = turned-sound a m t here in
      (fine, question-well a n (next (orders_of a) (snapshot a n) n.scan) refl n.scan.expects fine.1)

  running-fine : (over : Bool) (m : Machine K S P) (now : ℕ) (input : Input K S P) → IsSound a m → is_over m.scan ≡ over → IsFineAnswer (step_running a over m now input)
  running-fine true m now (Happens event) sound is =
      let begun : Machine K S P = record m { moment = now } in
      happened-fine (does a begun now event) m now sound (calm-fine begun sound is (does a begun now event) (does-calm begun now event))
  running-fine false m now (Happens event) sound is = (sound, tt)
  running-fine over m now (Answers answer) sound is =
      answered-fine (takes (orders_of a) (snapshot a m) m.scan answer) m sound
      (takes-fine (orders_of a) (snapshot a m) (IsTrail a) (grows a (snapshot a m)) m.scan sound answer)

  in-fine : (status : Status) (m : Machine K S P) (now : ℕ) (input : Input K S P) → IsSound a m → IsFineAnswer (step_in a status m now input)
  in-fine Failed m now input sound = (sound, tt)
  in-fine Ended m now input sound = (sound, tt)
  in-fine Running m now input sound = running-fine (is_over m.scan) m now input sound refl

  pub step-fine : (m : Machine K S P) (now : ℕ) (input : Input K S P) → IsSound a m → IsFineAnswer (step a m now input)
  step-fine m now input sound = in-fine m.status m now input sound

  pub after-sound : (m : Machine K S P) (inputs : List (Fed K S P)) → IsSound a m → IsSound a (after a m inputs)
  after-sound m [] sound = sound
  after-sound m (i ∷ is) sound = after-sound (step a m i.now i.input).1 is (step-fine m i.now i.input sound).0

  pub run-sound : (configuration : _) (replies_first : Bool) (inputs : List (Fed K S P)) → IsSound a (after a (opening configuration replies_first) inputs)
  run-sound configuration replies_first inputs = after-sound (opening configuration replies_first) inputs (tt, tt)

  -- each request goes to a peer that is eligible for its key
  pub asks_eligible : AsksEligible a
  asks_eligible configuration replies_first inputs now input =
      (step-fine (after a (opening configuration replies_first) inputs) now input (run-sound configuration replies_first inputs)).1
