-- In each run of the peer machine, credits and blocks name the peer that sent the response.
use Rattle.std.proofs.Common.{◌≡◌, refl, ap, sym, ◌∙◌, subst, ℕ, ◌+◌, ◌<◌, ◌^◌, eq-eqb, ne_eqb, Bool, true, false, cond, not, ◌==◌, List, [], ◌∷◌, ◌++◌, map, filter, Option, None, Some, IfSome, Result, Ok, Err, if◌then◌else◌, append-nil, arith}
use Rattle.std.specs.Prelude.{nat_lt, option_and_then, option_to_list, ⊤}
use Rattle.std.specs.Option.{option_map}
use Rattle.std.specs.List.{cons_option}
use Rattle.std.specs.Map.{lookup}
use Rattle.std.specs.Ordering.{nat_cmp, is_eq}
use Rattle.resolver_base.specs.declared.fault.Fault.{Fault}
use Rattle.resolver_base.specs.declared.fault.Fault.TheVariants as faults
use Rattle.resolver_types.specs.declared.outcome.Outcome.{Outcome}
use Rattle.resolver_types.specs.declared.outcome.Outcome.TheVariants.{Invalid, Resolved, Unresolved, Ignored}
use Rattle.resolver_types.specs.Subscribers.{without}
use Rattle.resolver_wire.specs.declared.wire.Message.{Message}
use Rattle.resolver_wire.specs.declared.wire.Payload.{Payload}
use Rattle.resolver_wire.specs.declared.wire.Payload.TheVariants as payloads
use Rattle.resolver_fetch_requests.specs.declared.requests.request.Request.{Request}
use Rattle.resolver_fetch_requests.specs.Requests.{overdue, if_of}
use Rattle.resolver_fetch_requests.specs.Requests as requests
use Rattle.resolver_fetch_scan.specs.FetcherLaws.{AllAre}
use Rattle.resolver_fetch_scan.specs.declared.scan.Answer.{Answer}
use Rattle.resolver_fetch_scan.specs.declared.scan.Ask.{Ask as Question}
use Rattle.resolver_fetch_scan.specs.Scan as scans
use Rattle.resolver_fetch_scan.specs.Scan.{Turn, is_over}
use Rattle.resolver_model.specs.declared.ruling.Ruling.{Ruling}
use Rattle.resolver_model.specs.declared.ruling.Ruling.TheVariants as rulings
use Rattle.resolver_model.specs.Verdicts.{ruling}
use Rattle.resolver_model_peer.specs.Parties.{Parties, orders_of}
use Rattle.resolver_model_peer.specs.PeerRows.{Row, Phase, Waits, Asked, Judged, Judging}
use Rattle.resolver_model_peer.specs.declared.named.Serve.{Serve}
use Rattle.resolver_model.specs.declared.status.Status.{Status}
use Rattle.resolver_model.specs.declared.status.Status.TheVariants.{Running, Ended, Failed}
use Rattle.resolver_model_peer.specs.Peer.{Machine, Open, Done, Effect, Ask, Deliver, Cancel, Produce, Reply, Credit, Block, Item, Event, Fetch, Retain, PeerSet, Blocked, ActiveDue, PendingDue, Verdict, Served, Net, End, Input, Happens, Answers, quiet, and_then, snapshot, cancel_in, cancels, pruned, has_subscribers, closed, end, served_by, row_of, fetch_one, fetch, peer_set, is_newer, times_out, hand_out, account_for, serves_rest, ruled, ruled_in, ruled_at, verdict_on, verdict, freed, responds, misses, answered, receive, does, with_sent, turned, question, scanned_if, scanned, is_due, wake_up, step_of, answer_of, step_running, step_in, step, retry, without_row}
use Rattle.resolver_model_peer.specs.PeerRun.{Fed}
use Rattle.resolver_model_peer.specs.PeerSteps.{Runs}
use Rattle.resolver_model_peer.specs.PeerLaws.{brought, senders_in, IsFrom, PaysSender, PaySenders, IsPaidToSenders}
use Rattle.resolver_model.specs.Lawful.{Each}
use Rattle.resolver_model.proofs.Deliveries.{Each-imply, Each-push, Each-found, Each-remove_entry}
use Rattle.resolver_model_peer.proofs.Changed.{Each-inserted}
use Rattle.resolver_model_peer.proofs.Told.{all-append}

lookup-front : {K X : Type 0} (test : K → Bool) (es fs : List (K × X)) (x : X) → lookup test es ≡ Some x → lookup test (es ++ fs) ≡ Some x
lookup-front test [] fs x found = cc
lookup-front test (e ∷ es) fs x found = at (test e.0) found (lookup-front test es fs x)
  where
    at : (b : Bool) → cond b (Some e.1) (lookup test es) ≡ Some x → (lookup test es ≡ Some x → lookup test (es ++ fs) ≡ Some x) → cond b (Some e.1) (lookup test (es ++ fs)) ≡ Some x
    at true found rest = found
    at false found rest = rest found

lookup-last : {X : Type 0} (n : ℕ) (es : List (ℕ × X)) (x : X) → Each (λ e. e.0 < n) es → lookup (λ r. n == r) (es ++ (n, x) ∷ []) ≡ Some x
lookup-last n [] x below = rw (eq-eqb n n refl) refl
lookup-last n (e ∷ es) x below = rw (ne_eqb n e.0 (omega (arith, below.0))) (lookup-last n es x below.1)

module _ {K S P : Type 0} where
  brought-append : (peer : P) (xs ys : List (Effect K S P)) → brought peer ys ≡ [] → brought peer (xs ++ ys) ≡ brought peer xs
  brought-append peer [] ys none = none
  brought-append peer (Ask q ∷ xs) ys none = brought-append peer xs ys none
  brought-append peer (Deliver number handed value ∷ xs) ys none = ap (λ rest. (number, peer) ∷ rest) (brought-append peer xs ys none)
  brought-append peer (Cancel number ∷ xs) ys none = brought-append peer xs ys none
  brought-append peer (Produce serve key ∷ xs) ys none = brought-append peer xs ys none
  brought-append peer (Reply to message priority ∷ xs) ys none = brought-append peer xs ys none
  brought-append peer (Credit response source ∷ xs) ys none = brought-append peer xs ys none
  brought-append peer (Block response to ∷ xs) ys none = brought-append peer xs ys none

  abbrev BringsNone : List (Effect K S P) → Type 0
  BringsNone effects = (peer : P) → brought peer effects ≡ []

  senders-append : (event : Event K S P) (xs ys : List (Effect K S P)) → BringsNone ys → senders_in (Happens event) (xs ++ ys) ≡ senders_in (Happens event) xs
  senders-append (Fetch items) xs ys none = refl
  senders-append (Retain keep) xs ys none = refl
  senders-append (PeerSet index peers) xs ys none = refl
  senders-append (Blocked peers) xs ys none = refl
  senders-append ActiveDue xs ys none = refl
  senders-append PendingDue xs ys none = refl
  senders-append (Verdict number outcome) xs ys none = refl
  senders-append (Served serve bytes) xs ys none = refl
  senders-append (Net peer message) xs ys none = brought-append peer xs ys (none peer)
  senders-append End xs ys none = refl

module _ {K S P : Type 0} (a : Parties K S P) where
  abbrev IsSentBy : List (ℕ × P) → ℕ × Open K S P → Type 0
  IsSentBy senders d = IsFrom a senders d.1.handed.response d.1.source.peer

  -- The sender of each open delivery's response is known, and no response to come is among them.
  record Knows (m : Machine K S P) (senders : List (ℕ × P)) : Type 0 where
    sent : Each (IsSentBy senders) m.deliveries
    below : Each (λ e. e.0 < m.next_delivery) senders

  -- after a part of a step at this input
  abbrev Pays : Input K S P → List (ℕ × P) → Done K S P → Type 0
  Pays input senders d = Knows d.machine (senders ++ senders_in input d.effects) × AllAre (PaysSender a senders) d.effects

  from-more : (senders more : List (ℕ × P)) (response : ℕ) (peer : P) → IsFrom a senders response peer → IsFrom a (senders ++ more) response peer
  from-more senders more response peer from = (from.0, lookup-front (λ r. response == r) senders more from.0 from.1, from.2)

  -- where no delivery is new
  still : (input : Input K S P) (senders : List (ℕ × P)) (m k : Machine K S P) (effects : List (Effect K S P)) → Knows m senders → k.deliveries ≡ m.deliveries → k.next_delivery ≡ m.next_delivery
      → senders_in input effects ≡ [] → AllAre (PaysSender a senders) effects → Pays input senders (record { machine = k; effects = effects })
  still input senders m k effects knows same next none pays = (
    subst (Knows k) (sym (ap (λ more. senders ++ more) none ∙ append-nil senders)) (record {
      sent = subst (Each (IsSentBy senders)) (sym same) knows.sent;
      below = subst (λ n. Each (λ (e : ℕ × P). e.0 < n) senders) (sym next) knows.below;
    }),
    pays,
  )

  cancels-pay : (senders : List (ℕ × P)) (rows : List (K × Row K S P)) → AllAre (PaysSender a senders) (cancels rows)
  cancels-pay senders [] = tt
  cancels-pay senders (r ∷ rs) = at r.1.phase (cancels-pay senders rs)
    where
      at : (p : Phase K P) → AllAre (PaysSender a senders) (cancels rs) → AllAre (PaysSender a senders) (cons_option (cancel_in p) (cancels rs))
      at (Waits place) rest = rest
      at (Asked id request) rest = rest
      at (Judged j) rest = (tt, rest)

  fetch_one-still : (m : Machine K S P) (now : ℕ) (item : Item K S P) (row : Option (Row K S P)) → ((fetch_one a m now item row).deliveries ≡ m.deliveries) × ((fetch_one a m now item row).next_delivery ≡ m.next_delivery)
  fetch_one-still m now item None = (refl, refl)
  fetch_one-still m now item (Some row) = (refl, refl)

  fetch-still : (m : Machine K S P) (now : ℕ) (items : List (Item K S P)) → ((fetch a m now items).deliveries ≡ m.deliveries) × ((fetch a m now items).next_delivery ≡ m.next_delivery)
  fetch-still m now [] = (refl, refl)
  fetch-still m now (item ∷ items) =
      let one : _ = fetch_one-still m now item (row_of a m item.key) in
      let rest : _ = fetch-still (fetch_one a m now item (row_of a m item.key)) now items in
      (rest.0 ∙ one.0, rest.1 ∙ one.1)

  -- what is handed out for a response with this sender
  handed-pays : (input : Input K S P) (senders : List (ℕ × P)) (m : Machine K S P) (key : K) (subscribers : List (S × ℕ)) (j : Judging P) → j.number ≡ m.next_delivery
      → Each (IsSentBy (senders ++ senders_in input (Deliver j.number (record { response = j.response; key = key; subscribers = subscribers }) j.value ∷ []))) m.deliveries
      → IsFrom a (senders ++ senders_in input (Deliver j.number (record { response = j.response; key = key; subscribers = subscribers }) j.value ∷ [])) j.response j.source.peer
      → Each (λ e. e.0 < j.number + 1) (senders ++ senders_in input (Deliver j.number (record { response = j.response; key = key; subscribers = subscribers }) j.value ∷ []))
      → IfSome (hand_out a m key subscribers j) (Pays input senders)
  handed-pays input senders m key subscribers j is sent from below = at (nat_lt j.number (2 ^ 64)) _
      (record { sent = Each-inserted nat_cmp (IsSentBy _) m.deliveries j.number _ sent (λ q. from); below = below }, (tt, tt))
    where
      at : (b : Bool) (d : Done K S P) → Pays input senders d → IfSome (if b then Some d else None) (Pays input senders)
      at true d pays = pays
      at false d pays = tt

  each-later : (n : ℕ) (senders : List (ℕ × P)) → Each (λ e. e.0 < n) senders → Each (λ e. e.0 < n + 1) senders
  each-later n senders below = Each-imply (λ e. e.0 < n) (λ e. e.0 < n + 1) (λ e less. omega (arith, less)) senders below

  -- Verdicts
  module _ (now number : ℕ) (outcome : Option Outcome) (senders : List (ℕ × P)) (m : Machine K S P) (knows : Knows m senders) (h : Open K S P) (from : IsFrom a senders h.handed.response h.source.peer) where
    abbrev PaysIf : Option (Done K S P) → Type 0
    PaysIf o = IfSome o (Pays (Happens (Verdict number outcome)) senders)

    quietly : (k : Machine K S P) → k.deliveries ≡ m.deliveries → k.next_delivery ≡ m.next_delivery → PaysIf (Some (quiet k))
    quietly k same next = still (Happens (Verdict number outcome)) senders m k [] knows same next refl tt

    rest-pays : (value : List ℕ) (again : Bool) (rest : List (S × ℕ)) → PaysIf (serves_rest a m h value again rest)
    rest-pays value again [] = quietly (without_row a m h.handed.key) refl refl
    rest-pays value again (s ∷ rest) =
        handed-pays (Happens (Verdict number outcome)) senders m h.handed.key (s ∷ rest) _ refl
        (subst (λ all. Each (IsSentBy all) m.deliveries) (sym (append-nil senders)) knows.sent)
        (subst (λ all. IsFrom a all h.handed.response h.source.peer) (sym (append-nil senders)) from)
        (subst (λ all. Each (λ (e : ℕ × P). e.0 < m.next_delivery + 1) all) (sym (append-nil senders)) (each-later m.next_delivery senders knows.below))

    ruled-pays : (row : Row K S P) (value : List ℕ) (rule : Ruling) → PaysIf (ruled a m now h row value rule)
    ruled-pays row value (rulings.Serve again) = rest-pays value again (without a.subscriber h.handed.subscribers row.subscribers)
    ruled-pays row value rulings.Retry = quietly (retry a m now h.handed.key) refl refl
    ruled-pays row value rulings.Retire = quietly (without_row a m h.handed.key) refl refl

    either-pays : (b : Bool) (o : Option (Done K S P)) → PaysIf o → PaysIf (if b then o else Some (quiet m))
    either-pays true o pays = pays
    either-pays false o pays = quietly m refl refl

    in-pays : (row : Row K S P) (p : Phase K P) → PaysIf (ruled_in a m now number h outcome row p)
    in-pays row (Waits place) = quietly m refl refl
    in-pays row (Asked id request) = quietly m refl refl
    in-pays row (Judged j) = either-pays (number == j.number) (ruled a m now h row j.value (ruling h.accepted outcome)) (ruled-pays row j.value (ruling h.accepted outcome))

    at-pays : (row : Option (Row K S P)) → PaysIf (ruled_at a m now number h outcome row)
    at-pays None = quietly m refl refl
    at-pays (Some row) = in-pays row row.phase

  -- what is earned first
  account-pays : (senders : List (ℕ × P)) (m : Machine K S P) (h : Open K S P) (accepted : Bool) (outcome : Option Outcome) → Knows m senders → IsFrom a senders h.handed.response h.source.peer
      → Knows (account_for a m h accepted outcome).machine senders × AllAre (PaysSender a senders) (account_for a m h accepted outcome).effects
  account-pays senders m h true outcome knows from = (knows, tt)
  account-pays senders m h false None knows from = (knows, tt)
  account-pays senders m h false (Some (Resolved resolution)) knows from = (record { sent = knows.sent; below = knows.below }, (from, tt))
  account-pays senders m h false (Some Invalid) knows from = (knows, (from, tt))
  account-pays senders m h false (Some Unresolved) knows from = (knows, tt)
  account-pays senders m h false (Some Ignored) knows from = (knows, tt)

  verdict-pays : (senders : List (ℕ × P)) (m : Machine K S P) (now number : ℕ) (outcome : Option Outcome) → Knows m senders → IfSome (verdict a m now number outcome) (Pays (Happens (Verdict number outcome)) senders)
  verdict-pays senders m now number outcome knows = at (lookup (λ n. number == n) m.deliveries) refl
    where
      and-pays : (d : Done K S P) → AllAre (PaysSender a senders) d.effects → (o : Option (Done K S P)) → IfSome o (Pays (Happens (Verdict number outcome)) senders)
          → IfSome (option_map (λ e. record { machine = e.machine; effects = d.effects ++ e.effects }) o) (Pays (Happens (Verdict number outcome)) senders)
      and-pays d first None rest = tt
      and-pays d first (Some e) rest = (rest.0, all-append (PaysSender a senders) d.effects e.effects first rest.1)

      at : (o : Option (Open K S P)) → lookup (λ n. number == n) m.deliveries ≡ o → IfSome (verdict_on a m now number outcome o) (Pays (Happens (Verdict number outcome)) senders)
      at None found = still (Happens (Verdict number outcome)) senders m m [] knows refl refl refl tt
      at (Some h) found =
          let from : IsFrom a senders h.handed.response h.source.peer = Each-found (λ o. IsFrom a senders o.handed.response o.source.peer) (λ n. number == n) m.deliveries h knows.sent found in
          let left : Knows (closed m number) senders = record { sent = Each-remove_entry (λ n. number == n) (IsSentBy senders) m.deliveries knows.sent; below = knows.below } in
          let paid : _ = account-pays senders (closed m number) h h.accepted outcome left from in
          let d : Done K S P = account_for a (closed m number) h h.accepted outcome in
          and-pays d paid.1 (ruled_at a d.machine now number h outcome (row_of a d.machine h.handed.key)) (at-pays now number outcome senders d.machine paid.0 h from (row_of a d.machine h.handed.key))

  -- A message of a peer
  module _ (senders : List (ℕ × P)) (m : Machine K S P) (now : ℕ) (knows : Knows m senders) (peer : P) (message : Option (Message K)) where
    abbrev NetPaysIf : Option (Done K S P) → Type 0
    NetPaysIf o = IfSome o (Pays (Happens (Net peer message)) senders)

    responds-pays : (value : List ℕ) (r : Option (Request K P)) → IfSome r (λ r. is_eq (a.peer peer r.peer) ≡ true) → (row : Option (Row K S P)) → NetPaysIf (responds a m now value r row)
    responds-pays value None same row = still (Happens (Net peer message)) senders m m [] knows refl refl refl tt
    responds-pays value (Some r) same None = still (Happens (Net peer message)) senders m m [] knows refl refl refl tt
    responds-pays value (Some r) same (Some row) =
        handed-pays (Happens (Net peer message)) senders (freed m) r.key row.subscribers _ refl
        (Each-imply (IsSentBy senders) (IsSentBy (senders ++ (m.next_delivery, peer) ∷ [])) (λ d from. from-more senders ((m.next_delivery, peer) ∷ []) d.1.handed.response d.1.source.peer from) m.deliveries knows.sent)
        (peer, lookup-last m.next_delivery senders peer knows.below, same)
        (Each-push (λ e. e.0 < m.next_delivery + 1) senders (m.next_delivery, peer) (each-later m.next_delivery senders knows.below) (omega arith))

    answered-same : (id : ℕ) → IfSome (answered a m peer id) (λ r. is_eq (a.peer peer r.peer) ≡ true)
    answered-same id = at (requests.request_of (snapshot a m).asked id)
      where
        some : (r : Request K P) (b : Bool) → is_eq (a.peer peer r.peer) ≡ b → IfSome (cond b (Some r) None) (λ r. is_eq (a.peer peer r.peer) ≡ true)
        some r true is = is
        some r false is = tt

        at : (o : Option (Request K P)) → IfSome (option_and_then (if_of a.peer peer) o) (λ r. is_eq (a.peer peer r.peer) ≡ true)
        at None = tt
        at (Some r) = some r (is_eq (a.peer peer r.peer)) refl

    misses-still : (r : Option (Request K P)) → ((misses a m now r).deliveries ≡ m.deliveries) × ((misses a m now r).next_delivery ≡ m.next_delivery)
    misses-still None = (refl, refl)
    misses-still (Some r) = (refl, refl)

    net-if : (b : Bool) (d : Done K S P) → Pays (Happens (Net peer message)) senders d → NetPaysIf (if b then Some d else None)
    net-if true d pays = pays
    net-if false d pays = tt

    receive-pays : (id : ℕ) (payload : Payload K) → NetPaysIf (receive a m now peer id payload)
    receive-pays id (payloads.Request key) = net-if (nat_lt m.next_serve (2 ^ 64)) _ (still (Happens (Net peer message)) senders m _ (Produce m.next_serve key ∷ []) knows refl refl refl (tt, tt))
    receive-pays id (payloads.Response value) = responds-pays value (answered a m peer id) (answered-same id) (option_and_then (λ r. row_of a m r.key) (answered a m peer id))
    receive-pays id payloads.Error =
        let same : _ = misses-still (answered a m peer id) in
        still (Happens (Net peer message)) senders m (misses a m now (answered a m peer id)) [] knows same.0 same.1 refl tt

  times_out-still : (m : Machine K S P) (now : ℕ) (r : Option (ℕ × Request K P)) → ((times_out a m now r).deliveries ≡ m.deliveries) × ((times_out a m now r).next_delivery ≡ m.next_delivery)
  times_out-still m now None = (refl, refl)
  times_out-still m now (Some r) = (refl, refl)

  either-still : (m k : Machine K S P) (b : Bool) → (k.deliveries ≡ m.deliveries) × (k.next_delivery ≡ m.next_delivery) → ((if b then k else m).deliveries ≡ m.deliveries) × ((if b then k else m).next_delivery ≡ m.next_delivery)
  either-still m k true same = same
  either-still m k false same = (refl, refl)

  -- what a running machine does at an event
  does-pays : (senders : List (ℕ × P)) (m : Machine K S P) (now : ℕ) (event : Event K S P) → Knows m senders → IfSome (does a m now event) (Pays (Happens event) senders)
  does-pays senders m now (Fetch items) knows = let same : _ = fetch-still m now items in still (Happens (Fetch items)) senders m (fetch a m now items) [] knows same.0 same.1 refl tt
  does-pays senders m now (Retain keep) knows = still (Happens (Retain keep)) senders m _ _ knows refl refl refl (cancels-pay senders (filter (λ r. not (has_subscribers r)) (map (pruned keep) m.rows)))
  does-pays senders m now (PeerSet index peers) knows =
      let same : _ = either-still m _ (is_newer m.last_index index) (refl, refl) in still (Happens (PeerSet index peers)) senders m (peer_set a m index peers) [] knows same.0 same.1 refl tt
  does-pays senders m now (Blocked peers) knows = still (Happens (Blocked peers)) senders m _ [] knows refl refl refl tt
  does-pays senders m now ActiveDue knows =
      let same : _ = times_out-still m now (overdue (snapshot a m).asked now) in still (Happens ActiveDue) senders m (times_out a m now (overdue (snapshot a m).asked now)) [] knows same.0 same.1 refl tt
  does-pays senders m now PendingDue knows = still (Happens PendingDue) senders m m [] knows refl refl refl tt
  does-pays senders m now (Verdict number outcome) knows = verdict-pays senders m now number outcome knows
  does-pays senders m now (Served serve bytes) knows = at (lookup (λ n. serve == n) m.serves)
    where
      at : (o : Option (Serve P)) → Pays (Happens (Served serve bytes)) senders (served_by m serve bytes o)
      at None = still (Happens (Served serve bytes)) senders m m [] knows refl refl refl tt
      at (Some s) = still (Happens (Served serve bytes)) senders m (served_by m serve bytes (Some s)).machine (served_by m serve bytes (Some s)).effects knows refl refl refl (tt, tt)
  does-pays senders m now (Net peer None) knows = still (Happens (Net peer None)) senders m m [] knows refl refl refl tt
  does-pays senders m now (Net peer (Some message)) knows = receive-pays senders m now knows peer (Some message) message.id message.payload
  does-pays senders m now End knows =
      (subst (Knows (end m).machine) (sym (append-nil senders)) (record { sent = tt; below = knows.below }), cancels-pay senders m.rows)

  -- Scans pay nobody.
  asks-pay : (senders : List (ℕ × P)) (q : Option (Question K P)) → AllAre (PaysSender a senders) (option_to_list (option_map Ask q))
  asks-pay senders None = tt
  asks-pay senders (Some q) = (tt, tt)

  asks-bring : (m : Machine K S P) (q : Option (Question K P)) → BringsNone {K = K} {S = S} {P = P} (option_to_list (option_map Ask q))
  asks-bring m None peer = refl
  asks-bring m (Some q) peer = refl

  sent-knows : (senders : List (ℕ × P)) (m : Machine K S P) (t : Turn K P) → Knows m senders → Knows (turned a m t) senders
  sent-knows senders m t knows = at t.sent
    where
      at : (o : Option (ℕ × Request K P)) → Knows (record (with_sent a m o) { scan = t.scan; last_id = t.last_id; waiter = t.waiter }) senders
      at None = record { sent = knows.sent; below = knows.below }
      at (Some r) = record { sent = knows.sent; below = knows.below }

  -- what holds of a scan that begins, or doesn't
  record IsCalm (senders : List (ℕ × P)) (d : Done K S P) : Type 0 where
    knows : Knows d.machine senders
    pays : (earlier : List (ℕ × P)) → AllAre (PaysSender a earlier) d.effects
    brings : BringsNone d.effects

  scanned-calm : (b : Bool) (senders : List (ℕ × P)) (m : Machine K S P) (now : ℕ) → Knows m senders → IsCalm senders (scanned_if a b m now)
  scanned-calm true senders m now knows =
      let t : Turn K P = scans.begins (orders_of a) (snapshot a m) now in
      record { knows = sent-knows senders m t knows; pays = λ earlier. asks-pay earlier (question a (turned a m t)); brings = asks-bring m (question a (turned a m t)) }
  scanned-calm false senders m now knows = record { knows = knows; pays = λ earlier. tt; brings = λ peer. refl }

  -- Steps
  abbrev Answered : Type 0
  Answered = Result (List (Effect K S P)) Fault × Machine K S P

  -- what is known after an answer, and that it pays the senders
  abbrev SettlesAs : Input K S P → List (ℕ × P) → Machine K S P → Result (List (Effect K S P)) Fault → Type 0
  SettlesAs input senders new (Ok effects) = Knows new (senders ++ senders_in input effects) × AllAre (PaysSender a senders) effects
  SettlesAs input senders new (Err faults.Exhausted) = ⊤
  SettlesAs input senders new (Err fault) = Knows new senders

  abbrev Settles : Input K S P → List (ℕ × P) → Answered → Type 0
  Settles input senders answered = SettlesAs input senders answered.1 answered.0

  happened-settles : (event : Event K S P) (senders : List (ℕ × P)) (m : Machine K S P) (now : ℕ) (o : Option (Done K S P)) → IfSome o (Pays (Happens event) senders)
      → Settles (Happens event) senders (step_of a (option_and_then (λ d. and_then d (λ n. Some (scanned a n now))) o) m)
  happened-settles event senders m now None pays = tt
  happened-settles event senders m now (Some d) pays =
      let calm : IsCalm (senders ++ senders_in (Happens event) d.effects) (scanned a d.machine now) = scanned-calm (is_due now (wake_up a d.machine)) (senders ++ senders_in (Happens event) d.effects) d.machine now pays.0 in
      let e : Done K S P = scanned a d.machine now in
      (subst (λ more. Knows e.machine (senders ++ more)) (sym (senders-append event d.effects e.effects calm.brings)) calm.knows, all-append (PaysSender a senders) d.effects e.effects pays.1 (calm.pays senders))

  answered-settles : (answer : Answer) (senders : List (ℕ × P)) (m : Machine K S P) → Knows m senders → (r : Result (Turn K P) Fault) → Settles (Answers answer) senders (answer_of a r m)
  answered-settles answer senders m knows (Err faults.Exhausted) = tt
  answered-settles answer senders m knows (Err fault) = knows
  answered-settles answer senders m knows (Ok t) =
      (subst (Knows (turned a m t)) (sym (append-nil senders)) (sent-knows senders m t knows), asks-pay senders (question a (turned a m t)))

  running-settles : (over : Bool) (m : Machine K S P) (now : ℕ) (input : Input K S P) (senders : List (ℕ × P)) → Knows m senders → Settles input senders (step_running a over m now input)
  running-settles true m now (Happens event) senders knows =
      happened-settles event senders m now (does a (record m { moment = now }) now event) (does-pays senders (record m { moment = now }) now event (record { sent = knows.sent; below = knows.below }))
  running-settles false m now (Happens event) senders knows = knows
  running-settles over m now (Answers answer) senders knows = answered-settles answer senders m knows (scans.takes (orders_of a) (snapshot a m) m.scan answer)

  step-settles : (status : Status) (m : Machine K S P) (now : ℕ) (input : Input K S P) (senders : List (ℕ × P)) → Knows m senders → Settles input senders (step_in a status m now input)
  step-settles Failed m now input senders knows = knows
  step-settles Ended m now input senders knows = knows
  step-settles Running m now input senders knows = running-settles (is_over m.scan) m now input senders knows

  taken-settles : (senders : List (ℕ × P)) (old mid : Machine K S P) (fed : Fed K S P) (answer : Result (List (Effect K S P)) Fault) → Knows old senders → step a old fed.now fed.input ≡ (answer, mid)
      → Settles fed.input senders (answer, mid)
  taken-settles senders old mid fed answer knows is = subst (λ (x : Answered). Settles fed.input senders x) is (step-settles old.status old fed.now fed.input senders knows)

  none-paid : (senders : List (ℕ × P)) (inputs : List (Fed K S P)) (answers : List (Result (List (Effect K S P)) Fault)) → answers ≡ [] → PaySenders a senders inputs answers
  none-paid senders [] answers none = tt
  none-paid senders (fed ∷ inputs) [] none = tt
  none-paid senders (fed ∷ inputs) (answer ∷ answers) none = cc

  runs-paid : (inputs : List (Fed K S P)) (answers : List (Result (List (Effect K S P)) Fault)) (old new : Machine K S P) (senders : List (ℕ × P)) → Knows old senders → Runs a old inputs answers new
      → PaySenders a senders inputs answers
  runs-paid [] answers old new senders knows runs = tt
  runs-paid (fed ∷ inputs) [] old new senders knows runs = absurd runs
  runs-paid (fed ∷ inputs) (Ok effects ∷ answers) old new senders knows runs =
      let now : _ = taken-settles senders old runs.0 fed (Ok effects) knows runs.1 in
      (now.1, runs-paid inputs answers runs.0 new (senders ++ senders_in fed.input effects) now.0 runs.2)
  runs-paid (fed ∷ inputs) (Err faults.OutOfMemory ∷ answers) old new senders knows runs = none-paid senders inputs answers runs.2.0
  runs-paid (fed ∷ inputs) (Err faults.Exhausted ∷ answers) old new senders knows runs = none-paid senders inputs answers runs.2.0
  runs-paid (fed ∷ inputs) (Err fault ∷ answers) old new senders knows runs =
      runs-paid inputs answers runs.0 new senders (taken-settles senders old runs.0 fed (Err fault) knows runs.1) runs.2

  pub is_paid_to_senders : IsPaidToSenders a
  is_paid_to_senders old inputs answers new runs configuration priority_responses opens =
      runs-paid inputs answers old new [] (subst (λ m. Knows m []) (sym opens) (record { sent = tt; below = tt })) runs
