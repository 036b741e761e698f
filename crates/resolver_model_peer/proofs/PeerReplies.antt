-- No serve is replied to twice.
use Rattle.std.proofs.Common.{◌≡◌, refl, ap, sym, subst, ◌∙◌, ℕ, ◌+◌, ◌≤◌, ◌^◌, Bool, true, false, ◌&&◌, ◌==◌, cond, List, [], ◌∷◌, ◌++◌, length, Option, None, Some, Result, Ok, Err, filter, if◌then◌else◌, length-append, arith}
use Rattle.std.specs.Prelude.{option_map, option_and_then, nat_lt, ⊤, map}
use Rattle.std.specs.Map.{lookup, remove_entry}
use Rattle.std.specs.BTreeMap.{insert_entry}
use Rattle.std.specs.Ordering.{nat_cmp, match_ordering}
use Rattle.std.specs.declared.cmp.Ordering.{Ordering}
use Rattle.std.specs.declared.cmp.Ordering.TheVariants.{Less, Equal, Greater}
use Rattle.std.proofs.lemmas.Bool.{eqb-true}
use Rattle.std.proofs.lemmas.List.Elements.{filter-append}
use Rattle.resolver_base.specs.declared.fault.Fault.{Fault}
use Rattle.resolver_base.specs.declared.fault.Fault.TheVariants as faults
use Rattle.resolver_types.specs.declared.outcome.Outcome.{Outcome}
use Rattle.resolver_types.specs.declared.outcome.Outcome.TheVariants.{Invalid, Resolved, Unresolved, Ignored}
use Rattle.resolver_types.specs.Subscribers.{without}
use Rattle.resolver_fetch_requests.specs.declared.requests.request.Request.{Request}
use Rattle.resolver_fetch_requests.specs.Requests.{overdue}
use Rattle.resolver_wire.specs.declared.wire.Payload.{Payload}
use Rattle.resolver_wire.specs.declared.wire.Payload.TheVariants as payloads
use Rattle.resolver_fetch_scan.specs.declared.scan.Answer.{Answer}
use Rattle.resolver_fetch_scan.specs.Scan as scans
use Rattle.resolver_fetch_scan.specs.Scan.{Turn, is_over}
use Rattle.resolver_model.specs.declared.ruling.Ruling.{Ruling}
use Rattle.resolver_model.specs.declared.ruling.Ruling.TheVariants as rulings
use Rattle.resolver_model.specs.Verdicts.{ruling}
use Rattle.resolver_model_peer.specs.declared.named.Serve.{Serve}
use Rattle.resolver_model_peer.specs.Parties.{Parties, orders_of}
use Rattle.resolver_model_peer.specs.PeerRows.{Row, Phase, Waits, Asked, Judged}
use Rattle.resolver_model_peer.specs.PeerRun.{Fed, effects_of}
use Rattle.resolver_model_peer.specs.PeerSteps.{Runs}
use Rattle.resolver_model.specs.declared.status.Status.{Status}
use Rattle.resolver_model.specs.declared.status.Status.TheVariants.{Running, Ended, Failed}
use Rattle.resolver_model_peer.specs.Peer.{Machine, Open, Done, Effect, Produce, Item, Event, Fetch, Retain, PeerSet, Blocked, ActiveDue, PendingDue, Verdict, Served, Net, End, Input, Happens, Answers, account_for, and_then, answer_of, answered, closed, does, fetch, fetch_one, is_due, is_newer, misses, opening, peer_set, produce, receive, responds, row_of, ruled, ruled_at, ruled_in, scanned, scanned_if, served_by, serves_rest, snapshot, step, step_in, step_of, step_running, times_out, verdict_on, wake_up, with_sent}
use Rattle.resolver_model_peer.specs.PeerPoints.{NoSecondReply, all_served, is_running, replies_as, replies_if, served_at}
use Rattle.resolver_model_peer.proofs.EarnsOnce.{mark}
use Rattle.resolver_model_peer.proofs.PeerPoints.{replies_once}

filter-first : {X : Type 0} (test : X → Bool) (x : X) (xs : List X) → length (filter test (x ∷ xs)) ≡ mark (test x) + length (filter test xs)
filter-first test x xs = at (test x) where
  at : (b : Bool) → length (cond b (x ∷ filter test xs) (filter test xs)) ≡ mark b + length (filter test xs)
  at true = omega arith
  at false = omega arith

-- how often a serve stands among some
abbrev times : (serve : ℕ) → List ℕ → ℕ
times serve ns = length (filter (λ n. serve == n) ns)

module _ {P : Type 0} (serve : ℕ) where
  -- how often it is open
  abbrev held : List (ℕ × Serve P) → ℕ
  held es = length (filter (λ e. serve == e.0) es)

  held-removed : (n : ℕ) (x : Serve P) (es : List (ℕ × Serve P)) → lookup (λ k. n == k) es ≡ Some x → held es ≡ mark (serve == n) + held (remove_entry (λ k. n == k) es)
  held-removed n x [] found = absurd cc
  held-removed n x (e ∷ es) found = at (n == e.0) refl found (held-removed n x es) where
    at : (b : Bool) → (n == e.0) ≡ b → cond b (Some e.1) (lookup (λ k. n == k) es) ≡ Some x
        → (lookup (λ k. n == k) es ≡ Some x → held es ≡ mark (serve == n) + held (remove_entry (λ k. n == k) es))
        → held (e ∷ es) ≡ mark (serve == n) + held (cond b es (e ∷ remove_entry (λ k. n == k) es))
    at true is found rest = let same : n ≡ e.0 = eqb-true n e.0 is in filter-first (λ (e : ℕ × Serve P). serve == e.0) e es ∙ ap (λ k. mark (serve == k) + held es) (sym same)
    at false is found rest =
        let first = filter-first (λ (e : ℕ × Serve P). serve == e.0) e es in
        let then_first = filter-first (λ (e : ℕ × Serve P). serve == e.0) e (remove_entry (λ k. n == k) es) in
        let left = rest found in
        omega (arith, first, then_first, left)

  held-inserted : (n : ℕ) (x : Serve P) (es : List (ℕ × Serve P)) → held (insert_entry nat_cmp es n x) ≤ mark (serve == n) + held es
  held-inserted n x [] = let first = filter-first (λ (e : ℕ × Serve P). serve == e.0) (n, x) [] in omega (arith, first)
  held-inserted n x (e ∷ es) = at (nat_cmp n e.0) (held-inserted n x es) where
    at : (o : Ordering) → held (insert_entry nat_cmp es n x) ≤ mark (serve == n) + held es
        → held (match_ordering o ((n, x) ∷ e ∷ es) ((e.0, x) ∷ es) (e ∷ insert_entry nat_cmp es n x)) ≤ mark (serve == n) + held (e ∷ es)
    at Less rest = let first = filter-first (λ (e : ℕ × Serve P). serve == e.0) (n, x) (e ∷ es) in omega (arith, first)
    at Equal rest =
        let first = filter-first (λ (e : ℕ × Serve P). serve == e.0) (e.0, x) es in
        let was = filter-first (λ (e : ℕ × Serve P). serve == e.0) e es in
        omega (arith, first, was)
    at Greater rest =
        let first = filter-first (λ (e : ℕ × Serve P). serve == e.0) e (insert_entry nat_cmp es n x) in
        let was = filter-first (λ (e : ℕ × Serve P). serve == e.0) e es in
        omega (arith, first, was, rest)

-- of one serve
module _ {K S P : Type 0} (serve : ℕ) where
  -- It was replied to or is open, at most once, and neither where its number is to come.
  abbrev Once : (so_far : ℕ) → Machine K S P → Type 0
  Once so_far m = (so_far + held serve m.serves ≤ 1) × (m.next_serve ≤ serve → so_far + held serve m.serves ≡ 0)

  abbrev OnceIfDone : (so_far : ℕ) → Option (Done K S P) → Type 0
  OnceIfDone so_far None = ⊤
  OnceIfDone so_far (Some d) = Once so_far d.machine

  -- the serves are those of the other
  abbrev Keeps : Machine K S P → Machine K S P → Type 0
  Keeps m n = (n.serves ≡ m.serves) × (n.next_serve ≡ m.next_serve)

  abbrev KeepsIfDone : Machine K S P → Option (Done K S P) → Type 0
  KeepsIfDone m None = ⊤
  KeepsIfDone m (Some d) = Keeps m d.machine

  once-kept : (m n : Machine K S P) (so_far : ℕ) → Once so_far m → Keeps m n → Once so_far n
  once-kept m n so_far once kept = rw (kept.0, kept.1) once

  once-done : (m : Machine K S P) (o : Option (Done K S P)) (so_far : ℕ) → Once so_far m → KeepsIfDone m o → OnceIfDone so_far o
  once-done m None so_far once kept = tt
  once-done m (Some d) so_far once kept = once-kept m d.machine so_far once kept

  keeps-if : (m : Machine K S P) (b : Bool) (d : Done K S P) → Keeps m d.machine → KeepsIfDone m (if b then Some d else None)
  keeps-if m true d kept = kept
  keeps-if m false d kept = tt

  and-keeps : (m : Machine K S P) (d : Done K S P) (next : Machine K S P → Option (Done K S P)) → Keeps m d.machine → KeepsIfDone d.machine (next d.machine) → KeepsIfDone m (and_then d next)
  and-keeps m d next first later = at (next d.machine) later where
    at : (o : Option (Done K S P)) → KeepsIfDone d.machine o → KeepsIfDone m (option_map (λ e. record { machine = e.machine; effects = d.effects ++ e.effects }) o)
    at None later = tt
    at (Some e) later = (later.0 ∙ first.0, later.1 ∙ first.1)

  module _ (a : Parties K S P) where
    fetch_one-keeps : (m : Machine K S P) (now : ℕ) (item : Item K S P) (row : Option (Row K S P)) → Keeps m (fetch_one a m now item row)
    fetch_one-keeps m now item None = (refl, refl)
    fetch_one-keeps m now item (Some row) = (refl, refl)

    fetch-keeps : (m : Machine K S P) (now : ℕ) (items : List (Item K S P)) → Keeps m (fetch a m now items)
    fetch-keeps m now [] = (refl, refl)
    fetch-keeps m now (item ∷ items) =
        let one = fetch_one-keeps m now item (row_of a m item.key) in
        let rest = fetch-keeps (fetch_one a m now item (row_of a m item.key)) now items in
        (rest.0 ∙ one.0, rest.1 ∙ one.1)

    set-keeps : (m : Machine K S P) (b : Bool) (n : Machine K S P) → Keeps m n → Keeps m (if b then n else m)
    set-keeps m true n kept = kept
    set-keeps m false n kept = (refl, refl)

    times_out-keeps : (m : Machine K S P) (now : ℕ) (r : Option (ℕ × Request K P)) → Keeps m (times_out a m now r)
    times_out-keeps m now None = (refl, refl)
    times_out-keeps m now (Some r) = (refl, refl)

    misses-keeps : (m : Machine K S P) (now : ℕ) (r : Option (Request K P)) → Keeps m (misses a m now r)
    misses-keeps m now None = (refl, refl)
    misses-keeps m now (Some r) = (refl, refl)

    account-keeps : (m : Machine K S P) (h : Open K S P) (accepted : Bool) (outcome : Option Outcome) → Keeps m (account_for a m h accepted outcome).machine
    account-keeps m h true outcome = (refl, refl)
    account-keeps m h false None = (refl, refl)
    account-keeps m h false (Some (Resolved resolution)) = (refl, refl)
    account-keeps m h false (Some Invalid) = (refl, refl)
    account-keeps m h false (Some Unresolved) = (refl, refl)
    account-keeps m h false (Some Ignored) = (refl, refl)

    rest-keeps : (m : Machine K S P) (h : Open K S P) (value : List ℕ) (accepted : Bool) (rest : List (S × ℕ)) → KeepsIfDone m (serves_rest a m h value accepted rest)
    rest-keeps m h value accepted [] = (refl, refl)
    rest-keeps m h value accepted (s ∷ rest) = keeps-if m (nat_lt m.next_delivery (2 ^ 64)) _ (refl, refl)

    ruled-keeps : (m : Machine K S P) (now : ℕ) (h : Open K S P) (row : Row K S P) (value : List ℕ) (rule : Ruling) → KeepsIfDone m (ruled a m now h row value rule)
    ruled-keeps m now h row value (rulings.Serve accepted) = rest-keeps m h value accepted (without a.subscriber h.handed.subscribers row.subscribers)
    ruled-keeps m now h row value rulings.Retry = (refl, refl)
    ruled-keeps m now h row value rulings.Retire = (refl, refl)

    at-keeps : (m : Machine K S P) (now number : ℕ) (h : Open K S P) (outcome : Option Outcome) (row : Option (Row K S P)) → KeepsIfDone m (ruled_at a m now number h outcome row)
    at-keeps m now number h outcome None = (refl, refl)
    at-keeps m now number h outcome (Some row) = in-keeps row.phase where
      either : (b : Bool) (o : Option (Done K S P)) → KeepsIfDone m o → KeepsIfDone m (if b then o else Some (record { machine = m; effects = [] }))
      either true o kept = kept
      either false o kept = (refl, refl)

      in-keeps : (phase : Phase K P) → KeepsIfDone m (ruled_in a m now number h outcome row phase)
      in-keeps (Waits place) = (refl, refl)
      in-keeps (Asked id request) = (refl, refl)
      in-keeps (Judged j) = either (number == j.number) (ruled a m now h row j.value (ruling h.accepted outcome)) (ruled-keeps m now h row j.value (ruling h.accepted outcome))

    verdict-keeps : (m : Machine K S P) (now number : ℕ) (outcome : Option Outcome) (o : Option (Open K S P)) → KeepsIfDone m (verdict_on a m now number outcome o)
    verdict-keeps m now number outcome None = (refl, refl)
    verdict-keeps m now number outcome (Some h) =
        let d : Done K S P = account_for a (closed m number) h h.accepted outcome in
        and-keeps m d (λ n. ruled_at a n now number h outcome (row_of a n h.handed.key)) (account-keeps (closed m number) h h.accepted outcome) (at-keeps d.machine now number h outcome (row_of a d.machine h.handed.key))

    responds-keeps : (m : Machine K S P) (now : ℕ) (value : List ℕ) (r : Option (Request K P)) (row : Option (Row K S P)) → KeepsIfDone m (responds a m now value r row)
    responds-keeps m now value None row = (refl, refl)
    responds-keeps m now value (Some r) None = (refl, refl)
    responds-keeps m now value (Some r) (Some row) = keeps-if m (nat_lt m.next_delivery (2 ^ 64)) _ (refl, refl)

    -- a serve is opened under the next number
    produce-once : (m : Machine K S P) (peer : P) (id : ℕ) (key : K) (so_far : ℕ) → Once so_far m → OnceIfDone so_far (produce m peer id key)
    produce-once m peer id key so_far once = at (nat_lt m.next_serve (2 ^ 64)) where
      new : Serve P
      new = record { peer = peer; id = id }

      opened : (b : Bool) → (serve == m.next_serve) ≡ b
          → (so_far + held serve (insert_entry nat_cmp m.serves m.next_serve new) ≤ 1) × (m.next_serve + 1 ≤ serve → so_far + held serve (insert_entry nat_cmp m.serves m.next_serve new) ≡ 0)
      opened true is =
          let same : serve ≡ m.next_serve = eqb-true serve m.next_serve is in
          let more = held-inserted serve m.next_serve new m.serves in
          let one : mark (serve == m.next_serve) ≡ 1 = ap mark is in
          let none : so_far + held serve m.serves ≡ 0 = once.1 (omega (arith, same)) in
          (omega (arith, more, one, none), λ later. absurd (omega (arith, later, same)))
      opened false is =
          let more = held-inserted serve m.next_serve new m.serves in
          let none : mark (serve == m.next_serve) ≡ 0 = ap mark is in
          let few = once.0 in
          (omega (arith, more, none, few), λ later. let all : so_far + held serve m.serves ≡ 0 = once.1 (omega (arith, later)) in omega (arith, more, none, all))

      at : (b : Bool) → OnceIfDone so_far (if b then Some (record { machine = record m { serves = insert_entry nat_cmp m.serves m.next_serve new; next_serve = m.next_serve + 1 }; effects = Produce m.next_serve key ∷ [] }) else None)
      at true = opened (serve == m.next_serve) refl
      at false = tt

    -- a serve is closed by its reply
    served-once : (m : Machine K S P) (n : ℕ) (bytes : Option (List ℕ)) (so_far : ℕ) → Once so_far m → (s : Option (Serve P)) → lookup (λ k. n == k) m.serves ≡ s
        → Once (so_far + times serve (map (λ reply. n) (replies_as m bytes s))) (served_by m n bytes s).machine
    served-once m n bytes so_far once None found = let zero : so_far + 0 ≡ so_far = omega arith in rw zero once
    served-once m n bytes so_far once (Some s) found =
        let left = held-removed serve n s m.serves found in
        let one = filter-first (λ k. serve == k) n [] in
        let few = once.0 in
        (omega (arith, left, one, few), λ later. let none : so_far + held serve m.serves ≡ 0 = once.1 later in omega (arith, left, one, none))

    scanned-keeps : (m : Machine K S P) (now : ℕ) → Keeps m (scanned a m now).machine
    scanned-keeps m now = at (is_due now (wake_up a m)) where
      sent : (t : Turn K P) (r : Option (ℕ × Request K P)) → Keeps m (record (with_sent a m r) { scan = t.scan; last_id = t.last_id; waiter = t.waiter })
      sent t None = (refl, refl)
      sent t (Some r) = (refl, refl)

      at : (b : Bool) → Keeps m (scanned_if a b m now).machine
      at true = let t = scans.begins (orders_of a) (snapshot a m) now in sent t t.sent
      at false = (refl, refl)

    happened-some : (d : Done K S P) (m : Machine K S P) (now : ℕ) (so_far : ℕ) → Once so_far d.machine
        → Once so_far (step_of a (option_and_then (λ d. and_then d (λ n. Some (scanned a n now))) (Some d)) m).1
    happened-some d m now so_far once = once-kept d.machine (scanned a d.machine now).machine so_far once (scanned-keeps d.machine now)

    happened-once : (o : Option (Done K S P)) (m : Machine K S P) (now : ℕ) (so_far : ℕ) → Once so_far m → OnceIfDone so_far o
        → Once so_far (step_of a (option_and_then (λ d. and_then d (λ n. Some (scanned a n now))) o) m).1
    happened-once None m now so_far once done = once
    happened-once (Some d) m now so_far once done = happened-some d m now so_far done

    none-more : (m : Machine K S P) (so_far : ℕ) → Once so_far m → Once (so_far + 0) m
    none-more m so_far once = let zero : so_far + 0 ≡ so_far = omega arith in rw zero once

    -- an event that is no Served
    other-once : (m : Machine K S P) (now : ℕ) (event : Event K S P) (so_far : ℕ) → Once so_far m → OnceIfDone so_far (does a (record m { moment = now }) now event)
        → Once (so_far + 0) (step a m now (Happens event)).1
    other-once m now event so_far once done = none-more (step a m now (Happens event)).1 so_far (at m.status) where
      running : (over : Bool) → Once so_far (step_running a over m now (Happens event)).1
      running true = happened-once (does a (record m { moment = now }) now event) m now so_far once done
      running false = once

      at : (status : Status) → Once so_far (step_in a status m now (Happens event)).1
      at Running = running (is_over m.scan)
      at Ended = once
      at Failed = once

    served-step : (m : Machine K S P) (now n : ℕ) (bytes : Option (List ℕ)) (so_far : ℕ) → Once so_far m
        → Once (so_far + times serve (map (λ reply. n) (replies_if (is_running m.status && is_over m.scan) m (Happens (Served n bytes))))) (step a m now (Happens (Served n bytes))).1
    served-step m now n bytes so_far once = at m.status where
      running : (over : Bool) → Once (so_far + times serve (map (λ reply. n) (replies_if over m (Happens (Served n bytes))))) (step_running a over m now (Happens (Served n bytes))).1
      running true =
          let s = lookup (λ k. n == k) m.serves in
          happened-some (served_by (record m { moment = now }) n bytes s) m now (so_far + times serve (map (λ reply. n) (replies_as m bytes s))) (served-once (record m { moment = now }) n bytes so_far once s refl)
      running false = none-more m so_far once

      at : (status : Status) → Once (so_far + times serve (map (λ reply. n) (replies_if (is_running status && is_over m.scan) m (Happens (Served n bytes))))) (step_in a status m now (Happens (Served n bytes))).1
      at Running = running (is_over m.scan)
      at Ended = none-more m so_far once
      at Failed = none-more m so_far once

    answer-once : (m : Machine K S P) (now : ℕ) (answer : Answer) (so_far : ℕ) → Once so_far m → Once so_far (step a m now (Answers answer)).1
    answer-once m now answer so_far once = at m.status where
      turns : (t : Turn K P) (r : Option (ℕ × Request K P)) → Once so_far (record (with_sent a m r) { scan = t.scan; last_id = t.last_id; waiter = t.waiter })
      turns t None = once
      turns t (Some r) = once

      takes : (t : Result (Turn K P) Fault) → Once so_far (answer_of a t m).1
      takes (Ok t) = turns t t.sent
      takes (Err fault) = once

      running : (over : Bool) → Once so_far (step_running a over m now (Answers answer)).1
      running true = takes (scans.takes (orders_of a) (snapshot a m) m.scan answer)
      running false = takes (scans.takes (orders_of a) (snapshot a m) m.scan answer)

      at : (status : Status) → Once so_far (step_in a status m now (Answers answer)).1
      at Running = running (is_over m.scan)
      at Ended = once
      at Failed = once

    -- an answer
    abbrev OnceStep : (so_far : ℕ) → Machine K S P → Fed K S P → Type 0
    OnceStep so_far m fed = let answer = step a m fed.now fed.input in Once (so_far + times serve (served_at fed.input (effects_of answer.0))) answer.1

    step-once : (m : Machine K S P) (now : ℕ) (input : Input K S P) (so_far : ℕ) → Once so_far m → OnceStep so_far m (record { now = now; input = input })
    step-once m now (Happens (Fetch items)) so_far once = other-once m now (Fetch items) so_far once (once-kept m (fetch a (record m { moment = now }) now items) so_far once (fetch-keeps (record m { moment = now }) now items))
    step-once m now (Happens (Retain keep)) so_far once = other-once m now (Retain keep) so_far once once
    step-once m now (Happens (PeerSet index peers)) so_far once =
        other-once m now (PeerSet index peers) so_far once
        (once-kept m (peer_set a (record m { moment = now }) index peers) so_far once (set-keeps (record m { moment = now }) (is_newer m.last_index index) _ (refl, refl)))
    step-once m now (Happens (Blocked peers)) so_far once = other-once m now (Blocked peers) so_far once once
    step-once m now (Happens ActiveDue) so_far once =
        let r = overdue (snapshot a m).asked now in
        other-once m now ActiveDue so_far once (once-kept m (times_out a (record m { moment = now }) now r) so_far once (times_out-keeps (record m { moment = now }) now r))
    step-once m now (Happens PendingDue) so_far once = other-once m now PendingDue so_far once once
    step-once m now (Happens (Verdict number outcome)) so_far once =
        let o = lookup (λ n. number == n) m.deliveries in
        other-once m now (Verdict number outcome) so_far once (once-done m (verdict_on a (record m { moment = now }) now number outcome o) so_far once (verdict-keeps (record m { moment = now }) now number outcome o))
    step-once m now (Happens (Served n bytes)) so_far once =
        rw (replies_once a m now (Happens (Served n bytes))) (served-step m now n bytes so_far once)
    step-once m now (Happens (Net peer None)) so_far once = other-once m now (Net peer None) so_far once once
    step-once m now (Happens (Net peer (Some message))) so_far once = other-once m now (Net peer (Some message)) so_far once (at message.payload) where
      n : Machine K S P
      n = record m { moment = now }

      at : (payload : Payload K) → OnceIfDone so_far (receive a (record m { moment = now }) now peer message.id payload)
      at (payloads.Request key) = produce-once (record m { moment = now }) peer message.id key so_far once
      at (payloads.Response value) =
          let r = answered a m peer message.id in
          let row = option_and_then (λ r. row_of a m r.key) r in
          once-done m (responds a (record m { moment = now }) now value r row) so_far once (responds-keeps (record m { moment = now }) now value r row)
      at payloads.Error =
          let r = answered a m peer message.id in
          once-kept m (misses a (record m { moment = now }) now r) so_far once (misses-keeps (record m { moment = now }) now r)
    step-once m now (Happens End) so_far once =
        other-once m now End so_far once (let few = once.0 in omega (arith, few), λ later. let none : so_far + held serve m.serves ≡ 0 = once.1 later in omega (arith, none))
    step-once m now (Answers answer) so_far once = none-more (step a m now (Answers answer)).1 so_far (answer-once m now answer so_far once)

    times-append : (xs ys : List ℕ) → times serve (xs ++ ys) ≡ times serve xs + times serve ys
    times-append xs ys = ap length (filter-append (λ n. serve == n) xs ys) ∙ length-append (filter (λ n. serve == n) xs) (filter (λ n. serve == n) ys)

    -- a refusal gives no reply
    served-none : (input : Input K S P) → served_at input [] ≡ []
    served-none (Happens (Fetch items)) = refl
    served-none (Happens (Retain keep)) = refl
    served-none (Happens (PeerSet index peers)) = refl
    served-none (Happens (Blocked peers)) = refl
    served-none (Happens ActiveDue) = refl
    served-none (Happens PendingDue) = refl
    served-none (Happens (Verdict number outcome)) = refl
    served-none (Happens (Served n bytes)) = refl
    served-none (Happens (Net peer message)) = refl
    served-none (Happens End) = refl
    served-none (Answers answer) = refl

    abbrev Answered : Type 0
    Answered = Result (List (Effect K S P)) Fault × Machine K S P

    taken-once : (old mid : Machine K S P) (fed : Fed K S P) (answer : Result (List (Effect K S P)) Fault) (so_far : ℕ) → Once so_far old
        → step a old fed.now fed.input ≡ (answer, mid) → Once (so_far + times serve (served_at fed.input (effects_of answer))) mid
    taken-once old mid fed answer so_far once is =
        subst (λ (x : Answered). Once (so_far + times serve (served_at fed.input (effects_of x.0))) x.1) is (step-once old fed.now fed.input so_far once)

    and-then : (here : List ℕ) (later : List ℕ) (so_far : ℕ) → so_far + times serve here + times serve later ≤ 1 → so_far + times serve (here ++ later) ≤ 1
    and-then here later so_far few = let both = times-append here later in omega (arith, few, both)

    -- the last answer, which hands nothing out
    last-once : (old : Machine K S P) (fed : Fed K S P) (inputs : List (Fed K S P)) (answers : List (Result (List (Effect K S P)) Fault)) (so_far : ℕ) → Once so_far old → answers ≡ []
        → so_far + times serve (served_at fed.input [] ++ all_served inputs answers) ≤ 1
    last-once old fed inputs answers so_far once none =
        rw (served-none fed.input, none) (at inputs) where
          at : (inputs : List (Fed K S P)) → so_far + times serve (all_served inputs []) ≤ 1
          at [] = let few = once.0 in omega (arith, few)
          at (i ∷ is) = let few = once.0 in omega (arith, few)

    runs-once : (inputs : List (Fed K S P)) (answers : List (Result (List (Effect K S P)) Fault)) (old new : Machine K S P) (so_far : ℕ) → Once so_far old
        → Runs a old inputs answers new → so_far + times serve (all_served inputs answers) ≤ 1
    runs-once [] [] old new so_far once runs = let few = once.0 in omega (arith, few)
    runs-once [] (answer ∷ answers) old new so_far once runs = absurd runs
    runs-once (fed ∷ inputs) [] old new so_far once runs = absurd runs
    runs-once (fed ∷ inputs) (Ok effects ∷ answers) old new so_far once runs =
        and-then (served_at fed.input effects) (all_served inputs answers) so_far
        (runs-once inputs answers runs.0 new (so_far + times serve (served_at fed.input effects)) (taken-once old runs.0 fed (Ok effects) so_far once runs.1) runs.2)
    runs-once (fed ∷ inputs) (Err faults.OutOfMemory ∷ answers) old new so_far once runs = last-once old fed inputs answers so_far once runs.2.0
    runs-once (fed ∷ inputs) (Err faults.Exhausted ∷ answers) old new so_far once runs = last-once old fed inputs answers so_far once runs.2.0
    runs-once (fed ∷ inputs) (Err fault ∷ answers) old new so_far once runs =
        and-then (served_at fed.input []) (all_served inputs answers) so_far
        (runs-once inputs answers runs.0 new (so_far + times serve (served_at fed.input [])) (taken-once old runs.0 fed (Err fault) so_far once runs.1) runs.2)

pub no_second_reply : {K S P : Type 0} (a : Parties K S P) → NoSecondReply a
no_second_reply a old inputs answers new runs configuration priority_responses opens serve =
    let few : 0 + times serve (all_served inputs answers) ≤ 1 =
    runs-once serve a inputs answers (opening configuration priority_responses) new 0 (omega arith, λ later. refl) (subst (λ m. Runs a m inputs answers new) opens runs) in
    omega (arith, few)
