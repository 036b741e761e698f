-- Each step of the peer machine changes what it stands at as the account of the inputs taken says.
use Rattle.std.proofs.Common.{◌≡◌, ◌≢◌, refl, ap, sym, ◌∙◌, subst, ℕ, ◌+◌, ◌^◌, eq-eqb, ne_eqb, Bool, true, false, cond, not, ◌==◌, ◌||◌, List, [], ◌∷◌, ◌++◌, map, filter, length, Option, None, Some, IfSome, IfOk, Result, Ok, Err, if◌then◌else◌, append-nil, arith}
use Rattle.std.specs.Prelude.{nat_lt, option_and_then, option_to_list, filter_map, ⊤}
use Rattle.std.specs.Option.{option_map}
use Rattle.std.specs.List.{IsDistinct, cons_option}
use Rattle.std.specs.Map.{lookup, set_value, remove_entry, keys_of}
use Rattle.std.specs.BTreeMap.{insert_entry, is_at}
use Rattle.std.specs.Ordering.{nat_cmp, is_eq}
use Rattle.std.specs.Cmp.{IsEquivalence}
use Rattle.std.proofs.lemmas.Map.Made.{lookup-map_values}
use Rattle.std.proofs.lemmas.List.Elements.{filter_map-append}
use Rattle.resolver_base.specs.declared.fault.Fault.{Fault}
use Rattle.resolver_base.specs.declared.fault.Fault.TheVariants as faults
use Rattle.resolver_types.specs.declared.outcome.Outcome.{Outcome}
use Rattle.resolver_types.specs.declared.outcome.Outcome.TheVariants.{Invalid, Resolved, Unresolved, Ignored}
use Rattle.resolver_types.specs.declared.outcome.Resolution.TheVariants.{Complete, Partial}
use Rattle.resolver_types.specs.Names.{same_key}
use Rattle.resolver_types.specs.Subscribers.{without}
use Rattle.resolver_wire.specs.declared.wire.Payload.{Payload}
use Rattle.resolver_wire.specs.declared.wire.Payload.TheVariants as payloads
use Rattle.resolver_fetch_requests.specs.declared.requests.request.Request.{Request}
use Rattle.resolver_fetch_requests.specs.Requests.{overdue, if_of, matching}
use Rattle.resolver_fetch_requests.specs.Requests as requests
use Rattle.resolver_sampling.specs.Times.{elapsed_since}
use Rattle.resolver_fetch_scan.specs.declared.config.Config.{Config}
use Rattle.resolver_fetch_scan.specs.declared.scan.Answer.{Answer}
use Rattle.resolver_fetch_scan.specs.declared.scan.Ask.{Ask as Question}
use Rattle.resolver_fetch_scan.specs.Waiting.{Waiting, waiting_order, in_order}
use Rattle.resolver_fetch_scan.specs.declared.trail.Expected.{Expected}
use Rattle.resolver_fetch_scan.specs.declared.trail.Expected.TheVariants.{Mode, ByWeight, ByPlace, Checking, FirstId, Sending}
use Rattle.resolver_fetch_scan.specs.declared.scan.Answer.TheVariants.{Drawn, Checked, Sent}
use Rattle.resolver_base.specs.declared.check.Check.TheVariants.{Clear, Until}
use Rattle.resolver_fetch_scan.specs.declared.trail.Reason.{Reason}
use Rattle.resolver_fetch_scan.specs.declared.trail.Reason.TheVariants.{Limited, Refused}
use Rattle.resolver_fetch_scan.specs.Scan as scans
use Rattle.resolver_fetch_scan.specs.Scan.{Scan, Turn, is_over}
use Rattle.resolver_fetch_scan.specs.Snapshot.{Snapshot}
use Rattle.resolver_model.specs.declared.ruling.Ruling.{Ruling}
use Rattle.resolver_model.specs.declared.ruling.Ruling.TheVariants as rulings
use Rattle.resolver_model.specs.Verdicts.{ruling}
use Rattle.resolver_model.specs.Account.{Account, Handed, Watched, Change, Adds, Keeps, Judges, Empties, Leaves, table, nothing_asked, completed_after, completed_after_verdict, account_after, account_of}
use Rattle.resolver_model.specs.Standing.{Standing, Held, Judgment, asks, asks_one, keeps, prunes, has_any, hands, closes, serves, served_again, ends, rules, ruled_out}
use Rattle.resolver_model_peer.specs.Parties.{Parties, names_of, orders_of}
use Rattle.resolver_model_peer.specs.declared.named.Source.{Source}
use Rattle.resolver_model_peer.specs.PeerRows.{Row, Phase, Waits, Asked, Judged, Judging, change_entry, waiting_in, waiting_of, request_in, request_of}
use Rattle.resolver_model_peer.specs.declared.named.Serve.{Serve}
use Rattle.resolver_model.specs.declared.status.Status.{Status}
use Rattle.resolver_model.specs.declared.status.Status.TheVariants.{Running, Ended, Failed}
use Rattle.resolver_model_peer.specs.Peer.{Machine, Open, Done, Effect, Ask, Deliver, Item, Event, Fetch, Retain, PeerSet, Blocked, ActiveDue, PendingDue, Verdict, Served, Net, End, Input, Happens, Answers, quiet, and_then, snapshot, cancel_in, cancels, pruned, has_subscribers, retain, closed, end, served_by, is_key, row_of, retry, fetch_one, fetch, is_newer, times_out, hand_out, account_for, serves_rest, ruled, ruled_in, ruled_at, verdict_on, verdict, freed, responds, misses, answered, receive, does, with_sent, turned, question, scanned_if, scanned, is_due, wake_up, step_of, happen, answer_of, step_running, step_in, opening}
use Rattle.resolver_model_peer.specs.PeerRun.{Fed, change_of, delivery_in, demanded}
use Rattle.resolver_model_peer.specs.PeerStanding.{judgment_of, held_of, standing_of}
use Rattle.resolver_model_peer.specs.PeerSteps.{Runs}
use Rattle.resolver_model_peer.specs.PeerLaws.{taken}
use Rattle.resolver_model.proofs.Mapped.{seen, insert_entry-seen, remove_entry-seen}
use Rattle.resolver_model.specs.Lawful.{Each}
use Rattle.resolver_model.proofs.Deliveries.{Each-imply, Each-both, Each-map, Each-found, Each-remove_entry, Each-lookup, Each-find, Separate-others}
use Rattle.resolver_model.proofs.Rows.{each_found, lookup-same}
use Rattle.resolver_model.proofs.Tallies.{Tallies, Fits, judging_in, judging_of, was_completed, never_completed, completed-none, completed-dead, opening-tallies, stays, asks-tallies, keeps-tallies, ends-tallies, hands-tallies, closes-tallies, rules-tallies, judged_at, remove_entry-absent}
use Rattle.resolver_model_peer.proofs.Changed.{Each-changed, Each-inserted, Each-insert_key, Each-filtered, Each-chosen, Each-by_id, changed-seen, unseen, unmapped, overdue-is}

module _ {K S P : Type 0} where
  abbrev handed_out : List (Effect K S P) → List (ℕ × Handed K S)
  handed_out effects = filter_map delivery_in effects

  cancels-none : (rows : List (K × Row K S P)) → handed_out (cancels rows) ≡ []
  cancels-none [] = refl
  cancels-none (r ∷ rs) = at r.1.phase (cancels-none rs)
    where
      at : (p : Phase K P) → handed_out (cancels rs) ≡ [] → handed_out (cons_option (cancel_in p) (cancels rs)) ≡ []
      at (Waits place) rest = rest
      at (Asked id request) rest = rest
      at (Judged j) rest = rest

  retain-rows : (keep : K → S → Bool) (rows : List (K × Row K S P))
      → seen held_of (filter has_subscribers (map (pruned keep) rows)) ≡ filter has_any (map (prunes keep) (seen held_of rows))
  retain-rows keep [] = refl
  retain-rows keep (r ∷ rs) = at (retain-rows keep rs) (has_subscribers (pruned keep r))
    where
      at : seen held_of (filter has_subscribers (map (pruned keep) rs)) ≡ filter has_any (map (prunes keep) (seen held_of rs)) → (b : Bool)
          → seen held_of (cond b (pruned keep r ∷ filter has_subscribers (map (pruned keep) rs)) (filter has_subscribers (map (pruned keep) rs)))
          ≡ cond b ((r.0, held_of (pruned keep r).1) ∷ filter has_any (map (prunes keep) (seen held_of rs))) (filter has_any (map (prunes keep) (seen held_of rs)))
      at rest true = ap (λ es. (r.0, held_of (pruned keep r).1) ∷ es) rest
      at rest false = rest

  -- what an open delivery says of its response
  abbrev IsFlagged : List ℕ → ℕ × Open K S P → Type 0
  IsFlagged completed d = d.1.accepted ≡ was_completed completed d.1.handed.response

-- a number is at itself alone
pub same_test : (number n : ℕ) → (number == n) ≡ is_at (nat_cmp number) n
same_test number n = grind (arith)

abbrev Test : Type 0
Test = ℕ → Bool

pub same_tests : (number : ℕ) → ◌≡◌ {A = Test} (λ n. number == n) (is_at (nat_cmp number))
same_tests number = λ i n. same_test number n i

module _ {K S P : Type 0} (a : Parties K S P) where
  -- a request is for the key of its row
  abbrev IsOwnIn : K → Phase K P → Type 0
  IsOwnIn key (Asked id request) = same_key (names_of a) request.key key ≡ true
  IsOwnIn key phase = ⊤

  abbrev IsOwn : K × Row K S P → Type 0
  IsOwn r = IsOwnIn r.0 r.1.phase

  -- The machine stands there then, has handed this out and asks each request for the key of its row, and its deliveries are flagged by these responses.
  abbrev Comes : Standing K S → List (ℕ × Handed K S) → (completed : List ℕ) → Done K S P → Type 0
  Comes t handed completed d =
      (standing_of d.machine ≡ t) × (handed_out d.effects ≡ handed) × Each (IsFlagged completed) d.machine.deliveries × Each IsOwn d.machine.rows

  -- the machine is as the account of the inputs taken says
  pub record Stands (m : Machine K S P) (c : Account K S (List (K × List (S × ℕ)))) : Type 0 where
    pub tallies : Tallies (names_of a) (standing_of m) c
    pub flags : Each (IsFlagged c.completed) m.deliveries
    pub own : Each IsOwn m.rows

  abbrev Tells : Account K S (List (K × List (S × ℕ))) → Change K S → Option (Done K S P) → Type 0
  Tells c change o = IfSome o (λ d. Stands d.machine (account_after (table (names_of a)) c change (handed_out d.effects)))

  comes-tells : (c : Account K S (List (K × List (S × ℕ)))) (change : Change K S) (t : Standing K S) (handed : List (ℕ × Handed K S)) (completed : List ℕ) (o : Option (Done K S P))
      → Tallies (names_of a) t (account_after (table (names_of a)) c change handed) → completed_after c.deliveries c.completed change ≡ completed → IfSome o (Comes t handed completed)
      → Tells c change o
  comes-tells c change t handed completed None tallies same comes = tt
  comes-tells c change t handed completed (Some d) tallies same comes = record {
    tallies =
        subst (λ t. Tallies (names_of a) t (account_after (table (names_of a)) c change (handed_out d.effects))) (sym comes.0)
        (subst (λ hs. Tallies (names_of a) t (account_after (table (names_of a)) c change hs)) (sym comes.1) tallies);
    flags = subst (λ done. Each (IsFlagged done) d.machine.deliveries) (sym same) comes.2;
    own = comes.3;
  }

  -- what effects in front do that hand nothing out
  paid-tells : (c : Account K S (List (K × List (S × ℕ)))) (change : Change K S) (before : List (Effect K S P)) → handed_out before ≡ [] → (o : Option (Done K S P)) → Tells c change o
      → Tells c change (option_map (λ e. record { machine = e.machine; effects = before ++ e.effects }) o)
  paid-tells c change before none None tells = tt
  paid-tells c change before none (Some e) tells =
      subst (λ hs. Stands e.machine (account_after (table (names_of a)) c change hs)) (sym (filter_map-append delivery_in before e.effects ∙ ap (λ hs. hs ++ handed_out e.effects) none)) tells

  -- Items
  abbrev items_of : List (Item K S P) → List (K × List (S × ℕ))
  items_of items = map (λ item. (item.key, item.subscribers)) items

  fetch_one-comes : (m : Machine K S P) (now : ℕ) (item : Item K S P) (row : Option (Row K S P)) → row_of a m item.key ≡ row
      → standing_of (fetch_one a m now item row) ≡ record (standing_of m) { rows = asks_one (names_of a) (seen held_of m.rows) (item.key, item.subscribers) (option_map held_of row) }
  fetch_one-comes m now item (Some row) found = ap with_rows (changed-seen held_of (is_key a item.key) _ m.rows row found)
    where
      with_rows : List (K × Held S) → Standing K S
      with_rows rows = record (standing_of m) { rows = rows }
  fetch_one-comes m now item None found = ap with_rows (sym (insert_entry-seen held_of a.key m.rows item.key _))
    where
      with_rows : List (K × Held S) → Standing K S
      with_rows rows = record (standing_of m) { rows = rows }

  fetch-comes : (m : Machine K S P) (now : ℕ) (items : List (Item K S P)) → standing_of (fetch a m now items) ≡ record (standing_of m) { rows = asks (names_of a) (seen held_of m.rows) (items_of items) }
  fetch-comes m now [] = refl
  fetch-comes m now (item ∷ items) =
      fetch-comes (fetch_one a m now item (row_of a m item.key)) now items
      ∙ (ap asking (fetch_one-comes m now item (row_of a m item.key) refl)
      ∙ ap asking_first (sym (lookup-map_values held_of (same_key (names_of a) item.key) m.rows)))
    where
      asking : Standing K S → Standing K S
      asking t = record t { rows = asks (names_of a) t.rows (items_of items) }

      asking_first : Option (Held S) → Standing K S
      asking_first found = record (standing_of m) { rows = asks (names_of a) (asks_one (names_of a) (seen held_of m.rows) (item.key, item.subscribers) found) (items_of items) }

  fetch_one-own : (m : Machine K S P) (now : ℕ) (item : Item K S P) (row : Option (Row K S P)) → Each IsOwn m.rows → Each IsOwn (fetch_one a m now item row).rows
  fetch_one-own m now item (Some row) own = Each-changed (is_key a item.key) _ IsOwn m.rows (λ k x is here. here) own
  fetch_one-own m now item None own = Each-inserted a.key IsOwn m.rows item.key _ own (λ k. tt)

  fetch-own : (m : Machine K S P) (now : ℕ) (items : List (Item K S P)) → Each IsOwn m.rows → Each IsOwn (fetch a m now items).rows
  fetch-own m now [] own = own
  fetch-own m now (item ∷ items) own = fetch-own (fetch_one a m now item (row_of a m item.key)) now items (fetch_one-own m now item (row_of a m item.key) own)

  fetch_one-open : (m : Machine K S P) (now : ℕ) (item : Item K S P) (row : Option (Row K S P)) → (fetch_one a m now item row).deliveries ≡ m.deliveries
  fetch_one-open m now item None = refl
  fetch_one-open m now item (Some row) = refl

  fetch-open : (m : Machine K S P) (now : ℕ) (items : List (Item K S P)) → (fetch a m now items).deliveries ≡ m.deliveries
  fetch-open m now [] = refl
  fetch-open m now (item ∷ items) = fetch-open (fetch_one a m now item (row_of a m item.key)) now items ∙ fetch_one-open m now item (row_of a m item.key)

  -- Retains
  retain-own : (keep : K → S → Bool) (rows : List (K × Row K S P)) → Each IsOwn rows → Each IsOwn (filter has_subscribers (map (pruned keep) rows))
  retain-own keep rows own = Each-filtered IsOwn has_subscribers (map (pruned keep) rows) (Each-map (pruned keep) IsOwn rows own)

  -- Keys that are not judged
  abbrev IsIdle : List (K × Row K S P) → K → Type 0
  IsIdle rows key = judging_of (names_of a) (seen held_of rows) key ≡ None

  not_judged : (rows : List (K × Row K S P)) (key : K) (row : Row K S P) → IsIdle rows key → lookup (is_key a key) rows ≡ Some row → judgment_of row.phase ≡ None
  not_judged rows key row idle found = sym (ap judging_in (lookup-map_values held_of (is_key a key) rows ∙ ap (option_map held_of) found)) ∙ idle

  with_judging : List (S × ℕ) → Option Judgment → Held S
  with_judging subscribers judging = record { subscribers = subscribers; judging = judging }

  -- to have such a key wait or asked for changes nothing
  idle_rows : (rows : List (K × Row K S P)) (key : K) (f : Row K S P → Row K S P) → ((row : Row K S P) → held_of (f row) ≡ with_judging row.subscribers None) → IsIdle rows key
      → seen held_of (change_entry (is_key a key) f rows) ≡ seen held_of rows
  unfolding with_judging
  idle_rows rows key f waits idle =
      unseen held_of (is_key a key) f rows (λ row found. waits row ∙ ap (with_judging row.subscribers) (sym (not_judged rows key row idle found)))

  retry-same : (m : Machine K S P) (now : ℕ) (key : K) → IsIdle m.rows key → standing_of (retry a m now key) ≡ standing_of m
  unfolding with_judging
  retry-same m now key idle = ap with_rows (idle_rows m.rows key _ (λ row. refl) idle)
    where
      with_rows : List (K × Held S) → Standing K S
      with_rows rows = record (standing_of m) { rows = rows }

  retry-own : (m : Machine K S P) (now : ℕ) (key : K) → Each IsOwn m.rows → Each IsOwn (retry a m now key).rows
  retry-own m now key own = Each-changed (is_key a key) _ IsOwn m.rows (λ k x is here. tt) own

  -- Each row is found by its key.
  abbrev IsFound : List (K × Row K S P) → K × Row K S P → Type 0
  IsFound rows r = lookup (same_key (names_of a) r.0) (seen held_of rows) ≡ Some (held_of r.1)

  found_rows : (m : Machine K S P) → IsEquivalence (same_key (names_of a)) → IsDistinct (same_key (names_of a)) (keys_of (standing_of m).rows) → Each (IsFound m.rows) m.rows
  found_rows m laws distinct = unmapped held_of (λ e. lookup (same_key (names_of a) e.0) (seen held_of m.rows) ≡ Some e.1) m.rows (each_found (names_of a) laws (seen held_of m.rows) distinct)

  -- a key that waits is not judged
  waiting-idle : (m : Machine K S P) → Each (IsFound m.rows) m.rows → Each (λ w. IsIdle m.rows w.0) (snapshot a m).waiting
  waiting-idle m found = ordered (filter_map waiting_of m.rows) (Each-chosen waiting_of (IsFound m.rows) (λ w. IsIdle m.rows w.0) one m.rows found)
    where
      one : (r : K × Row K S P) → IsFound m.rows r → IfSome (waiting_of r) (λ w. IsIdle m.rows w.0)
      one r is = at r.1.phase is
        where
          at : (p : Phase K P) → lookup (same_key (names_of a) r.0) (seen held_of m.rows) ≡ Some (record { subscribers = r.1.subscribers; judging = judgment_of p })
              → IfSome (waiting_in r.0 r.1 p) (λ w. IsIdle m.rows w.0)
          at (Waits place) is = ap judging_in is
          at (Asked id request) is = tt
          at (Judged j) is = tt

      ordered : (ws : List (K × Waiting P)) → Each (λ w. IsIdle m.rows w.0) ws → Each (λ w. IsIdle m.rows w.0) (in_order (orders_of a) ws)
      ordered [] idle = tt
      ordered (w ∷ ws) idle = Each-insert_key (waiting_order (orders_of a)) (λ w. IsIdle m.rows w.0) (in_order (orders_of a) ws) w (ordered ws idle.1) idle.0

  -- nor is the key of a request
  asked-idle : (m : Machine K S P) → IsEquivalence (same_key (names_of a)) → Each (IsFound m.rows) m.rows → Each IsOwn m.rows → Each (λ r. IsIdle m.rows r.1.key) (snapshot a m).asked
  asked-idle m laws found own =
      Each-by_id (λ r. IsIdle m.rows r.key) (filter_map request_of m.rows)
      (Each-chosen request_of (λ r. IsFound m.rows r × IsOwn r) (λ r. IsIdle m.rows r.1.key) (λ r both. one r both.0 both.1) m.rows (Each-both (IsFound m.rows) IsOwn m.rows found own))
    where
      one : (r : K × Row K S P) → IsFound m.rows r → IsOwn r → IfSome (request_of r) (λ q. IsIdle m.rows q.1.key)
      one r is its = at r.1.phase is its
        where
          at : (p : Phase K P) → lookup (same_key (names_of a) r.0) (seen held_of m.rows) ≡ Some (record { subscribers = r.1.subscribers; judging = judgment_of p }) → IsOwnIn r.0 p
              → IfSome (request_in p) (λ q. IsIdle m.rows q.1.key)
          at (Waits place) is its = tt
          at (Asked id request) is its = ap judging_in (sym (lookup-same (names_of a) laws request.key r.0 (seen held_of m.rows) its) ∙ is)
          at (Judged j) is its = tt

  -- the request that a message answers
  answered-idle : (m : Machine K S P) (peer : P) (id : ℕ) → Each (λ r. IsIdle m.rows r.1.key) (snapshot a m).asked → IfSome (answered a m peer id) (λ r. IsIdle m.rows r.key)
  answered-idle m peer id idle = at (requests.request_of (snapshot a m).asked id) refl
    where
      some : (b : Bool) (r : Request K P) → IsIdle m.rows r.key → IfSome (cond b (Some r) None) (λ r. IsIdle m.rows r.key)
      some true r is = is
      some false r is = tt

      at : (o : Option (Request K P)) → requests.request_of (snapshot a m).asked id ≡ o → IfSome (option_and_then (if_of a.peer peer) o) (λ r. IsIdle m.rows r.key)
      at None is = tt
      at (Some r) is = some (is_eq (a.peer peer r.peer)) r (Each-found (λ r. IsIdle m.rows r.key) (is_at (nat_cmp id)) (snapshot a m).asked r idle is)

  -- a number is left for what is handed out
  hand_out-comes : (m : Machine K S P) (key : K) (subscribers : List (S × ℕ)) (response : ℕ) (source : Source P) (value : List ℕ) (accepted : Bool) (row : Row K S P) (completed : List ℕ)
      → row_of a m key ≡ Some row → Each (IsFlagged completed) m.deliveries → Each IsOwn m.rows → accepted ≡ was_completed completed response
      → IfSome (hand_out a m key subscribers (record { number = m.next_delivery; response = response; source = source; value = value; accepted = accepted }))
      (Comes (hands (names_of a) (standing_of m) key subscribers response accepted) ((m.next_delivery, record { response = response; key = key; subscribers = subscribers }) ∷ []) completed)
  hand_out-comes m key subscribers response source value accepted row completed found flags own flag = at (nat_lt m.next_delivery (2 ^ 64))
    where
      j : Judging P
      j = record { number = m.next_delivery; response = response; source = source; value = value; accepted = accepted }

      open_one : Open K S P
      open_one = record { handed = record { response = response; key = key; subscribers = subscribers }; source = source; accepted = accepted }

      change : Row K S P → Row K S P
      change row = record row { subscribers = subscribers; phase = Judged j }

      both : List (K × Held S) → List (ℕ × Handed K S) → Standing K S
      both rows deliveries = record { rows = rows; deliveries = deliveries; next_number = m.next_delivery + 1 }

      same : both (seen held_of (change_entry (is_key a key) change m.rows)) (seen (λ o. o.handed) (insert_entry nat_cmp m.deliveries m.next_delivery open_one))
          ≡ hands (names_of a) (standing_of m) key subscribers response accepted
      same = ap (λ rows. both rows (seen (λ o. o.handed) (insert_entry nat_cmp m.deliveries m.next_delivery open_one))) (changed-seen held_of (is_key a key) change m.rows row found)
          ∙ ap (both (set_value (same_key (names_of a) key) (seen held_of m.rows) (held_of (change row)))) (sym (insert_entry-seen (λ o. o.handed) nat_cmp m.deliveries m.next_delivery open_one))

      at : (b : Bool) → IfSome (cond b (Some (record {
        machine = record m { rows = change_entry (is_key a key) change m.rows; deliveries = insert_entry nat_cmp m.deliveries m.next_delivery open_one; next_delivery = m.next_delivery + 1 };
        effects = Deliver m.next_delivery open_one.handed value ∷ [];
      })) None) (Comes (hands (names_of a) (standing_of m) key subscribers response accepted) ((m.next_delivery, record { response = response; key = key; subscribers = subscribers }) ∷ []) completed)
      at true = (same, refl, Each-inserted nat_cmp (IsFlagged completed) m.deliveries m.next_delivery open_one flags (λ q. flag), Each-changed (is_key a key) change IsOwn m.rows (λ k x is here. tt) own)
      at false = tt

  -- A response
  responds-tells : IsEquivalence (same_key (names_of a)) → (m : Machine K S P) (c : Account K S (List (K × List (S × ℕ)))) (now : ℕ) (value : List ℕ) → Stands m c
      → (r : Option (Request K P)) → IfSome r (λ r. IsIdle m.rows r.key) → Tells c Leaves (responds a m now value r (option_and_then (λ r. row_of a m r.key) r))
  responds-tells laws m c now value stands None idle = record { tallies = stays (names_of a) (standing_of m) c stands.tallies; flags = stands.flags; own = stands.own }
  responds-tells laws m c now value stands (Some r) idle = at (row_of a m r.key) refl
    where
      at : (o : Option (Row K S P)) → row_of a m r.key ≡ o → Tells c Leaves (responds a m now value (Some r) o)
      at None is = record { tallies = stays (names_of a) (standing_of m) c stands.tallies; flags = stands.flags; own = stands.own }
      at (Some row) is =
          comes-tells c Leaves (hands (names_of a) (standing_of m) r.key row.subscribers m.next_delivery false) ((m.next_delivery, record { response = m.next_delivery; key = r.key; subscribers = row.subscribers }) ∷ []) c.completed
          (responds a m now value (Some r) (Some row))
          (hands-tallies (names_of a) laws (standing_of m) c r.key (held_of row) (lookup-map_values held_of (is_key a r.key) m.rows ∙ ap (option_map held_of) is) (not_judged m.rows r.key row idle is) stands.tallies)
          refl
          (hand_out-comes (freed m) r.key row.subscribers m.next_delivery (record { peer = r.peer; elapsed = elapsed_since r.start now; bytes = length value }) value false row c.completed is stands.flags stands.own
          (sym (never_completed c.completed m.next_delivery stands.tallies.completed)))

  -- what leaves the standing
  stays-stands : (m k : Machine K S P) (c : Account K S (List (K × List (S × ℕ)))) → Stands m c → standing_of k ≡ standing_of m → k.deliveries ≡ m.deliveries → Each IsOwn k.rows
      → Stands k (account_after (table (names_of a)) c Leaves [])
  stays-stands m k c stands same still own = record {
    tallies = subst (λ t. Tallies (names_of a) t (account_after (table (names_of a)) c Leaves [])) (sym same) (stays (names_of a) (standing_of m) c stands.tallies);
    flags = subst (Each (IsFlagged c.completed)) (sym still) stands.flags;
    own = own;
  }

  misses-stands : (m : Machine K S P) (c : Account K S (List (K × List (S × ℕ)))) (now : ℕ) → Stands m c → (r : Option (Request K P)) → IfSome r (λ r. IsIdle m.rows r.key)
      → Stands (misses a m now r) (account_after (table (names_of a)) c Leaves [])
  misses-stands m c now stands None idle = stays-stands m m c stands refl refl stands.own
  misses-stands m c now stands (Some r) idle = stays-stands m (misses a m now (Some r)) c stands (retry-same m now r.key idle) refl (retry-own m now r.key stands.own)

  times_out-stands : (m : Machine K S P) (c : Account K S (List (K × List (S × ℕ)))) (now : ℕ) → Stands m c → (r : Option (ℕ × Request K P)) → IfSome r (λ r. IsIdle m.rows r.1.key)
      → Stands (times_out a m now r) (account_after (table (names_of a)) c Leaves [])
  times_out-stands m c now stands None idle = stays-stands m m c stands refl refl stands.own
  times_out-stands m c now stands (Some r) idle = stays-stands m (times_out a m now (Some r)) c stands (retry-same m now r.1.key idle) refl (retry-own m now r.1.key stands.own)

  -- Verdicts
  module _ (m : Machine K S P) (now : ℕ) (h : Open K S P) (row : Row K S P) (value : List ℕ) (completed : List ℕ)
      (found : row_of a m h.handed.key ≡ Some row) (flags : Each (IsFlagged completed) m.deliveries) (own : Each IsOwn m.rows) where
    with_rows : List (K × Held S) → Standing K S
    with_rows rows = record (standing_of m) { rows = rows }

    retires-comes : IfSome (Some (quiet (record m { rows = remove_entry (is_key a h.handed.key) m.rows }))) (Comes (with_rows (remove_entry (same_key (names_of a) h.handed.key) (seen held_of m.rows))) [] completed)
    unfolding with_rows
    retires-comes = (ap with_rows (sym (remove_entry-seen held_of (is_key a h.handed.key) m.rows)), refl, flags, Each-remove_entry (is_key a h.handed.key) IsOwn m.rows own)

    -- a ruling does to the rows what it does to what stands
    ruled-comes : (rule : Ruling) → ((again : Bool) → rule ≡ rulings.Serve again → again ≡ was_completed completed h.handed.response)
        → IfSome (ruled a m now h row value rule) (Comes (rules (names_of a) (standing_of m) h.handed row.subscribers rule) (ruled_out (names_of a) (standing_of m) h.handed row.subscribers rule) completed)
    unfolding with_rows
    ruled-comes rulings.Retry flag = (ap with_rows (changed-seen held_of (is_key a h.handed.key) _ m.rows row found), refl, flags, retry-own m now h.handed.key own)
    ruled-comes rulings.Retire flag = retires-comes
    ruled-comes (rulings.Serve again) flag = at (without a.subscriber h.handed.subscribers row.subscribers)
      where
        at : (rest : List (S × ℕ)) → IfSome (serves_rest a m h value again rest) (Comes (serves (names_of a) (standing_of m) h.handed again rest) (served_again (names_of a) (standing_of m) h.handed rest) completed)
        at [] = retires-comes
        at (s ∷ rest) = hand_out-comes m h.handed.key (s ∷ rest) h.handed.response h.source value again row completed found flags own (flag again refl)

  -- what a verdict earns hands nothing out, and leaves what stands
  record IsPaid (m : Machine K S P) (d : Done K S P) : Type 0 where
    same : standing_of d.machine ≡ standing_of m
    still : d.machine.deliveries ≡ m.deliveries
    rows : d.machine.rows ≡ m.rows
    none : handed_out d.effects ≡ []

  account-paid : (m : Machine K S P) (h : Open K S P) (accepted : Bool) (outcome : Option Outcome) → IsPaid m (account_for a m h accepted outcome)
  account-paid m h true outcome = record { same = refl; still = refl; rows = refl; none = refl }
  account-paid m h false None = record { same = refl; still = refl; rows = refl; none = refl }
  account-paid m h false (Some (Resolved resolution)) = record { same = refl; still = refl; rows = refl; none = refl }
  account-paid m h false (Some Invalid) = record { same = refl; still = refl; rows = refl; none = refl }
  account-paid m h false (Some Unresolved) = record { same = refl; still = refl; rows = refl; none = refl }
  account-paid m h false (Some Ignored) = record { same = refl; still = refl; rows = refl; none = refl }

  -- A verdict on the open delivery h, that the account has under the number. k: the machine without it
  module _ (laws : IsEquivalence (same_key (names_of a))) (m : Machine K S P) (c : Account K S (List (K × List (S × ℕ)))) (stands : Stands m c) (now number : ℕ) (h : Open K S P)
      (flag : h.accepted ≡ was_completed c.completed h.handed.response)
      (k : Machine K S P) (same : standing_of k ≡ closes (standing_of m) number) (flags : Each (IsFlagged c.completed) k.deliveries) (own : Each IsOwn k.rows) where
    abbrev IsThere : Bool → Type 0
    IsThere live = lookup (is_at (nat_cmp number)) c.deliveries ≡ Some (record { handed = h.handed; live = live })

    abbrev completed_then : Bool → Option Outcome → List ℕ
    completed_then live outcome = completed_after_verdict c.completed outcome (Some (record { handed = h.handed; live = live }))

    rows_same : seen held_of k.rows ≡ seen held_of m.rows
    rows_same = ap (λ t. t.rows) same

    -- no other open delivery carries its response
    apart : (live : Bool) → IsThere live → Each (λ d. d.1.handed.response ≢ h.handed.response) k.deliveries
    apart live it =
        unmapped (λ o. o.handed) (λ e. e.1.response ≢ h.handed.response) k.deliveries
        (subst (Each (λ e. e.1.response ≢ h.handed.response)) (sym left)
        (Each-map (λ e. (e.0, e.1.handed)) (λ e. e.1.response ≢ h.handed.response) (remove_entry (is_at (nat_cmp number)) c.deliveries)
        (Separate-others (is_at (nat_cmp number)) c.deliveries (record { handed = h.handed; live = live }) stands.tallies.separate it)))
      where
        left : seen (λ o. o.handed) k.deliveries ≡ seen (λ w. w.handed) (remove_entry (is_at (nat_cmp number)) c.deliveries)
        left = ap (λ t. t.deliveries) same ∙ (ap (remove_entry (is_at (nat_cmp number))) stands.tallies.deliveries ∙ remove_entry-seen (λ w. w.handed) (is_at (nat_cmp number)) c.deliveries)

    -- the flags of the others stay right
    flags_then : IsThere true → (outcome : Option Outcome) → Each (IsFlagged (completed_then true outcome)) k.deliveries
    flags_then it None = flags
    flags_then it (Some (Resolved Complete)) =
        Each-imply (λ d. IsFlagged c.completed d × (d.1.handed.response ≢ h.handed.response)) (IsFlagged (h.handed.response ∷ c.completed))
        (λ d both. both.0 ∙ sym (ap (λ b. b || was_completed c.completed d.1.handed.response) (ne_eqb h.handed.response d.1.handed.response (λ is. both.1 (sym is)))))
        k.deliveries (Each-both (IsFlagged c.completed) (λ d. d.1.handed.response ≢ h.handed.response) k.deliveries flags (apart true it))
    flags_then it (Some (Resolved Partial)) = flags
    flags_then it (Some Unresolved) = flags
    flags_then it (Some Invalid) = flags
    flags_then it (Some Ignored) = flags

    -- and where the response is handed out again, it is flagged as it should be
    again_then : (outcome : Option Outcome) (again : Bool) → ruling h.accepted outcome ≡ rulings.Serve again → again ≡ was_completed (completed_then true outcome) h.handed.response
    again_then None again is = let e : h.accepted ≡ again = cc in sym e ∙ flag
    again_then (Some (Resolved Complete)) again is =
        let e : true ≡ again = cc in sym e ∙ sym (ap (λ b. b || was_completed c.completed h.handed.response) (eq-eqb h.handed.response h.handed.response refl))
    again_then (Some (Resolved Partial)) again is = cc
    again_then (Some Unresolved) again is = cc
    again_then (Some Invalid) again is = at h.accepted is
      where
        at : (b : Bool) → (if b then rulings.Retire else rulings.Retry) ≡ rulings.Serve again → again ≡ was_completed c.completed h.handed.response
        at true is = cc
        at false is = cc
    again_then (Some Ignored) again is = cc

    -- the delivery is in progress
    ruled-tells : IsThere true → (outcome : Option Outcome) (row : Row K S P) → row_of a k h.handed.key ≡ Some row → (value : List ℕ) → Tells c (Judges number outcome) (ruled a k now h row value (ruling h.accepted outcome))
    ruled-tells it outcome row is value =
        comes-tells c (Judges number outcome) (rules (names_of a) (standing_of k) h.handed row.subscribers (ruling h.accepted outcome)) (ruled_out (names_of a) (standing_of k) h.handed row.subscribers (ruling h.accepted outcome))
        (completed_then true outcome) (ruled a k now h row value (ruling h.accepted outcome))
        (subst (λ t. Tallies (names_of a) (rules (names_of a) t h.handed row.subscribers (ruling h.accepted outcome))
        (account_after (table (names_of a)) c (Judges number outcome) (ruled_out (names_of a) t h.handed row.subscribers (ruling h.accepted outcome)))) (sym same)
        (subst (λ accepted. Tallies (names_of a) (rules (names_of a) (closes (standing_of m) number) h.handed row.subscribers (ruling accepted outcome))
        (account_after (table (names_of a)) c (Judges number outcome) (ruled_out (names_of a) (closes (standing_of m) number) h.handed row.subscribers (ruling accepted outcome)))) (sym flag)
        (rules-tallies (names_of a) laws (standing_of m) c number h.handed (held_of row) outcome stands.tallies it there)))
        (ap (completed_after_verdict c.completed outcome) it)
        (ruled-comes k now h row value (completed_then true outcome) is (flags_then it outcome) own (ruling h.accepted outcome) (again_then outcome))
      where
        there : lookup (same_key (names_of a) h.handed.key) (seen held_of m.rows) ≡ Some (held_of row)
        there = ap (lookup (same_key (names_of a) h.handed.key)) (sym rows_same) ∙ (lookup-map_values held_of (is_key a h.handed.key) k.rows ∙ ap (option_map held_of) is)

    -- what is judged for its key
    judged_in_k : (o : Option (Row K S P)) → row_of a k h.handed.key ≡ o → judging_in (option_map held_of o) ≡ judging_of (names_of a) (seen held_of m.rows) h.handed.key
    judged_in_k o is =
        ap judging_in (ap (option_map held_of) (sym is) ∙ sym (lookup-map_values held_of (is_key a h.handed.key) k.rows))
        ∙ ap (λ rows. judging_of (names_of a) rows h.handed.key) rows_same

    number_in : Option Judgment → ℕ
    number_in None = 0
    number_in (Some j) = j.number

    in_progress : IsThere true → (outcome : Option Outcome) (o : Option (Row K S P)) → row_of a k h.handed.key ≡ o
        → judging_in (option_map held_of o) ≡ Some (record { number = number; response = h.handed.response; accepted = was_completed c.completed h.handed.response })
        → Tells c (Judges number outcome) (ruled_at a k now number h outcome o)
    unfolding number_in
    in_progress it outcome None is judged = cc
    in_progress it outcome (Some row) is judged = at row.phase judged
      where
        at : (p : Phase K P) → judgment_of p ≡ Some (record { number = number; response = h.handed.response; accepted = was_completed c.completed h.handed.response })
            → Tells c (Judges number outcome) (ruled_in a k now number h outcome row p)
        at (Waits place) judged = cc
        at (Asked id request) judged = cc
        at (Judged j) judged =
            subst (λ b. Tells c (Judges number outcome) (cond b (ruled a k now h row j.value (ruling h.accepted outcome)) (Some (quiet k)))) (sym (eq-eqb number j.number (sym (ap number_in judged))))
            (ruled-tells it outcome row is j.value)

    -- it is not
    passed : IsThere false → (outcome : Option Outcome) → Tells c (Judges number outcome) (Some (quiet k))
    passed it outcome = record {
      tallies =
          subst (λ t. Tallies (names_of a) t (account_after (table (names_of a)) c (Judges number outcome) [])) (sym same)
          (closes-tallies (names_of a) laws (standing_of m) c number outcome (λ w is. live_of w (sym is ∙ it)) stands.tallies);
      flags = subst (λ done. Each (IsFlagged done) k.deliveries) (sym (ap (completed_after_verdict c.completed outcome) it ∙ completed-dead (names_of a) laws c outcome h.handed)) flags;
      own = own;
    }
      where
        live_in : Option (Watched K S) → Bool
        live_in None = false
        live_in (Some w) = w.live

        live_of : (w : Watched K S) → Some w ≡ Some (record { handed = h.handed; live = false }) → w.live ≡ false
        live_of w same = ap live_in same

    not_in_progress : IsThere false → (outcome : Option Outcome) (o : Option (Row K S P)) → ((j : Judgment) → judging_in (option_map held_of o) ≡ Some j → j.number ≢ number)
        → Tells c (Judges number outcome) (ruled_at a k now number h outcome o)
    not_in_progress it outcome None other = passed it outcome
    not_in_progress it outcome (Some row) other = at row.phase other
      where
        at : (p : Phase K P) → ((j : Judgment) → judgment_of p ≡ Some j → j.number ≢ number) → Tells c (Judges number outcome) (ruled_in a k now number h outcome row p)
        at (Waits place) other = passed it outcome
        at (Asked id request) other = passed it outcome
        at (Judged j) other =
            subst (λ b. Tells c (Judges number outcome) (cond b (ruled a k now h row j.value (ruling h.accepted outcome)) (Some (quiet k))))
            (sym (ne_eqb number j.number (λ is. other (record { number = j.number; response = j.response; accepted = j.accepted }) refl (sym is)))) (passed it outcome)

    by_live : (live : Bool) → IsThere live → (outcome : Option Outcome) → Tells c (Judges number outcome) (ruled_at a k now number h outcome (row_of a k h.handed.key))
    by_live true it outcome =
        in_progress it outcome (row_of a k h.handed.key) refl
        (judged_in_k (row_of a k h.handed.key) refl ∙ judged_at (names_of a) laws (standing_of m) c number h.handed stands.tallies it)
    by_live false it outcome =
        not_in_progress it outcome (row_of a k h.handed.key)
        (λ j is. Each-lookup (Fits (names_of a) (standing_of m).rows c.completed) number c.deliveries (record { handed = h.handed; live = false }) stands.tallies.fits it j (sym (judged_in_k (row_of a k h.handed.key) refl) ∙ is))

  closed-same : (m : Machine K S P) (number : ℕ) → standing_of (closed m number) ≡ closes (standing_of m) number
  closed-same m number =
      ap with_deliveries (ap (λ (test : Test). seen (λ o. o.handed) (remove_entry test m.deliveries)) (same_tests number) ∙ sym (remove_entry-seen (λ o. o.handed) (is_at (nat_cmp number)) m.deliveries))
    where
      with_deliveries : List (ℕ × Handed K S) → Standing K S
      with_deliveries ds = record (standing_of m) { deliveries = ds }

  -- what is open under a number
  pub open-alike : (m : Machine K S P) (c : Account K S (List (K × List (S × ℕ)))) (number : ℕ) → Stands m c
      → option_map (λ o. o.handed) (lookup (λ n. number == n) m.deliveries) ≡ option_map (λ w. w.handed) (lookup (is_at (nat_cmp number)) c.deliveries)
  open-alike m c number stands =
      ap (λ (test : Test). option_map (λ o. o.handed) (lookup test m.deliveries)) (same_tests number)
      ∙ (sym (lookup-map_values (λ o. o.handed) (is_at (nat_cmp number)) m.deliveries)
      ∙ (ap (lookup (is_at (nat_cmp number))) stands.tallies.deliveries ∙ lookup-map_values (λ w. w.handed) (is_at (nat_cmp number)) c.deliveries))

  verdict-tells : IsEquivalence (same_key (names_of a)) → (m : Machine K S P) (c : Account K S (List (K × List (S × ℕ)))) (now number : ℕ) (outcome : Option Outcome) → Stands m c
      → Tells c (Judges number outcome) (verdict a m now number outcome)
  verdict-tells laws m c now number outcome stands = at (lookup (λ n. number == n) m.deliveries) refl (lookup (is_at (nat_cmp number)) c.deliveries) refl (open-alike m c number stands)
    where
      on : (h : Open K S P) → lookup (λ n. number == n) m.deliveries ≡ Some h → (w : Watched K S) → h.handed ≡ w.handed → lookup (is_at (nat_cmp number)) c.deliveries ≡ Some w
          → Tells c (Judges number outcome) (verdict_on a m now number outcome (Some h))
      on h found w handed it =
          paid-tells c (Judges number outcome) d.effects paid.none (ruled_at a d.machine now number h outcome (row_of a d.machine h.handed.key))
          (by_live laws m c stands now number h (Each-found (λ o. o.accepted ≡ was_completed c.completed o.handed.response) (λ n. number == n) m.deliveries h stands.flags found)
          d.machine (paid.same ∙ closed-same m number)
          (subst (Each (IsFlagged c.completed)) (sym paid.still) (Each-remove_entry (λ n. number == n) (IsFlagged c.completed) m.deliveries stands.flags))
          (subst (Each IsOwn) (sym paid.rows) stands.own)
          w.live (it ∙ ap (with_handed w.live) (sym handed)) outcome)
        where
          d : Done K S P
          d = account_for a (closed m number) h h.accepted outcome

          paid : IsPaid (closed m number) d
          paid = account-paid (closed m number) h h.accepted outcome

          with_handed : Bool → Handed K S → Option (Watched K S)
          with_handed live h = Some (record { handed = h; live = live })

      at : (o : Option (Open K S P)) → lookup (λ n. number == n) m.deliveries ≡ o → (w : Option (Watched K S)) → lookup (is_at (nat_cmp number)) c.deliveries ≡ w
          → option_map (λ o. o.handed) o ≡ option_map (λ w. w.handed) w → Tells c (Judges number outcome) (verdict_on a m now number outcome o)
      at None found None it tied = record {
        tallies =
            subst (λ t. Tallies (names_of a) t (account_after (table (names_of a)) c (Judges number outcome) [])) nothing_closed
            (closes-tallies (names_of a) laws (standing_of m) c number outcome (λ w is. let clash : _ = sym it ∙ is in cc) stands.tallies);
        flags = subst (λ done. Each (IsFlagged done) m.deliveries) (sym (ap (completed_after_verdict c.completed outcome) it ∙ completed-none (names_of a) laws c outcome)) stands.flags;
        own = stands.own;
      }
        where
          with_deliveries : List (ℕ × Handed K S) → Standing K S
          with_deliveries ds = record (standing_of m) { deliveries = ds }

          nothing_closed : closes (standing_of m) number ≡ standing_of m
          nothing_closed =
              ap with_deliveries (remove_entry-absent (is_at (nat_cmp number)) (standing_of m).deliveries
              (ap (lookup (is_at (nat_cmp number))) stands.tallies.deliveries ∙ (lookup-map_values (λ w. w.handed) (is_at (nat_cmp number)) c.deliveries ∙ ap (option_map (λ w. w.handed)) it)))
      at None found (Some w) it tied = cc
      at (Some h) found None it tied = cc
      at (Some h) found (Some w) it tied = on h found w (let e : h.handed ≡ w.handed = cc in e) it

  either-stands : (c : Account K S (List (K × List (S × ℕ)))) (b : Bool) (m k : Machine K S P) → Stands m c → Stands k c → Stands (if b then m else k) c
  either-stands c true m k stands others = stands
  either-stands c false m k stands others = others

  if-tells : (c : Account K S (List (K × List (S × ℕ)))) (change : Change K S) (b : Bool) (d : Done K S P) → Stands d.machine (account_after (table (names_of a)) c change (handed_out d.effects)) → Tells c change (if b then Some d else None)
  if-tells c change true d stands = stands
  if-tells c change false d stands = tt

  -- what a running machine does at an event
  does-tells : IsEquivalence (same_key (names_of a)) → (m : Machine K S P) (c : Account K S (List (K × List (S × ℕ)))) (now : ℕ) (event : Event K S P) → Stands m c
      → Tells c (change_of (Happens event)) (does a m now event)
  does-tells laws m c now (Fetch items) stands = record {
    tallies =
        subst (λ t. Tallies (names_of a) t (account_after (table (names_of a)) c (Adds (items_of items)) [])) (sym (fetch-comes m now items))
        (asks-tallies (names_of a) laws (standing_of m) c (items_of items) stands.tallies);
    flags = subst (Each (IsFlagged c.completed)) (sym (fetch-open m now items)) stands.flags;
    own = fetch-own m now items stands.own;
  }
  does-tells laws m c now (Retain keep) stands =
      comes-tells c (Keeps keep) (keeps (standing_of m) keep) [] c.completed (Some (retain m keep)) (keeps-tallies (names_of a) laws (standing_of m) c keep stands.tallies) refl
      (ap with_rows (retain-rows keep m.rows), cancels-none (filter (λ r. not (has_subscribers r)) (map (pruned keep) m.rows)), stands.flags, retain-own keep m.rows stands.own)
    where
      with_rows : List (K × Held S) → Standing K S
      with_rows rows = record (standing_of m) { rows = rows }
  does-tells laws m c now (PeerSet index peers) stands =
      either-stands (account_after (table (names_of a)) c Leaves []) (is_newer m.last_index index) _ m (stays-stands m _ c stands refl refl stands.own) (stays-stands m m c stands refl refl stands.own)
  does-tells laws m c now (Blocked peers) stands = stays-stands m _ c stands refl refl stands.own
  does-tells laws m c now ActiveDue stands =
      times_out-stands m c now stands (overdue (snapshot a m).asked now)
      (overdue-is (λ r. IsIdle m.rows r.key) (snapshot a m).asked now (asked-idle m laws (found_rows m laws stands.tallies.distinct) stands.own))
  does-tells laws m c now PendingDue stands = stays-stands m m c stands refl refl stands.own
  does-tells laws m c now (Verdict number outcome) stands = verdict-tells laws m c now number outcome stands
  does-tells laws m c now (Served serve bytes) stands = at (lookup (λ n. serve == n) m.serves)
    where
      at : (o : Option (Serve P)) → Tells c Leaves (Some (served_by m serve bytes o))
      at None = stays-stands m m c stands refl refl stands.own
      at (Some s) = stays-stands m (served_by m serve bytes (Some s)).machine c stands refl refl stands.own
  does-tells laws m c now (Net peer None) stands = stays-stands m m c stands refl refl stands.own
  does-tells laws m c now (Net peer (Some message)) stands = at message.payload
    where
      idle : IfSome (answered a m peer message.id) (λ r. IsIdle m.rows r.key)
      idle = answered-idle m peer message.id (asked-idle m laws (found_rows m laws stands.tallies.distinct) stands.own)

      at : (payload : Payload K) → Tells c Leaves (receive a m now peer message.id payload)
      at (payloads.Request key) = if-tells c Leaves (nat_lt m.next_serve (2 ^ 64)) _ (stays-stands m _ c stands refl refl stands.own)
      at (payloads.Response value) = responds-tells laws m c now value stands (answered a m peer message.id) idle
      at payloads.Error = misses-stands m c now stands (answered a m peer message.id) idle
  does-tells laws m c now End stands =
      comes-tells c Empties (ends (standing_of m)) [] c.completed (Some (end m)) (ends-tallies (names_of a) (standing_of m) c stands.tallies) refl (refl, cancels-none m.rows, tt, tt)

  -- Scans: the key that is sent for waits.
  abbrev SendsIdle : Machine K S P → Turn K P → Type 0
  SendsIdle m t = IfSome t.sent (λ r. IsIdle m.rows r.1.key)

  goes_on-idle : (m : Machine K S P) (s : Snapshot K P) (scan : Scan K P) → SendsIdle m (scans.goes_on (orders_of a) s scan)
  goes_on-idle m s scan = at (scans.next (orders_of a) s scan)
    where
      at : (o : Option (K × Waiting P)) → SendsIdle m (scans.goes_on_with (orders_of a) s scan o)
      at None = tt
      at (Some w) = tt

  fails-idle : (m : Machine K S P) (s : Snapshot K P) (scan : Scan K P) (key : K) (peer : P) (reason : Reason) → SendsIdle m (scans.fails (orders_of a) s scan key peer reason)
  fails-idle m s scan key peer reason = goes_on-idle m s (record scan { trail = scan.trail ++ record { key = key; peer = peer; reason = reason } ∷ [] })

  draws-idle : (m : Machine K S P) (s : Snapshot K P) (scan : Scan K P) (o : Option P) → IfOk (scans.draws (orders_of a) s scan o) (SendsIdle m)
  draws-idle m s scan None = tt
  draws-idle m s scan (Some peer) = tt

  clears-idle : (m : Machine K S P) (s : Snapshot K P) (scan : Scan K P) (peer : P) (last : Option ℕ) → SendsIdle m (scans.clears (orders_of a) s scan peer last)
  clears-idle m s scan peer None = tt
  clears-idle m s scan peer (Some last) = tt

  within-idle : (m : Machine K S P) (b : Bool) (t : Turn K P) (fault : Fault) → SendsIdle m t → IfOk (if b then Ok t else Err fault) (SendsIdle m)
  within-idle m true t fault idle = idle
  within-idle m false t fault idle = tt

  answered-for-idle : (m : Machine K S P) (s : Snapshot K P) (scan : Scan K P) (w : K × Waiting P) → IsIdle m.rows w.0 → (expected : Expected P) (answer : Answer)
      → IfOk (scans.answered (orders_of a) s scan w expected answer) (SendsIdle m)
  answered-for-idle m s scan w idle Mode (Drawn n) = within-idle m (nat_lt n (w.1.retries + 4)) _ _ tt
  answered-for-idle m s scan w idle ByWeight (Drawn n) = draws-idle m s scan (scans.by_weight (scans.left (orders_of a) s scan.trail w) n)
  answered-for-idle m s scan w idle ByPlace (Drawn n) = draws-idle m s scan (scans.by_place (scans.left (orders_of a) s scan.trail w) n)
  answered-for-idle m s scan w idle (Checking peer) (Checked Clear) = clears-idle m s scan peer s.last_id
  answered-for-idle m s scan w idle (Checking peer) (Checked (Until moment)) = fails-idle m s scan w.0 peer (Limited moment)
  answered-for-idle m s scan w idle (FirstId peer) (Drawn n) = within-idle m (nat_lt n (2 ^ 64)) _ _ tt
  answered-for-idle m s scan w idle (Sending peer id) (Sent true) = idle
  answered-for-idle m s scan w idle (Sending peer id) (Sent false) = fails-idle m s scan w.0 peer Refused
  answered-for-idle m s scan w idle Mode (Checked check) = tt
  answered-for-idle m s scan w idle Mode (Sent sent) = tt
  answered-for-idle m s scan w idle ByWeight (Checked check) = tt
  answered-for-idle m s scan w idle ByWeight (Sent sent) = tt
  answered-for-idle m s scan w idle ByPlace (Checked check) = tt
  answered-for-idle m s scan w idle ByPlace (Sent sent) = tt
  answered-for-idle m s scan w idle (Checking peer) (Drawn n) = tt
  answered-for-idle m s scan w idle (Checking peer) (Sent sent) = tt
  answered-for-idle m s scan w idle (FirstId peer) (Checked check) = tt
  answered-for-idle m s scan w idle (FirstId peer) (Sent sent) = tt
  answered-for-idle m s scan w idle (Sending peer id) (Drawn n) = tt
  answered-for-idle m s scan w idle (Sending peer id) (Checked check) = tt

  takes-idle : (m : Machine K S P) → Each (λ w. IsIdle m.rows w.0) (snapshot a m).waiting → (scan : Scan K P) (answer : Answer) → IfOk (scans.takes (orders_of a) (snapshot a m) scan answer) (SendsIdle m)
  takes-idle m waiting scan answer = at (scans.next (orders_of a) (snapshot a m) scan) refl scan.expects
    where
      at : (o : Option (K × Waiting P)) → scans.next (orders_of a) (snapshot a m) scan ≡ o → (expects : Option (Expected P)) → IfOk (scans.takes_for (orders_of a) (snapshot a m) scan o expects answer) (SendsIdle m)
      at None is expects = tt
      at (Some w) is None = tt
      at (Some w) is (Some expected) =
          answered-for-idle m (snapshot a m) scan w (Each-find (λ w. IsIdle m.rows w.0) (scans.can_be_tried (orders_of a) (snapshot a m) scan) (snapshot a m).waiting w waiting is).0 expected answer

  turned-stands : (m : Machine K S P) (c : Account K S (List (K × List (S × ℕ)))) → Stands m c → (t : Turn K P) → SendsIdle m t → Stands (turned a m t) c
  unfolding with_judging
  turned-stands m c stands t idle = at t.sent idle
    where
      with_rows : List (K × Held S) → Standing K S
      with_rows rows = record (standing_of m) { rows = rows }

      at : (o : Option (ℕ × Request K P)) → IfSome o (λ r. IsIdle m.rows r.1.key) → Stands (record (with_sent a m o) { scan = t.scan; last_id = t.last_id; waiter = t.waiter }) c
      at None idle = record { tallies = stands.tallies; flags = stands.flags; own = stands.own }
      at (Some r) idle = record {
        tallies = subst (λ t. Tallies (names_of a) t c) (sym (ap with_rows (idle_rows m.rows r.1.key _ (λ row. refl) idle))) stands.tallies;
        flags = stands.flags;
        own = Each-changed (is_key a r.1.key) _ IsOwn m.rows (λ k x is here. is) stands.own;
      }

  asks-none : (m : Machine K S P) (q : Option (Question K P)) → handed_out {K = K} {S = S} {P = P} (option_to_list (option_map Ask q)) ≡ []
  asks-none m None = refl
  asks-none m (Some q) = refl

  -- the scan that an event gives rise to
  scanned-stands : IsEquivalence (same_key (names_of a)) → (b : Bool) (m : Machine K S P) (c : Account K S (List (K × List (S × ℕ)))) (now : ℕ) → Stands m c
      → Stands (scanned_if a b m now).machine c × (handed_out (scanned_if a b m now).effects ≡ [])
  scanned-stands laws true m c now stands =
      let t : Turn K P = scans.begins (orders_of a) (snapshot a m) now in
      (turned-stands m c stands t (goes_on-idle m (snapshot a m) (record { moment = now; trail = []; expects = None })), asks-none m (question a (turned a m t)))
  scanned-stands laws false m c now stands = (stands, refl)

  -- Steps that are taken
  not_taken : (answer : Result (List (Effect K S P)) Fault) (fault : Fault) (effects : List (Effect K S P)) → answer ≡ Err fault → answer ≡ Ok effects → ⊥
  not_taken answer fault effects is_not is = cc

  effects_in : Result (List (Effect K S P)) Fault → List (Effect K S P)
  effects_in (Ok effects) = effects
  effects_in (Err fault) = []

  -- the answer of such a step, and the machine after it
  answers-stands : (c : Account K S (List (K × List (S × ℕ)))) (change : Change K S) (d : Done K S P) (effects : List (Effect K S P)) (mid : Machine K S P)
      → Stands d.machine (account_after (table (names_of a)) c change (handed_out d.effects))
      → ◌≡◌ {A = Result (List (Effect K S P)) Fault × Machine K S P} (Ok d.effects, d.machine) (Ok effects, mid)
      → Stands mid (account_after (table (names_of a)) c change (handed_out effects))
  unfolding effects_in
  answers-stands c change d effects mid stands is =
      subst (λ m. Stands m (account_after (table (names_of a)) c change (handed_out effects))) (ap (λ p. p.1) is)
      (subst (λ es. Stands d.machine (account_after (table (names_of a)) c change (handed_out es))) (ap (λ p. effects_in p.0) is) stands)

  happened-stands : IsEquivalence (same_key (names_of a)) → (c : Account K S (List (K × List (S × ℕ)))) (change : Change K S) (o : Option (Done K S P)) (m mid : Machine K S P) (now : ℕ) (effects : List (Effect K S P))
      → Tells c change o → step_of a (option_and_then (λ d. and_then d (λ n. Some (scanned a n now))) o) m ≡ (Ok effects, mid)
      → Stands mid (account_after (table (names_of a)) c change (handed_out effects))
  happened-stands laws c change None m mid now effects tells is = absurd (not_taken (Err faults.Exhausted) faults.Exhausted effects refl (ap (λ p. p.0) is))
  happened-stands laws c change (Some d) m mid now effects tells is =
      let after : _ = scanned-stands laws (is_due now (wake_up a d.machine)) d.machine (account_after (table (names_of a)) c change (handed_out d.effects)) now tells in
      let e : Done K S P = scanned a d.machine now in
      let all : handed_out (d.effects ++ e.effects) ≡ handed_out d.effects = filter_map-append delivery_in d.effects e.effects ∙ (ap (λ hs. handed_out d.effects ++ hs) after.1 ∙ append-nil (handed_out d.effects)) in
      answers-stands c change (record { machine = e.machine; effects = d.effects ++ e.effects }) effects mid
      (subst (λ hs. Stands e.machine (account_after (table (names_of a)) c change hs)) (sym all) after.0) is

  answered-stands : (m mid : Machine K S P) (c : Account K S (List (K × List (S × ℕ)))) (effects : List (Effect K S P)) → Stands m c → (r : Result (Turn K P) Fault) → IfOk r (SendsIdle m)
      → answer_of a r m ≡ (Ok effects, mid) → Stands mid (account_after (table (names_of a)) c Leaves (handed_out effects))
  answered-stands m mid c effects stands (Err fault) idle is = absurd (not_taken (Err fault) fault effects refl (ap (λ p. p.0) is))
  answered-stands m mid c effects stands (Ok t) idle is =
      answers-stands c Leaves (record { machine = turned a m t; effects = option_to_list (option_map Ask (question a (turned a m t))) }) effects mid
      (subst (λ hs. Stands (turned a m t) (account_after (table (names_of a)) c Leaves hs)) (sym (asks-none m (question a (turned a m t))))
      (turned-stands m (account_after (table (names_of a)) c Leaves []) (stays-stands m m c stands refl refl stands.own) t idle)) is

  running-stands : IsEquivalence (same_key (names_of a)) → (over : Bool) (m mid : Machine K S P) (c : Account K S (List (K × List (S × ℕ)))) (now : ℕ) (input : Input K S P) (effects : List (Effect K S P)) → Stands m c
      → step_running a over m now input ≡ (Ok effects, mid) → Stands mid (account_after (table (names_of a)) c (change_of input) (handed_out effects))
  running-stands laws true m mid c now (Happens event) effects stands is =
      happened-stands laws c (change_of (Happens event)) (does a (record m { moment = now }) now event) m mid now effects
      (does-tells laws (record m { moment = now }) c now event (record { tallies = stands.tallies; flags = stands.flags; own = stands.own })) is
  running-stands laws false m mid c now (Happens event) effects stands is = absurd (not_taken (Err faults.Busy) faults.Busy effects refl (ap (λ p. p.0) is))
  running-stands laws over m mid c now (Answers answer) effects stands is =
      answered-stands m mid c effects stands (scans.takes (orders_of a) (snapshot a m) m.scan answer) (takes-idle m (waiting-idle m (found_rows m laws stands.tallies.distinct)) m.scan answer) is

  taken-stands : IsEquivalence (same_key (names_of a)) → (status : Status) (m mid : Machine K S P) (c : Account K S (List (K × List (S × ℕ)))) (now : ℕ) (input : Input K S P) (effects : List (Effect K S P)) → Stands m c
      → step_in a status m now input ≡ (Ok effects, mid) → Stands mid (account_after (table (names_of a)) c (change_of input) (handed_out effects))
  taken-stands laws Running m mid c now input effects stands is = running-stands laws (is_over m.scan) m mid c now input effects stands is
  taken-stands laws Ended m mid c now input effects stands is = absurd (not_taken (Err faults.Ended) faults.Ended effects refl (ap (λ p. p.0) is))
  taken-stands laws Failed m mid c now input effects stands is = absurd (not_taken (Err faults.Failed) faults.Failed effects refl (ap (λ p. p.0) is))

  -- Steps that are refused
  fault_in : Result (List (Effect K S P)) Fault → Fault
  fault_in (Ok effects) = faults.Exhausted
  fault_in (Err fault) = fault

  refused-same : (m mid : Machine K S P) (now : ℕ) (input : Input K S P) (fault : Fault) → fault ≢ faults.Exhausted → (status : Status) → step_in a status m now input ≡ (Err fault, mid) → mid ≡ m
  unfolding fault_in
  refused-same m mid now input fault other Running is = at (is_over m.scan) input is
    where
      happened : (o : Option (Done K S P)) → step_of a o m ≡ (Err fault, mid) → mid ≡ m
      happened None is = absurd (other (sym (ap (λ p. fault_in p.0) is)))
      happened (Some d) is = absurd (other (sym (ap (λ p. fault_in p.0) is)))

      answered_with : (r : Result (Turn K P) Fault) → answer_of a r m ≡ (Err fault, mid) → mid ≡ m
      answered_with (Err other) is = sym (ap (λ p. p.1) is)
      answered_with (Ok t) is = absurd (other (sym (ap (λ p. fault_in p.0) is)))

      at : (over : Bool) (input : Input K S P) → step_running a over m now input ≡ (Err fault, mid) → mid ≡ m
      at true (Happens event) is = happened (happen a m now event) is
      at false (Happens event) is = sym (ap (λ p. p.1) is)
      at over (Answers answer) is = answered_with (scans.takes (orders_of a) (snapshot a m) m.scan answer) is
  refused-same m mid now input fault other Ended is = sym (ap (λ p. p.1) is)
  refused-same m mid now input fault other Failed is = sym (ap (λ p. p.1) is)

  -- In each run that did not fail, the account of the inputs taken is what the machine stands at.
  runs-stands : IsEquivalence (same_key (names_of a)) → (inputs : List (Fed K S P)) (answers : List (Result (List (Effect K S P)) Fault)) (old m : Machine K S P) (c : Account K S (List (K × List (S × ℕ))))
      → Stands old c → Runs a old inputs answers m → m.status ≢ Failed → Stands m (account_of (table (names_of a)) c (taken inputs answers))
  runs-stands laws [] [] old m c stands runs sound = subst (λ m. Stands m c) (sym runs) stands
  runs-stands laws [] (answer ∷ answers) old m c stands runs sound = absurd runs
  runs-stands laws (fed ∷ inputs) [] old m c stands runs sound = absurd runs
  runs-stands laws (fed ∷ inputs) (Ok effects ∷ answers) old m c stands runs sound =
      runs-stands laws inputs answers runs.0 m (account_after (table (names_of a)) c (change_of fed.input) (handed_out effects)) (taken-stands laws old.status old runs.0 c fed.now fed.input effects stands runs.1) runs.2 sound
  runs-stands laws (fed ∷ inputs) (Err faults.OutOfMemory ∷ answers) old m c stands runs sound = absurd (sound (ap (λ m. m.status) runs.2.1 ∙ runs.1.1))
  runs-stands laws (fed ∷ inputs) (Err faults.Exhausted ∷ answers) old m c stands runs sound = absurd (sound (ap (λ m. m.status) runs.2.1 ∙ runs.1.1))
  runs-stands laws (fed ∷ inputs) (Err fault ∷ answers) old m c stands runs sound =
      runs-stands laws inputs answers runs.0 m c (subst (λ m. Stands m c) (sym (refused-same old runs.0 fed.now fed.input fault (λ is. cc) old.status runs.1)) stands) runs.2 sound

  opening-stands : (configuration : Config P) (priority_responses : Bool) → Stands (opening configuration priority_responses) (nothing_asked (table (names_of a)))
  opening-stands configuration priority_responses = record { tallies = opening-tallies (names_of a); flags = tt; own = tt }

  demanded-seen : (rows : List (K × Row K S P)) → seen (λ h. h.subscribers) (seen held_of rows) ≡ demanded rows
  demanded-seen [] = refl
  demanded-seen (r ∷ rs) = ap (λ d. (r.0, r.1.subscribers) ∷ d) (demanded-seen rs)

  -- in every run from the opening state that did not fail
  pub run-stands : IsEquivalence (same_key (names_of a)) → (configuration : Config P) (priority_responses : Bool) (inputs : List (Fed K S P)) (answers : List (Result (List (Effect K S P)) Fault)) (new : Machine K S P)
      → Runs a (opening configuration priority_responses) inputs answers new → new.status ≢ Failed
      → Stands new (account_of (table (names_of a)) (nothing_asked (table (names_of a))) (taken inputs answers))
  run-stands laws configuration priority_responses inputs answers new runs sound =
      runs-stands laws inputs answers (opening configuration priority_responses) new (nothing_asked (table (names_of a))) (opening-stands configuration priority_responses) runs sound

  -- the table of who is asked for is kept in every run
  pub table_is_kept : IsEquivalence (same_key (names_of a)) → (configuration : Config P) (priority_responses : Bool) (inputs : List (Fed K S P)) (answers : List (Result (List (Effect K S P)) Fault)) (new : Machine K S P)
      → Runs a (opening configuration priority_responses) inputs answers new → new.status ≢ Failed
      → demanded new.rows ≡ (account_of (table (names_of a)) (nothing_asked (table (names_of a))) (taken inputs answers)).demand
  table_is_kept laws configuration priority_responses inputs answers new runs sound =
      sym (demanded-seen new.rows) ∙ (run-stands laws configuration priority_responses inputs answers new runs sound).tallies.demand
