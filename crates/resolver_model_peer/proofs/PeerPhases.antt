-- What an event leaves of a machine, and what it leaves of the phases of its rows.
use Rattle.std.proofs.Common.{◌≡◌, refl, ◌∙◌, ℕ, ◌+◌, ◌^◌, Bool, true, false, cond, ◌==◌, List, [], ◌∷◌, ◌++◌, Option, None, Some, filter, map, if◌then◌else◌}
use Rattle.std.specs.Prelude.{option_map, option_and_then, nat_lt, ⊤}
use Rattle.std.specs.Map.{lookup, remove_entry}
use Rattle.std.specs.BTreeMap.{insert_entry}
use Rattle.std.specs.Ordering.{match_ordering}
use Rattle.std.specs.declared.cmp.Ordering.{Ordering}
use Rattle.std.specs.declared.cmp.Ordering.TheVariants.{Less, Equal, Greater}
use Rattle.resolver_types.specs.declared.outcome.Outcome.{Outcome}
use Rattle.resolver_types.specs.declared.outcome.Outcome.TheVariants.{Invalid, Resolved, Unresolved, Ignored}
use Rattle.resolver_types.specs.Subscribers.{without}
use Rattle.resolver_fetch_requests.specs.declared.requests.request.Request.{Request}
use Rattle.resolver_fetch_requests.specs.Requests.{overdue}
use Rattle.resolver_sampling.specs.Times.{elapsed_since}
use Rattle.resolver_wire.specs.declared.wire.Payload.{Payload}
use Rattle.resolver_wire.specs.declared.wire.Payload.TheVariants as payloads
use Rattle.resolver_fetch_scan.specs.Waiting.{fresh_at, retry_at}
use Rattle.resolver_fetch_scan.specs.FetcherLaws.{AllAre}
use Rattle.resolver_model.specs.declared.ruling.Ruling.{Ruling}
use Rattle.resolver_model.specs.declared.ruling.Ruling.TheVariants as rulings
use Rattle.resolver_model.specs.Verdicts.{ruling}
use Rattle.resolver_model_peer.specs.Parties.{Parties}
use Rattle.resolver_model_peer.specs.PeerRows.{Row, Phase, Waits, Asked, Judged, Judging, change_entry}
use Rattle.resolver_model_peer.specs.declared.named.Serve.{Serve}
use Rattle.resolver_model_peer.specs.Peer.{Machine, Open, Done, Item, Event, Fetch, Retain, PeerSet, Blocked, ActiveDue, PendingDue, Verdict, Served, Net, End, quiet, snapshot, closed, served_by, row_of, is_key, fetch, fetch_one, fails, times_out, hand_out, account_for, serves_rest, ruled, ruled_in, ruled_at, verdict_on, freed, responds, misses, answered, receive, does, retry, has_subscribers, pruned, is_newer}

-- Of each row's phase this is so.
module _ {K S P : Type 0} (Q : Phase K P → Type 0) where
  abbrev pub RowsAre : List (K × Row K S P) → Type 0
  RowsAre rows = AllAre (λ r. Q r.1.phase) rows

  are-inserted : (cmp : K → K → Ordering) (key : K) (row : Row K S P) (rows : List (K × Row K S P)) → Q row.phase → RowsAre rows → RowsAre (insert_entry cmp rows key row)
  are-inserted cmp key row [] new all = (new, tt)
  are-inserted cmp key row (r ∷ rows) new all = at (cmp key r.0) (are-inserted cmp key row rows new all.1) where
    at : (o : Ordering) → RowsAre (insert_entry cmp rows key row) → RowsAre (match_ordering o ((key, row) ∷ r ∷ rows) ((r.0, row) ∷ rows) (r ∷ insert_entry cmp rows key row))
    at Less rest = (new, all)
    at Equal rest = (new, all.1)
    at Greater rest = (all.0, rest)

  pub are-changed : (test : K → Bool) (f : Row K S P → Row K S P) → ((row : Row K S P) → Q row.phase → Q (f row).phase) → (rows : List (K × Row K S P)) → RowsAre rows → RowsAre (change_entry test f rows)
  are-changed test f keeps [] all = tt
  are-changed test f keeps (r ∷ rows) all = at (test r.0) (are-changed test f keeps rows all.1) where
    at : (b : Bool) → RowsAre (change_entry test f rows) → RowsAre (if b then (r.0, f r.1) ∷ rows else r ∷ change_entry test f rows)
    at true rest = (keeps r.1 all.0, all.1)
    at false rest = (all.0, rest)

  are-removed : (test : K → Bool) (rows : List (K × Row K S P)) → RowsAre rows → RowsAre (remove_entry test rows)
  are-removed test [] all = tt
  are-removed test (r ∷ rows) all = at (test r.0) (are-removed test rows all.1) where
    at : (b : Bool) → RowsAre (remove_entry test rows) → RowsAre (cond b rows (r ∷ remove_entry test rows))
    at true rest = all.1
    at false rest = (all.0, rest)

  are-retained : (keep : K → S → Bool) (rows : List (K × Row K S P)) → RowsAre rows → RowsAre (filter has_subscribers (map (pruned keep) rows))
  are-retained keep [] all = tt
  are-retained keep (r ∷ rows) all = at (has_subscribers (pruned keep r)) (are-retained keep rows all.1) where
    at : (b : Bool) → RowsAre (filter has_subscribers (map (pruned keep) rows)) → RowsAre (cond b (pruned keep r ∷ filter has_subscribers (map (pruned keep) rows)) (filter has_subscribers (map (pruned keep) rows)))
    at true rest = (all.0, rest)
    at false rest = rest

  -- an event leaves the configuration, the last id and the moment, and what is so of each row's phase
  abbrev pub IsKept : (m n : Machine K S P) → Type 0
  IsKept m n = (n.configuration ≡ m.configuration) × (n.last_id ≡ m.last_id) × (n.moment ≡ m.moment) × (RowsAre m.rows → RowsAre n.rows)

  abbrev pub IsKeptIfDone : Machine K S P → Option (Done K S P) → Type 0
  IsKeptIfDone m None = ⊤
  IsKeptIfDone m (Some d) = IsKept m d.machine

  kept-through : (l m n : Machine K S P) → IsKept l m → IsKept m n → IsKept l n
  kept-through l m n first second = (second.0 ∙ first.0, second.1 ∙ first.1, second.2 ∙ first.2, λ all. second.3 (first.3 all))

  kept-if : (m : Machine K S P) (b : Bool) (d : Done K S P) → IsKept m d.machine → IsKeptIfDone m (if b then Some d else None)
  kept-if m true d kept = kept
  kept-if m false d kept = tt

  kept-either : (m : Machine K S P) (b : Bool) (o : Option (Done K S P)) → IsKeptIfDone m o → IsKeptIfDone m (if b then o else Some (quiet m))
  kept-either m true o kept = kept
  kept-either m false o kept = (refl, refl, refl, λ all. all)

  kept-and : (m : Machine K S P) (d : Done K S P) (o : Option (Done K S P)) → IsKept m d.machine → IsKeptIfDone d.machine o
      → IsKeptIfDone m (option_map (λ e. record { machine = e.machine; effects = d.effects ++ e.effects }) o)
  kept-and m d None first second = tt
  kept-and m d (Some e) first second = kept-through m d.machine e.machine first second

-- It is so of keys that wait since now, of those that are retried, and of those that are judged.
module _ {K S P : Type 0} (a : Parties K S P) (Q : Phase K P → Type 0) (now : ℕ) (fresh : Q (Waits (fresh_at now))) (again : (due : ℕ) → Q (Waits (retry_at due))) (judged : (j : Judging P) → Q (Judged j)) where
  fetch_one-kept : (m : Machine K S P) (item : Item K S P) (row : Option (Row K S P)) → IsKept Q m (fetch_one a m now item row)
  fetch_one-kept m item None = (refl, refl, refl, λ all. are-inserted Q a.key item.key _ m.rows fresh all)
  fetch_one-kept m item (Some row) = (refl, refl, refl, λ all. are-changed Q (is_key a item.key) _ (λ row q. q) m.rows all)

  fetch-kept : (m : Machine K S P) (items : List (Item K S P)) → IsKept Q m (fetch a m now items)
  fetch-kept m [] = (refl, refl, refl, λ all. all)
  fetch-kept m (item ∷ items) =
      let n : Machine K S P = fetch_one a m now item (row_of a m item.key) in
      kept-through Q m n (fetch a n now items) (fetch_one-kept m item (row_of a m item.key)) (fetch-kept n items)

  peers-kept : (m n : Machine K S P) (b : Bool) → IsKept Q m n → IsKept Q m (if b then n else m)
  peers-kept m n true kept = kept
  peers-kept m n false kept = (refl, refl, refl, λ all. all)

  retry-kept : (m : Machine K S P) (key : K) → IsKept Q m (retry a m now key)
  retry-kept m key = (refl, refl, refl, λ all. are-changed Q (is_key a key) _ (λ row q. again (now + m.configuration.retry_delay)) m.rows all)

  fails-kept : (m : Machine K S P) (r : Request K P) (time : ℕ) → IsKept Q m (fails a m now r time)
  fails-kept m r time = (refl, refl, refl, λ all. are-changed Q (is_key a r.key) _ (λ row q. again (now + m.configuration.retry_delay)) m.rows all)

  times_out-kept : (m : Machine K S P) (r : Option (ℕ × Request K P)) → IsKept Q m (times_out a m now r)
  times_out-kept m None = (refl, refl, refl, λ all. all)
  times_out-kept m (Some r) = fails-kept m r.1 m.configuration.fetch_timeout

  misses-kept : (m : Machine K S P) (r : Option (Request K P)) → IsKept Q m (misses a m now r)
  misses-kept m None = (refl, refl, refl, λ all. all)
  misses-kept m (Some r) = fails-kept m r (elapsed_since r.start now)

  served-kept : (m : Machine K S P) (serve : ℕ) (bytes : Option (List ℕ)) (s : Option (Serve P)) → IsKept Q m (served_by m serve bytes s).machine
  served-kept m serve bytes None = (refl, refl, refl, λ all. all)
  served-kept m serve bytes (Some s) = (refl, refl, refl, λ all. all)

  account-kept : (m : Machine K S P) (h : Open K S P) (accepted : Bool) (outcome : Option Outcome) → IsKept Q m (account_for a m h accepted outcome).machine
  account-kept m h true outcome = (refl, refl, refl, λ all. all)
  account-kept m h false None = (refl, refl, refl, λ all. all)
  account-kept m h false (Some (Resolved resolution)) = (refl, refl, refl, λ all. all)
  account-kept m h false (Some Invalid) = (refl, refl, refl, λ all. all)
  account-kept m h false (Some Unresolved) = (refl, refl, refl, λ all. all)
  account-kept m h false (Some Ignored) = (refl, refl, refl, λ all. all)

  handed-kept : (m : Machine K S P) (key : K) (subscribers : List (S × ℕ)) (j : Judging P) → IsKeptIfDone Q m (hand_out a m key subscribers j)
  handed-kept m key subscribers j = kept-if Q m (nat_lt j.number (2 ^ 64)) _ (refl, refl, refl, λ all. are-changed Q (is_key a key) _ (λ row q. judged j) m.rows all)

  rest-kept : (m : Machine K S P) (h : Open K S P) (value : List ℕ) (accepted : Bool) (rest : List (S × ℕ)) → IsKeptIfDone Q m (serves_rest a m h value accepted rest)
  rest-kept m h value accepted [] = (refl, refl, refl, λ all. are-removed Q (is_key a h.handed.key) m.rows all)
  rest-kept m h value accepted (s ∷ rest) = handed-kept m h.handed.key (s ∷ rest) _

  ruled-kept : (m : Machine K S P) (h : Open K S P) (row : Row K S P) (value : List ℕ) (rule : Ruling) → IsKeptIfDone Q m (ruled a m now h row value rule)
  ruled-kept m h row value (rulings.Serve accepted) = rest-kept m h value accepted (without a.subscriber h.handed.subscribers row.subscribers)
  ruled-kept m h row value rulings.Retry = retry-kept m h.handed.key
  ruled-kept m h row value rulings.Retire = (refl, refl, refl, λ all. are-removed Q (is_key a h.handed.key) m.rows all)

  in-kept : (m : Machine K S P) (number : ℕ) (h : Open K S P) (outcome : Option Outcome) (row : Row K S P) (phase : Phase K P) → IsKeptIfDone Q m (ruled_in a m now number h outcome row phase)
  in-kept m number h outcome row (Waits place) = (refl, refl, refl, λ all. all)
  in-kept m number h outcome row (Asked id request) = (refl, refl, refl, λ all. all)
  in-kept m number h outcome row (Judged j) = kept-either Q m (number == j.number) (ruled a m now h row j.value (ruling h.accepted outcome)) (ruled-kept m h row j.value (ruling h.accepted outcome))

  at-kept : (m : Machine K S P) (number : ℕ) (h : Open K S P) (outcome : Option Outcome) (row : Option (Row K S P)) → IsKeptIfDone Q m (ruled_at a m now number h outcome row)
  at-kept m number h outcome None = (refl, refl, refl, λ all. all)
  at-kept m number h outcome (Some row) = in-kept m number h outcome row row.phase

  verdict-kept : (m : Machine K S P) (number : ℕ) (outcome : Option Outcome) (o : Option (Open K S P)) → IsKeptIfDone Q m (verdict_on a m now number outcome o)
  verdict-kept m number outcome None = (refl, refl, refl, λ all. all)
  verdict-kept m number outcome (Some h) =
      let d : Done K S P = account_for a (closed m number) h h.accepted outcome in
      kept-and Q m d (ruled_at a d.machine now number h outcome (row_of a d.machine h.handed.key)) (account-kept (closed m number) h h.accepted outcome)
      (at-kept d.machine number h outcome (row_of a d.machine h.handed.key))

  freed-kept : (m : Machine K S P) (o : Option (Done K S P)) → IsKeptIfDone Q (freed m) o → IsKeptIfDone Q m o
  freed-kept m None kept = kept
  freed-kept m (Some d) kept = kept

  responds-kept : (m : Machine K S P) (value : List ℕ) (r : Option (Request K P)) (row : Option (Row K S P)) → IsKeptIfDone Q m (responds a m now value r row)
  responds-kept m value None row = (refl, refl, refl, λ all. all)
  responds-kept m value (Some q) None = (refl, refl, refl, λ all. all)
  responds-kept m value (Some q) (Some row) = freed-kept m _ (handed-kept (freed m) q.key row.subscribers _)

  receive-kept : (m : Machine K S P) (peer : P) (id : ℕ) (payload : Payload K) → IsKeptIfDone Q m (receive a m now peer id payload)
  receive-kept m peer id (payloads.Request key) = kept-if Q m (nat_lt m.next_serve (2 ^ 64)) _ (refl, refl, refl, λ all. all)
  receive-kept m peer id (payloads.Response value) = responds-kept m value (answered a m peer id) (option_and_then (λ r. row_of a m r.key) (answered a m peer id))
  receive-kept m peer id payloads.Error = misses-kept m (answered a m peer id)

  pub does-kept : (m : Machine K S P) (event : Event K S P) → IsKeptIfDone Q m (does a m now event)
  does-kept m (Fetch items) = fetch-kept m items
  does-kept m (Retain keep) = (refl, refl, refl, λ all. are-retained Q keep m.rows all)
  does-kept m (PeerSet index peers) = peers-kept m _ (is_newer m.last_index index) (refl, refl, refl, λ all. all)
  does-kept m (Blocked peers) = (refl, refl, refl, λ all. all)
  does-kept m ActiveDue = times_out-kept m (overdue (snapshot a m).asked now)
  does-kept m PendingDue = (refl, refl, refl, λ all. all)
  does-kept m (Verdict number outcome) = verdict-kept m number outcome (lookup (λ n. number == n) m.deliveries)
  does-kept m (Served serve bytes) = served-kept m serve bytes (lookup (λ n. serve == n) m.serves)
  does-kept m (Net peer None) = (refl, refl, refl, λ all. all)
  does-kept m (Net peer (Some message)) = receive-kept m peer message.id message.payload
  does-kept m End = (refl, refl, refl, λ all. tt)
