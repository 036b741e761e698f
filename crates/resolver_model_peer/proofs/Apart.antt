-- No two rows of a run have the same key.
use Rattle.std.proofs.Common.{◌≡◌, refl, ap, sym, subst, ℕ, ◌^◌, Bool, true, false, cond, ◌==◌, List, [], ◌∷◌, ◌++◌, Option, None, Some, Result, Ok, Err, filter, map, if◌then◌else◌}
use Rattle.std.specs.Prelude.{option_map, option_and_then, nat_lt, ⊤}
use Rattle.std.specs.Cmp.{IsEquivalence, IsTotalOrder}
use Rattle.std.specs.List.{AllByRecursion, IsDistinct}
use Rattle.std.specs.Map.{keys_of, lookup}
use Rattle.std.proofs.lemmas.Cmp.{eq_by_cmp_equiv}
use Rattle.std.proofs.lemmas.Map.Keys.{IsDistinct-head, IsDistinct-tail, IsDistinct-cons}
use Rattle.resolver_types.specs.Names.{same_key}
use Rattle.resolver_types.specs.declared.outcome.Outcome.{Outcome}
use Rattle.resolver_types.specs.declared.outcome.Outcome.TheVariants.{Invalid, Resolved, Unresolved, Ignored}
use Rattle.resolver_types.specs.Subscribers.{without}
use Rattle.resolver_base.specs.declared.fault.Fault.{Fault}
use Rattle.resolver_fetch_requests.specs.declared.requests.request.Request.{Request}
use Rattle.resolver_fetch_requests.specs.Requests.{overdue}
use Rattle.resolver_sampling.specs.Times.{elapsed_since}
use Rattle.resolver_wire.specs.declared.wire.Payload.{Payload}
use Rattle.resolver_wire.specs.declared.wire.Payload.TheVariants as payloads
use Rattle.resolver_fetch_scan.specs.Scan.{Turn, begins, is_over, takes}
use Rattle.resolver_model.specs.declared.ruling.Ruling.{Ruling}
use Rattle.resolver_model.specs.declared.ruling.Ruling.TheVariants as rulings
use Rattle.resolver_model.specs.Verdicts.{ruling}
use Rattle.resolver_model_peer.specs.Parties.{Parties, names_of, orders_of}
use Rattle.resolver_model_peer.specs.PeerRows.{Row, Phase, Waits, Asked, Judged, Judging, change_entry}
use Rattle.resolver_model_peer.specs.declared.named.Serve.{Serve}
use Rattle.resolver_model.specs.declared.status.Status.{Status}
use Rattle.resolver_model.specs.declared.status.Status.TheVariants.{Running, Ended, Failed}
use Rattle.resolver_model_peer.specs.Peer.{Machine, Open, Done, Item, Input, Happens, Answers, Event, Fetch, Retain, PeerSet, Blocked, ActiveDue, PendingDue, Verdict, Served, Net, End, quiet, and_then, snapshot, closed, served_by, row_of, is_key, fetch, fetch_one, fails, times_out, hand_out, account_for, serves_rest, ruled, ruled_in, ruled_at, verdict_on, freed, responds, misses, answered, receive, does, retry, has_subscribers, pruned, is_newer, with_sent, is_due, wake_up, scanned_if, scanned, step_of, answer_of, step_running, step_in, step, opening}
use Rattle.resolver_model_peer.specs.PeerRun.{Fed, after}
use Rattle.resolver_model.proofs.Rows.{Distinct-inserted, Distinct-removed}

module _ {K S P : Type 0} where
  pub keys-changed : (test : K → Bool) (f : Row K S P → Row K S P) (rows : List (K × Row K S P)) → keys_of (change_entry test f rows) ≡ keys_of rows
  keys-changed test f [] = refl
  keys-changed test f (r ∷ rows) = at (test r.0) (keys-changed test f rows) where
    at : (b : Bool) → keys_of (change_entry test f rows) ≡ keys_of rows → keys_of (if b then (r.0, f r.1) ∷ rows else r ∷ change_entry test f rows) ≡ r.0 ∷ keys_of rows
    at true rest = refl
    at false rest = ap (λ ks. r.0 ∷ ks) rest

  keys-retained : (Q : K → Type 0) (keep : K → S → Bool) (rows : List (K × Row K S P)) → AllByRecursion Q (keys_of rows) → AllByRecursion Q (keys_of (filter has_subscribers (map (pruned keep) rows)))
  keys-retained Q keep [] all = tt
  keys-retained Q keep (r ∷ rows) all = at (has_subscribers (pruned keep r)) (keys-retained Q keep rows all.1) where
    at : (b : Bool) → AllByRecursion Q (keys_of (filter has_subscribers (map (pruned keep) rows)))
        → AllByRecursion Q (keys_of (cond b (pruned keep r ∷ filter has_subscribers (map (pruned keep) rows)) (filter has_subscribers (map (pruned keep) rows))))
    at true rest = (all.0, rest)
    at false rest = rest

module _ {K S P : Type 0} (a : Parties K S P) where
  abbrev pub AreApart : List (K × Row K S P) → Type 0
  AreApart rows = IsDistinct (same_key (names_of a)) (keys_of rows)

  are-changed : (test : K → Bool) (f : Row K S P → Row K S P) (rows : List (K × Row K S P)) → AreApart rows → AreApart (change_entry test f rows)
  are-changed test f rows apart = subst (IsDistinct (same_key (names_of a))) (sym (keys-changed test f rows)) apart

  are-retained : (keep : K → S → Bool) (rows : List (K × Row K S P)) → AreApart rows → AreApart (filter has_subscribers (map (pruned keep) rows))
  are-retained keep [] apart = apart
  are-retained keep (r ∷ rows) apart =
      at (has_subscribers (pruned keep r)) (are-retained keep rows (IsDistinct-tail (same_key (names_of a)) r.0 (keys_of rows) apart)) where
        at : (b : Bool) → AreApart (filter has_subscribers (map (pruned keep) rows))
            → AreApart (cond b (pruned keep r ∷ filter has_subscribers (map (pruned keep) rows)) (filter has_subscribers (map (pruned keep) rows)))
        at true rest =
            IsDistinct-cons (same_key (names_of a)) r.0 (keys_of (filter has_subscribers (map (pruned keep) rows)))
            (keys-retained (λ k. same_key (names_of a) r.0 k ≡ false) keep rows (IsDistinct-head (same_key (names_of a)) r.0 (keys_of rows) apart)) rest
        at false rest = rest

  none-apart : AreApart []
  unfolding IsDistinct
  none-apart = tt

  abbrev IsKept : (m n : Machine K S P) → Type 0
  IsKept m n = AreApart m.rows → AreApart n.rows

  abbrev IsKeptIfDone : Machine K S P → Option (Done K S P) → Type 0
  IsKeptIfDone m None = ⊤
  IsKeptIfDone m (Some d) = IsKept m d.machine

  kept-if : (m : Machine K S P) (b : Bool) (d : Done K S P) → IsKept m d.machine → IsKeptIfDone m (if b then Some d else None)
  kept-if m true d kept = kept
  kept-if m false d kept = tt

  kept-either : (m : Machine K S P) (b : Bool) (o : Option (Done K S P)) → IsKeptIfDone m o → IsKeptIfDone m (if b then o else Some (quiet m))
  kept-either m true o kept = kept
  kept-either m false o kept = λ all. all

  kept-and : (m : Machine K S P) (d : Done K S P) (o : Option (Done K S P)) → IsKept m d.machine → IsKeptIfDone d.machine o
      → IsKeptIfDone m (option_map (λ e. record { machine = e.machine; effects = d.effects ++ e.effects }) o)
  kept-and m d None first second = tt
  kept-and m d (Some e) first second = λ all. second (first all)

module _ {K S P : Type 0} (a : Parties K S P) (laws : IsEquivalence (same_key (names_of a))) (now : ℕ) where
  fetch_one-kept : (m : Machine K S P) (item : Item K S P) (row : Option (Row K S P)) → row_of a m item.key ≡ row → IsKept a m (fetch_one a m now item row)
  fetch_one-kept m item None found = (λ all. Distinct-inserted (names_of a) laws item.key m.rows _ found all)
  fetch_one-kept m item (Some row) found = (λ all. are-changed a (is_key a item.key) _ m.rows all)

  fetch-kept : (m : Machine K S P) (items : List (Item K S P)) → IsKept a m (fetch a m now items)
  fetch-kept m [] = (λ all. all)
  fetch-kept m (item ∷ items) =
      let n : Machine K S P = fetch_one a m now item (row_of a m item.key) in
      λ all. fetch-kept n items (fetch_one-kept m item (row_of a m item.key) refl all)

  peers-kept : (m n : Machine K S P) (b : Bool) → IsKept a m n → IsKept a m (if b then n else m)
  peers-kept m n true kept = kept
  peers-kept m n false kept = (λ all. all)

  retry-kept : (m : Machine K S P) (key : K) → IsKept a m (retry a m now key)
  retry-kept m key = (λ all. are-changed a (is_key a key) _ m.rows all)

  fails-kept : (m : Machine K S P) (r : Request K P) (time : ℕ) → IsKept a m (fails a m now r time)
  fails-kept m r time = (λ all. are-changed a (is_key a r.key) _ m.rows all)

  times_out-kept : (m : Machine K S P) (r : Option (ℕ × Request K P)) → IsKept a m (times_out a m now r)
  times_out-kept m None = (λ all. all)
  times_out-kept m (Some r) = fails-kept m r.1 m.configuration.fetch_timeout

  misses-kept : (m : Machine K S P) (r : Option (Request K P)) → IsKept a m (misses a m now r)
  misses-kept m None = (λ all. all)
  misses-kept m (Some r) = fails-kept m r (elapsed_since r.start now)

  served-kept : (m : Machine K S P) (serve : ℕ) (bytes : Option (List ℕ)) (s : Option (Serve P)) → IsKept a m (served_by m serve bytes s).machine
  served-kept m serve bytes None = (λ all. all)
  served-kept m serve bytes (Some s) = (λ all. all)

  account-kept : (m : Machine K S P) (h : Open K S P) (accepted : Bool) (outcome : Option Outcome) → IsKept a m (account_for a m h accepted outcome).machine
  account-kept m h true outcome = (λ all. all)
  account-kept m h false None = (λ all. all)
  account-kept m h false (Some (Resolved resolution)) = (λ all. all)
  account-kept m h false (Some Invalid) = (λ all. all)
  account-kept m h false (Some Unresolved) = (λ all. all)
  account-kept m h false (Some Ignored) = (λ all. all)

  handed-kept : (m : Machine K S P) (key : K) (subscribers : List (S × ℕ)) (j : Judging P) → IsKeptIfDone a m (hand_out a m key subscribers j)
  handed-kept m key subscribers j = kept-if a m (nat_lt j.number (2 ^ 64)) _ (λ all. are-changed a (is_key a key) _ m.rows all)

  rest-kept : (m : Machine K S P) (h : Open K S P) (value : List ℕ) (accepted : Bool) (rest : List (S × ℕ)) → IsKeptIfDone a m (serves_rest a m h value accepted rest)
  rest-kept m h value accepted [] = (λ all. Distinct-removed (names_of a) laws (is_key a h.handed.key) m.rows all)
  rest-kept m h value accepted (s ∷ rest) = handed-kept m h.handed.key (s ∷ rest) _

  ruled-kept : (m : Machine K S P) (h : Open K S P) (row : Row K S P) (value : List ℕ) (rule : Ruling) → IsKeptIfDone a m (ruled a m now h row value rule)
  ruled-kept m h row value (rulings.Serve accepted) = rest-kept m h value accepted (without a.subscriber h.handed.subscribers row.subscribers)
  ruled-kept m h row value rulings.Retry = retry-kept m h.handed.key
  ruled-kept m h row value rulings.Retire = (λ all. Distinct-removed (names_of a) laws (is_key a h.handed.key) m.rows all)

  in-kept : (m : Machine K S P) (number : ℕ) (h : Open K S P) (outcome : Option Outcome) (row : Row K S P) (phase : Phase K P) → IsKeptIfDone a m (ruled_in a m now number h outcome row phase)
  in-kept m number h outcome row (Waits place) = (λ all. all)
  in-kept m number h outcome row (Asked id request) = (λ all. all)
  in-kept m number h outcome row (Judged j) = kept-either a m (number == j.number) (ruled a m now h row j.value (ruling h.accepted outcome)) (ruled-kept m h row j.value (ruling h.accepted outcome))

  at-kept : (m : Machine K S P) (number : ℕ) (h : Open K S P) (outcome : Option Outcome) (row : Option (Row K S P)) → IsKeptIfDone a m (ruled_at a m now number h outcome row)
  at-kept m number h outcome None = (λ all. all)
  at-kept m number h outcome (Some row) = in-kept m number h outcome row row.phase

  verdict-kept : (m : Machine K S P) (number : ℕ) (outcome : Option Outcome) (o : Option (Open K S P)) → IsKeptIfDone a m (verdict_on a m now number outcome o)
  verdict-kept m number outcome None = (λ all. all)
  verdict-kept m number outcome (Some h) =
      let d : Done K S P = account_for a (closed m number) h h.accepted outcome in
      kept-and a m d (ruled_at a d.machine now number h outcome (row_of a d.machine h.handed.key)) (account-kept (closed m number) h h.accepted outcome)
      (at-kept d.machine number h outcome (row_of a d.machine h.handed.key))

  freed-kept : (m : Machine K S P) (o : Option (Done K S P)) → IsKeptIfDone a (freed m) o → IsKeptIfDone a m o
  freed-kept m None kept = kept
  freed-kept m (Some d) kept = kept

  responds-kept : (m : Machine K S P) (value : List ℕ) (r : Option (Request K P)) (row : Option (Row K S P)) → IsKeptIfDone a m (responds a m now value r row)
  responds-kept m value None row = (λ all. all)
  responds-kept m value (Some q) None = (λ all. all)
  responds-kept m value (Some q) (Some row) = freed-kept m _ (handed-kept (freed m) q.key row.subscribers _)

  receive-kept : (m : Machine K S P) (peer : P) (id : ℕ) (payload : Payload K) → IsKeptIfDone a m (receive a m now peer id payload)
  receive-kept m peer id (payloads.Request key) = kept-if a m (nat_lt m.next_serve (2 ^ 64)) _ (λ all. all)
  receive-kept m peer id (payloads.Response value) = responds-kept m value (answered a m peer id) (option_and_then (λ r. row_of a m r.key) (answered a m peer id))
  receive-kept m peer id payloads.Error = misses-kept m (answered a m peer id)

  pub does-kept : (m : Machine K S P) (event : Event K S P) → IsKeptIfDone a m (does a m now event)
  does-kept m (Fetch items) = fetch-kept m items
  does-kept m (Retain keep) = (λ all. are-retained a keep m.rows all)
  does-kept m (PeerSet index peers) = peers-kept m _ (is_newer m.last_index index) (λ all. all)
  does-kept m (Blocked peers) = (λ all. all)
  does-kept m ActiveDue = times_out-kept m (overdue (snapshot a m).asked now)
  does-kept m PendingDue = (λ all. all)
  does-kept m (Verdict number outcome) = verdict-kept m number outcome (lookup (λ n. number == n) m.deliveries)
  does-kept m (Served serve bytes) = served-kept m serve bytes (lookup (λ n. serve == n) m.serves)
  does-kept m (Net peer None) = (λ all. all)
  does-kept m (Net peer (Some message)) = receive-kept m peer message.id message.payload
  does-kept m End = λ all. none-apart a

module _ {K S P : Type 0} (a : Parties K S P) (total : IsTotalOrder a.key) where
  sent-apart : (m : Machine K S P) (sent : Option (ℕ × Request K P)) → AreApart a m.rows → AreApart a (with_sent a m sent).rows
  sent-apart m None apart = apart
  sent-apart m (Some r) apart = are-changed a (is_key a r.1.key) _ m.rows apart

  scanned-apart : (b : Bool) (m : Machine K S P) (now : ℕ) → AreApart a m.rows → AreApart a (scanned_if a b m now).machine.rows
  scanned-apart true m now apart = sent-apart m (begins (orders_of a) (snapshot a m) now).sent apart
  scanned-apart false m now apart = apart

  happened-apart : (o : Option (Done K S P)) (begun m : Machine K S P) (now : ℕ) → AreApart a begun.rows → AreApart a m.rows → IsKeptIfDone a begun o
      → AreApart a (step_of a (option_and_then (λ d. and_then d (λ n. Some (scanned a n now))) o) m).1.rows
  happened-apart None begun m now first apart kept = apart
  happened-apart (Some d) begun m now first apart kept = scanned-apart (is_due now (wake_up a d.machine)) d.machine now (kept first)

  taken-apart : (m : Machine K S P) (r : Result (Turn K P) Fault) → AreApart a m.rows → AreApart a (answer_of a r m).1.rows
  taken-apart m (Err fault) apart = apart
  taken-apart m (Ok t) apart = sent-apart m t.sent apart

  running-apart : (over : Bool) (m : Machine K S P) (now : ℕ) (input : Input K S P) → AreApart a m.rows → AreApart a (step_running a over m now input).1.rows
  running-apart true m now (Happens event) apart =
      let begun : Machine K S P = record m { moment = now } in
      happened-apart (does a begun now event) begun m now apart apart (does-kept a (eq_by_cmp_equiv total) now begun event)
  running-apart false m now (Happens event) apart = apart
  running-apart over m now (Answers answer) apart = taken-apart m (takes (orders_of a) (snapshot a m) m.scan answer) apart

  in-apart : (status : Status) (m : Machine K S P) (now : ℕ) (input : Input K S P) → AreApart a m.rows → AreApart a (step_in a status m now input).1.rows
  in-apart Failed m now input apart = apart
  in-apart Ended m now input apart = apart
  in-apart Running m now input apart = running-apart (is_over m.scan) m now input apart

  pub step-apart : (m : Machine K S P) (now : ℕ) (input : Input K S P) → AreApart a m.rows → AreApart a (step a m now input).1.rows
  step-apart m now input apart = in-apart m.status m now input apart

  pub after-apart : (m : Machine K S P) (inputs : List (Fed K S P)) → AreApart a m.rows → AreApart a (after a m inputs).rows
  after-apart m [] apart = apart
  after-apart m (i ∷ is) apart = after-apart (step a m i.now i.input).1 is (step-apart m i.now i.input apart)

  pub run-apart : (configuration : _) (replies_first : Bool) (inputs : List (Fed K S P)) → AreApart a (after a (opening configuration replies_first) inputs).rows
  run-apart configuration replies_first inputs = after-apart (opening configuration replies_first) inputs (none-apart a)
