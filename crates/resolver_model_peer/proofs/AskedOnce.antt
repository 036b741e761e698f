-- A key isn't asked for again before it has no pair or is retried.
use Rattle.std.proofs.Common.{◌≡◌, refl, ap, sym, ◌∙◌, subst, ◌⊎◌, inl, inr, ℕ, ◌+◌, ◌^◌, Bool, true, false, cond, ◌==◌, List, [], ◌∷◌, ◌++◌, Option, None, Some, Result, Ok, Err, filter, filter_map, map, if◌then◌else◌}
use Rattle.std.specs.Prelude.{option_map, option_and_then, nat_lt, ⊤}
use Rattle.std.specs.Cmp.{IsEquivalence, IsTotalOrder}
use Rattle.std.specs.List.{AllByRecursion}
use Rattle.std.specs.BTreeMap.{insert_entry}
use Rattle.std.specs.Map.{keys_of, lookup, remove_entry}
use Rattle.std.proofs.lemmas.Cmp.{eq_by_cmp_equiv}
use Rattle.std.proofs.lemmas.Map.Keys.{IsDistinct-head, IsDistinct-tail}
use Rattle.resolver_types.specs.Names.{same_key}
use Rattle.resolver_base.specs.declared.fault.Fault.{Fault}
use Rattle.resolver_types.specs.declared.outcome.Outcome.{Outcome}
use Rattle.resolver_types.specs.declared.outcome.Outcome.TheVariants.{Invalid, Resolved, Unresolved, Ignored}
use Rattle.resolver_types.specs.Subscribers.{without}
use Rattle.resolver_fetch_requests.specs.declared.requests.request.Request.{Request}
use Rattle.resolver_fetch_requests.specs.Requests.{overdue}
use Rattle.resolver_wire.specs.declared.wire.Payload.{Payload}
use Rattle.resolver_wire.specs.declared.wire.Payload.TheVariants as payloads
use Rattle.resolver_fetch_scan.specs.declared.place.Place.{Place}
use Rattle.resolver_fetch_scan.specs.declared.scan.Answer.TheVariants.{Sent}
use Rattle.resolver_fetch_scan.specs.declared.scan.Ask.TheVariants as asks
use Rattle.resolver_fetch_scan.specs.declared.trail.Expected.{Expected}
use Rattle.resolver_fetch_scan.specs.declared.trail.Expected.TheVariants.{Mode, ByWeight, ByPlace, Checking, FirstId, Sending}
use Rattle.resolver_fetch_scan.specs.Scan.{Scan, Turn, can_be_tried, goes_on_with, is_over, next, question_of, succeeds, takes, takes_for}
use Rattle.resolver_fetch_scan.specs.Waiting.{Waiting, once_more, retry_at}
use Rattle.resolver_fetch_scan.specs.FetcherLaws.{IsAmong}
use Rattle.resolver_fetch_scan.proofs.OneOf.{found-among}
use Rattle.resolver_model.specs.declared.ruling.Ruling.{Ruling}
use Rattle.resolver_model.specs.declared.ruling.Ruling.TheVariants as rulings
use Rattle.resolver_model.specs.Verdicts.{ruling}
use Rattle.resolver_model_peer.specs.Parties.{Parties, names_of, orders_of}
use Rattle.resolver_model_peer.specs.PeerRows.{Row, Phase, Waits, Asked, Judged, Judging, change_entry, waiting_of}
use Rattle.resolver_model_peer.specs.declared.named.Serve.{Serve}
use Rattle.resolver_model.specs.declared.status.Status.{Status}
use Rattle.resolver_model.specs.declared.status.Status.TheVariants.{Running, Ended, Failed}
use Rattle.resolver_model_peer.specs.Peer.{Machine, Open, Done, Item, Input, Happens, Answers, Event, Fetch, Retain, PeerSet, Blocked, ActiveDue, PendingDue, Verdict, Served, Net, End, quiet, and_then, snapshot, closed, served_by, row_of, is_key, fetch, fetch_one, times_out, hand_out, account_for, serves_rest, ruled, ruled_in, ruled_at, verdict_on, freed, responds, misses, answered, receive, does, has_subscribers, pruned, is_newer, turned, with_sent, is_due, wake_up, scanned_if, scanned, step_of, answer_of, step_running, step_in, step, opening}
use Rattle.resolver_model_peer.specs.PeerRun.{Fed, after}
use Rattle.resolver_model_peer.specs.PeerLaws.{AcceptsSend, AskedOnce, EndsOrRetries}
use Rattle.resolver_model_peer.proofs.Apart.{AreApart, run-apart, step-apart}
use Rattle.resolver_model_peer.proofs.WaitingRows.{in-order-from, phase-waits, row-waits}
use Rattle.resolver_model.proofs.Rows.{lookup-inserted, lookup-removed, lookup-same}

abbrev IsBusy : {K P : Type 0} → Phase K P → Type 0
IsBusy (Waits place) = ⊥
IsBusy phase = ⊤

module _ {K S P : Type 0} (a : Parties K S P) (laws : IsEquivalence (same_key (names_of a))) where
  look-changed : (k q : K) (f : Row K S P → Row K S P) (rows : List (K × Row K S P))
      → lookup (is_key a q) (change_entry (is_key a k) f rows) ≡ (if is_key a k q then option_map f (lookup (is_key a q) rows) else lookup (is_key a q) rows)
  look-changed k q f [] = at (is_key a k q) where
    at : (b : Bool) → None ≡ (if b then option_map f None else None)
    at true = refl
    at false = refl
  look-changed k q f (r ∷ rows) = at (is_key a k r.0) refl (is_key a q r.0) refl (is_key a k q) refl (look-changed k q f rows) where
    at : (b : Bool) → is_key a k r.0 ≡ b → (c : Bool) → is_key a q r.0 ≡ c → (d : Bool) → is_key a k q ≡ d
        → lookup (is_key a q) (change_entry (is_key a k) f rows) ≡ (if is_key a k q then option_map f (lookup (is_key a q) rows) else lookup (is_key a q) rows)
        → lookup (is_key a q) (if b then (r.0, f r.1) ∷ rows else r ∷ change_entry (is_key a k) f rows) ≡ (if d then option_map f (cond c (Some r.1) (lookup (is_key a q) rows)) else cond c (Some r.1) (lookup (is_key a q) rows))
    at true is_b true is_c true is_d rest = rw is_c refl
    at true is_b true is_c false is_d rest =
        let same : is_key a k q ≡ true = laws.symm k q ∙ laws.congr q r.0 k is_c ∙ laws.symm r.0 k ∙ is_b in
        let clash : true ≡ false = sym same ∙ is_d in absurd cc
    at true is_b false is_c true is_d rest =
        let same : is_key a q r.0 ≡ true = sym (laws.congr k q r.0 is_d) ∙ is_b in
        let clash : true ≡ false = sym same ∙ is_c in absurd cc
    at true is_b false is_c false is_d rest = rw is_c refl
    at false is_b true is_c true is_d rest =
        let same : is_key a k r.0 ≡ true = laws.congr k q r.0 is_d ∙ is_c in
        let clash : true ≡ false = sym same ∙ is_b in absurd cc
    at false is_b true is_c false is_d rest = rw is_c refl
    at false is_b false is_c d is_d rest = rw is_c (rest ∙ ap (λ e. if e then option_map f (lookup (is_key a q) rows) else lookup (is_key a q) rows) is_d)

  -- what is left of a row whose subscribers are pruned
  none-there : (key k : K) (keep : K → S → Bool) (rows : List (K × Row K S P)) → is_key a key k ≡ true → AllByRecursion (λ y. is_key a k y ≡ false) (keys_of rows)
      → lookup (is_key a key) (filter has_subscribers (map (pruned keep) rows)) ≡ None
  none-there key k keep [] is apart = refl
  none-there key k keep (r ∷ rows) is apart = at (has_subscribers (pruned keep r)) (none-there key k keep rows is apart.1) where
    at : (b : Bool) → lookup (is_key a key) (filter has_subscribers (map (pruned keep) rows)) ≡ None
        → lookup (is_key a key) (cond b (pruned keep r ∷ filter has_subscribers (map (pruned keep) rows)) (filter has_subscribers (map (pruned keep) rows))) ≡ None
    at true rest = let other : is_key a key r.0 ≡ false = laws.congr key k r.0 is ∙ apart.0 in rw other rest
    at false rest = rest

module _ {K S P : Type 0} (a : Parties K S P) (total : IsTotalOrder a.key) (key : K) where
  abbrev laws : IsEquivalence (same_key (names_of a))
  laws = eq_by_cmp_equiv total

  abbrev Look : List (K × Row K S P) → Option (Row K S P)
  Look rows = lookup (is_key a key) rows

  -- the key is asked for, or judged
  abbrev IsBusyAt : List (K × Row K S P) → Type 0
  IsBusyAt rows = (row : Row K S P) × (Look rows ≡ Some row) × IsBusy row.phase

  abbrev again : (due : ℕ) → Row K S P → Row K S P
  again due row = record row { retries = once_more row.retries; phase = Waits (retry_at due) }

  -- or it has no row, or was retried
  abbrev Goes : (due : ℕ) → (old : List (K × Row K S P)) → (new : List (K × Row K S P)) → Type 0
  Goes due old new = (Look new ≡ None) ⊎ (((row : Row K S P) × (Look old ≡ Some row) × (Look new ≡ Some (again due row))) ⊎ IsBusyAt new)

  -- a change that leaves a key busy
  busy-changed : (k : K) (f : Row K S P → Row K S P) → ((row : Row K S P) → IsBusy row.phase → IsBusy (f row).phase) → (rows : List (K × Row K S P)) → IsBusyAt rows → IsBusyAt (change_entry (is_key a k) f rows)
  busy-changed k f keeps rows busy = at (is_key a k key) (look-changed a laws k key f rows) where
    at : (b : Bool) → Look (change_entry (is_key a k) f rows) ≡ (if b then option_map f (Look rows) else Look rows) → IsBusyAt (change_entry (is_key a k) f rows)
    at true e = (f busy.0, e ∙ ap (option_map f) busy.1, keeps busy.0 busy.2)
    at false e = (busy.0, e ∙ busy.1, busy.2)

  retry-goes : (k : K) (due : ℕ) (rows : List (K × Row K S P)) → IsBusyAt rows → Goes due rows (change_entry (is_key a k) (again due) rows)
  retry-goes k due rows busy = at (is_key a k key) (look-changed a laws k key (again due) rows) where
    at : (b : Bool) → Look (change_entry (is_key a k) (again due) rows) ≡ (if b then option_map (again due) (Look rows) else Look rows) → Goes due rows (change_entry (is_key a k) (again due) rows)
    at true e = inr (inl (busy.0, busy.1, e ∙ ap (option_map (again due)) busy.1))
    at false e = inr (inr (busy.0, e ∙ busy.1, busy.2))

  busy-inserted : (k : K) (new : Row K S P) (rows : List (K × Row K S P)) → lookup (is_key a k) rows ≡ None → IsBusyAt rows → IsBusyAt (insert_entry a.key rows k new)
  busy-inserted k new rows none busy = at (is_key a k key) refl (lookup-inserted (names_of a) laws k key rows new none) where
    at : (b : Bool) → is_key a k key ≡ b → Look (insert_entry a.key rows k new) ≡ cond (is_key a k key) (Some new) (Look rows) → IsBusyAt (insert_entry a.key rows k new)
    at true is e =
        let same : Look rows ≡ None = lookup-same (names_of a) laws k key rows is ∙ none in
        let clash : Some busy.0 ≡ None = sym busy.1 ∙ same in absurd cc
    at false is e = (busy.0, e ∙ ap (λ c. cond c (Some new) (Look rows)) is ∙ busy.1, busy.2)

  removed-goes : (k : K) (due : ℕ) (rows : List (K × Row K S P)) → AreApart a rows → IsBusyAt rows → Goes due rows (remove_entry (is_key a k) rows)
  removed-goes k due rows apart busy = at (is_key a k key) (lookup-removed (names_of a) laws k key rows apart) where
    at : (b : Bool) → Look (remove_entry (is_key a k) rows) ≡ cond b None (Look rows) → Goes due rows (remove_entry (is_key a k) rows)
    at true e = inl e
    at false e = inr (inr (busy.0, e ∙ busy.1, busy.2))

  retained-goes : (keep : K → S → Bool) (due : ℕ) (rows : List (K × Row K S P)) → AreApart a rows → (row : Row K S P) → Look rows ≡ Some row → IsBusy row.phase
      → (Look (filter has_subscribers (map (pruned keep) rows)) ≡ None) ⊎ IsBusyAt (filter has_subscribers (map (pruned keep) rows))
  retained-goes keep due [] apart row found busy = absurd cc
  retained-goes keep due (r ∷ rows) apart row found busy =
      at (is_key a key r.0) refl (has_subscribers (pruned keep r)) found (retained-goes keep due rows (IsDistinct-tail (same_key (names_of a)) r.0 (keys_of rows) apart) row) where
        at : (b : Bool) → is_key a key r.0 ≡ b → (c : Bool) → cond b (Some r.1) (Look rows) ≡ Some row
            → (Look rows ≡ Some row → IsBusy row.phase → (Look (filter has_subscribers (map (pruned keep) rows)) ≡ None) ⊎ IsBusyAt (filter has_subscribers (map (pruned keep) rows)))
            → (Look (cond c (pruned keep r ∷ filter has_subscribers (map (pruned keep) rows)) (filter has_subscribers (map (pruned keep) rows))) ≡ None)
            ⊎ IsBusyAt (cond c (pruned keep r ∷ filter has_subscribers (map (pruned keep) rows)) (filter has_subscribers (map (pruned keep) rows)))
        at true is true here rest =
            let same : r.1 ≡ row = cc in
            inr ((pruned keep r).1, rw is refl, subst (λ (x : Row K S P). IsBusy x.phase) (sym same) busy)
        at true is false here rest = inl (none-there a laws key r.0 keep rows is (IsDistinct-head (same_key (names_of a)) r.0 (keys_of rows) apart))
        at false is true here rest = rw is (rest here busy)
        at false is false here rest = rest here busy

  -- after a part of a step
  module _ (now : ℕ) where
    abbrev GoesFrom : Machine K S P → Machine K S P → Type 0
    GoesFrom m n = Goes (now + m.configuration.retry_delay) m.rows n.rows

    abbrev GoesIfDone : Machine K S P → Option (Done K S P) → Type 0
    GoesIfDone m None = ⊤
    GoesIfDone m (Some d) = GoesFrom m d.machine

    goes-if : (m : Machine K S P) (b : Bool) (d : Done K S P) → GoesFrom m d.machine → GoesIfDone m (if b then Some d else None)
    goes-if m true d goes = goes
    goes-if m false d goes = tt

    goes-either : (m : Machine K S P) (b : Bool) (o : Option (Done K S P)) → IsBusyAt m.rows → GoesIfDone m o → GoesIfDone m (if b then o else Some (quiet m))
    goes-either m true o busy goes = goes
    goes-either m false o busy goes = inr (inr busy)

    goes-and : (m : Machine K S P) (d : Done K S P) (o : Option (Done K S P)) → d.machine.rows ≡ m.rows → d.machine.configuration ≡ m.configuration → GoesIfDone d.machine o
        → GoesIfDone m (option_map (λ e. record { machine = e.machine; effects = d.effects ++ e.effects }) o)
    goes-and m d None rows configuration goes = tt
    goes-and m d (Some e) rows configuration goes =
        subst (λ (x : List (K × Row K S P)). Goes (now + m.configuration.retry_delay) x e.machine.rows) rows
        (subst (λ (c : _). Goes (now + c.retry_delay) d.machine.rows e.machine.rows) configuration goes)

    fetch_one-busy : (m : Machine K S P) (item : Item K S P) (row : Option (Row K S P)) → row_of a m item.key ≡ row → IsBusyAt m.rows → IsBusyAt (fetch_one a m now item row).rows
    fetch_one-busy m item None found busy = busy-inserted item.key _ m.rows found busy
    fetch_one-busy m item (Some row) found busy = busy-changed item.key _ (λ old b. b) m.rows busy

    fetch-busy : (m : Machine K S P) (items : List (Item K S P)) → IsBusyAt m.rows → IsBusyAt (fetch a m now items).rows
    fetch-busy m [] busy = busy
    fetch-busy m (item ∷ items) busy = fetch-busy (fetch_one a m now item (row_of a m item.key)) items (fetch_one-busy m item (row_of a m item.key) refl busy)

    peers-goes : (m n : Machine K S P) (b : Bool) → n.rows ≡ m.rows → IsBusyAt m.rows → GoesFrom m (if b then n else m)
    peers-goes m n true same busy = inr (inr (subst (λ (x : List (K × Row K S P)). IsBusyAt x) (sym same) busy))
    peers-goes m n false same busy = inr (inr busy)

    times_out-goes : (m : Machine K S P) (r : Option (ℕ × Request K P)) → IsBusyAt m.rows → GoesFrom m (times_out a m now r)
    times_out-goes m None busy = inr (inr busy)
    times_out-goes m (Some r) busy = retry-goes r.1.key (now + m.configuration.retry_delay) m.rows busy

    misses-goes : (m : Machine K S P) (r : Option (Request K P)) → IsBusyAt m.rows → GoesFrom m (misses a m now r)
    misses-goes m None busy = inr (inr busy)
    misses-goes m (Some r) busy = retry-goes r.key (now + m.configuration.retry_delay) m.rows busy

    served-goes : (m : Machine K S P) (serve : ℕ) (bytes : Option (List ℕ)) (s : Option (Serve P)) → IsBusyAt m.rows → GoesFrom m (served_by m serve bytes s).machine
    served-goes m serve bytes None busy = inr (inr busy)
    served-goes m serve bytes (Some s) busy = inr (inr busy)

    account-rows : (m : Machine K S P) (h : Open K S P) (accepted : Bool) (outcome : Option Outcome)
        → ((account_for a m h accepted outcome).machine.rows ≡ m.rows) × ((account_for a m h accepted outcome).machine.configuration ≡ m.configuration)
    account-rows m h true outcome = (refl, refl)
    account-rows m h false None = (refl, refl)
    account-rows m h false (Some (Resolved resolution)) = (refl, refl)
    account-rows m h false (Some Invalid) = (refl, refl)
    account-rows m h false (Some Unresolved) = (refl, refl)
    account-rows m h false (Some Ignored) = (refl, refl)

    handed-goes : (m : Machine K S P) (k : K) (subscribers : List (S × ℕ)) (j : Judging P) → IsBusyAt m.rows → GoesIfDone m (hand_out a m k subscribers j)
    handed-goes m k subscribers j busy = goes-if m (nat_lt j.number (2 ^ 64)) _ (inr (inr (busy-changed k _ (λ row b. tt) m.rows busy)))

    rest-goes : (m : Machine K S P) (h : Open K S P) (value : List ℕ) (accepted : Bool) (rest : List (S × ℕ)) → AreApart a m.rows → IsBusyAt m.rows → GoesIfDone m (serves_rest a m h value accepted rest)
    rest-goes m h value accepted [] apart busy = removed-goes h.handed.key (now + m.configuration.retry_delay) m.rows apart busy
    rest-goes m h value accepted (s ∷ rest) apart busy = handed-goes m h.handed.key (s ∷ rest) _ busy

    ruled-goes : (m : Machine K S P) (h : Open K S P) (row : Row K S P) (value : List ℕ) (rule : Ruling) → AreApart a m.rows → IsBusyAt m.rows → GoesIfDone m (ruled a m now h row value rule)
    ruled-goes m h row value (rulings.Serve accepted) apart busy = rest-goes m h value accepted (without a.subscriber h.handed.subscribers row.subscribers) apart busy
    ruled-goes m h row value rulings.Retry apart busy = retry-goes h.handed.key (now + m.configuration.retry_delay) m.rows busy
    ruled-goes m h row value rulings.Retire apart busy = removed-goes h.handed.key (now + m.configuration.retry_delay) m.rows apart busy

    in-goes : (m : Machine K S P) (number : ℕ) (h : Open K S P) (outcome : Option Outcome) (row : Row K S P) (phase : Phase K P) → AreApart a m.rows → IsBusyAt m.rows → GoesIfDone m (ruled_in a m now number h outcome row phase)
    in-goes m number h outcome row (Waits place) apart busy = inr (inr busy)
    in-goes m number h outcome row (Asked id request) apart busy = inr (inr busy)
    in-goes m number h outcome row (Judged j) apart busy =
        goes-either m (number == j.number) (ruled a m now h row j.value (ruling h.accepted outcome)) busy (ruled-goes m h row j.value (ruling h.accepted outcome) apart busy)

    at-goes : (m : Machine K S P) (number : ℕ) (h : Open K S P) (outcome : Option Outcome) (row : Option (Row K S P)) → AreApart a m.rows → IsBusyAt m.rows → GoesIfDone m (ruled_at a m now number h outcome row)
    at-goes m number h outcome None apart busy = inr (inr busy)
    at-goes m number h outcome (Some row) apart busy = in-goes m number h outcome row row.phase apart busy

    verdict-goes : (m : Machine K S P) (number : ℕ) (outcome : Option Outcome) (o : Option (Open K S P)) → AreApart a m.rows → IsBusyAt m.rows → GoesIfDone m (verdict_on a m now number outcome o)
    verdict-goes m number outcome None apart busy = inr (inr busy)
    verdict-goes m number outcome (Some h) apart busy =
        let d : Done K S P = account_for a (closed m number) h h.accepted outcome in
        let same = account-rows (closed m number) h h.accepted outcome in
        goes-and m d (ruled_at a d.machine now number h outcome (row_of a d.machine h.handed.key)) same.0 same.1
        (at-goes d.machine number h outcome (row_of a d.machine h.handed.key)
        (subst (λ (x : List (K × Row K S P)). AreApart a x) (sym same.0) apart) (subst (λ (x : List (K × Row K S P)). IsBusyAt x) (sym same.0) busy))

    freed-goes : (m : Machine K S P) (o : Option (Done K S P)) → GoesIfDone (freed m) o → GoesIfDone m o
    freed-goes m None goes = goes
    freed-goes m (Some d) goes = goes

    responds-goes : (m : Machine K S P) (value : List ℕ) (r : Option (Request K P)) (row : Option (Row K S P)) → IsBusyAt m.rows → GoesIfDone m (responds a m now value r row)
    responds-goes m value None row busy = inr (inr busy)
    responds-goes m value (Some q) None busy = inr (inr busy)
    responds-goes m value (Some q) (Some row) busy = freed-goes m _ (handed-goes (freed m) q.key row.subscribers _ busy)

    receive-goes : (m : Machine K S P) (peer : P) (id : ℕ) (payload : Payload K) → IsBusyAt m.rows → GoesIfDone m (receive a m now peer id payload)
    receive-goes m peer id (payloads.Request k) busy = goes-if m (nat_lt m.next_serve (2 ^ 64)) _ (inr (inr busy))
    receive-goes m peer id (payloads.Response value) busy = responds-goes m value (answered a m peer id) (option_and_then (λ r. row_of a m r.key) (answered a m peer id)) busy
    receive-goes m peer id payloads.Error busy = misses-goes m (answered a m peer id) busy

    retains-goes : (m : Machine K S P) (rows : List (K × Row K S P)) → (Look rows ≡ None) ⊎ IsBusyAt rows → Goes (now + m.configuration.retry_delay) m.rows rows
    retains-goes m rows (inl none) = inl none
    retains-goes m rows (inr busy) = inr (inr busy)

    does-goes : (m : Machine K S P) (event : Event K S P) → AreApart a m.rows → IsBusyAt m.rows → GoesIfDone m (does a m now event)
    does-goes m (Fetch items) apart busy = inr (inr (fetch-busy m items busy))
    does-goes m (Retain keep) apart busy = retains-goes m (filter has_subscribers (map (pruned keep) m.rows)) (retained-goes keep now m.rows apart busy.0 busy.1 busy.2)
    does-goes m (PeerSet index peers) apart busy = peers-goes m _ (is_newer m.last_index index) refl busy
    does-goes m (Blocked peers) apart busy = inr (inr busy)
    does-goes m ActiveDue apart busy = times_out-goes m (overdue (snapshot a m).asked now) busy
    does-goes m PendingDue apart busy = inr (inr busy)
    does-goes m (Verdict number outcome) apart busy = verdict-goes m number outcome (lookup (λ n. number == n) m.deliveries) apart busy
    does-goes m (Served serve bytes) apart busy = served-goes m serve bytes (lookup (λ n. serve == n) m.serves) busy
    does-goes m (Net peer None) apart busy = inr (inr busy)
    does-goes m (Net peer (Some message)) apart busy = receive-goes m peer message.id message.payload busy
    does-goes m End apart busy = inl refl

    -- a scan that begins leaves the rows
    begins-rows : (m : Machine K S P) (scan : Scan K P) (w : Option (K × Waiting P)) → (turned a m (goes_on_with (orders_of a) (snapshot a m) scan w)).rows ≡ m.rows
    begins-rows m scan None = refl
    begins-rows m scan (Some w) = refl

    scanned-rows : (b : Bool) (m : Machine K S P) → (scanned_if a b m now).machine.rows ≡ m.rows
    scanned-rows true m =
        let opened : Scan K P = record { moment = now; trail = []; expects = None } in
        begins-rows m opened (next (orders_of a) (snapshot a m) opened)
    scanned-rows false m = refl

    sent-goes : (m : Machine K S P) (sent : Option (ℕ × Request K P)) → IsBusyAt m.rows → GoesFrom m (with_sent a m sent)
    sent-goes m None busy = inr (inr busy)
    sent-goes m (Some r) busy = inr (inr (busy-changed r.1.key _ (λ row b. tt) m.rows busy))

    taken-goes : (m : Machine K S P) (r : Result (Turn K P) Fault) → IsBusyAt m.rows → GoesFrom m (answer_of a r m).1
    taken-goes m (Err fault) busy = inr (inr busy)
    taken-goes m (Ok t) busy = sent-goes m t.sent busy

    running-goes : (over : Bool) (m : Machine K S P) (input : Input K S P) → AreApart a m.rows → IsBusyAt m.rows → GoesFrom m (step_running a over m now input).1
    running-goes true m (Happens event) apart busy =
        let begun : Machine K S P = record m { moment = now } in
        happened-begun (does a begun now event) (does-goes begun event apart busy) where
          happened-begun : (o : Option (Done K S P)) → GoesIfDone (record m { moment = now }) o → GoesFrom m (step_of a (option_and_then (λ d. and_then d (λ n. Some (scanned a n now))) o) m).1
          happened-begun None goes = inr (inr busy)
          happened-begun (Some d) goes =
              subst (λ (x : List (K × Row K S P)). Goes (now + m.configuration.retry_delay) m.rows x) (sym (scanned-rows (is_due now (wake_up a d.machine)) d.machine)) goes
    running-goes false m (Happens event) apart busy = inr (inr busy)
    running-goes over m (Answers answer) apart busy = taken-goes m (takes (orders_of a) (snapshot a m) m.scan answer) busy

    in-step-goes : (status : Status) (m : Machine K S P) (input : Input K S P) → AreApart a m.rows → IsBusyAt m.rows → GoesFrom m (step_in a status m now input).1
    in-step-goes Failed m input apart busy = inr (inr busy)
    in-step-goes Ended m input apart busy = inr (inr busy)
    in-step-goes Running m input apart busy = running-goes (is_over m.scan) m input apart busy

  -- a key that is tried waits
  apart-from : (k : K) (r : K × Row K S P) (rows : List (K × Row K S P)) → AllByRecursion (λ y. is_key a k y ≡ false) (keys_of rows) → IsAmong r rows → is_key a k r.0 ≡ false
  apart-from k r [] all i = absurd i
  apart-from k r (q ∷ rows) all (inl e) = ap (λ (x : K × Row K S P). is_key a k x.0) e ∙ all.0
  apart-from k r (q ∷ rows) all (inr i) = apart-from k r rows all.1 i

  row-found : (r : K × Row K S P) (rows : List (K × Row K S P)) → AreApart a rows → IsAmong r rows → is_key a key r.0 ≡ true → Look rows ≡ Some r.1
  row-found r [] apart i same = absurd i
  row-found r (q ∷ rows) apart (inl e) same =
      let here : is_key a key q.0 ≡ true = ap (λ (x : K × Row K S P). is_key a key x.0) (sym e) ∙ same in
      rw here (ap (λ (x : K × Row K S P). Some x.1) (sym e))
  row-found r (q ∷ rows) apart (inr i) same =
      at (is_key a key q.0) refl (row-found r rows (IsDistinct-tail (same_key (names_of a)) q.0 (keys_of rows) apart) i same) where
        at : (b : Bool) → is_key a key q.0 ≡ b → Look rows ≡ Some r.1 → cond b (Some q.1) (Look rows) ≡ Some r.1
        at true is rest =
            let other : is_key a q.0 r.0 ≡ false = apart-from q.0 r rows (IsDistinct-head (same_key (names_of a)) q.0 (keys_of rows) apart) i in
            let clash : true ≡ false = sym same ∙ laws.congr key q.0 r.0 is ∙ other in absurd cc
        at false is rest = rest

  asked-for : (m : Machine K S P) (w : Option (K × Waiting P)) (e : Option (Expected P)) (peer : P) (id : ℕ) (k : K) (priority : Bool)
      → question_of (orders_of a) (snapshot a m) m.scan w e ≡ Some (asks.Request peer id k priority)
      → (v : K × Waiting P) × (q : P) × (n : ℕ) × (w ≡ Some v) × (e ≡ Some (Sending q n)) × (v.0 ≡ k)
  asked-for m None e peer id k priority is = absurd cc
  asked-for m (Some v) None peer id k priority is = absurd cc
  asked-for m (Some v) (Some Mode) peer id k priority is = absurd cc
  asked-for m (Some v) (Some ByWeight) peer id k priority is = absurd cc
  asked-for m (Some v) (Some ByPlace) peer id k priority is = absurd cc
  asked-for m (Some v) (Some (Checking q)) peer id k priority is = absurd cc
  asked-for m (Some v) (Some (FirstId q)) peer id k priority is = absurd cc
  asked-for m (Some v) (Some (Sending q n)) peer id k priority is = (v, q, n, refl, refl, cc)

  module _ (m : Machine K S P) (input : Input K S P) (apart : AreApart a m.rows) (sends : AcceptsSend a m input key) where
    found : (v : K × Waiting P) × (q : P) × (n : ℕ) × (next (orders_of a) (snapshot a m) m.scan ≡ Some v) × (m.scan.expects ≡ Some (Sending q n)) × (v.0 ≡ sends.2)
    found = asked-for m (next (orders_of a) (snapshot a m) m.scan) m.scan.expects sends.0 sends.1 sends.2 sends.3 sends.4

    -- a key that is asked for waits
    waits-at : (row : Row K S P) × (Look m.rows ≡ Some row) × (place : Place) × (row.phase ≡ Waits place)
    waits-at =
        let i = in-order-from a found.0 (filter_map waiting_of m.rows) (found-among (can_be_tried (orders_of a) (snapshot a m) m.scan) (snapshot a m).waiting found.0 found.3) in
        let r = row-waits found.0 m.rows i in
        let phase = phase-waits r.0 found.0 r.2 in
        let same : is_key a key r.0.0 ≡ true = laws.symm key r.0.0 ∙ ap (λ k. is_key a k key) (phase.0 ∙ found.5) ∙ sends.5 in
        (r.0.1, row-found r.0 m.rows apart r.1 same, phase.1.0, phase.1.1)

    -- and then it is asked
    sent-busy : (q : P) (n : ℕ) → IsBusyAt (turned a m (succeeds (orders_of a) (snapshot a m) m.scan found.0.0 q n)).rows
    sent-busy q n =
        let row = waits-at in
        let f : Row K S P → Row K S P = λ old. record old { phase = Asked n (record { key = found.0.0; peer = q; start = m.scan.moment; deadline = m.scan.moment + m.configuration.fetch_timeout }) } in
        let same : is_key a found.0.0 key ≡ true = ap (λ k. is_key a k key) found.5 ∙ sends.5 in
        let look = look-changed a laws found.0.0 key f m.rows in
        (f row.0, look ∙ ap (λ b. if b then option_map f (Look m.rows) else Look m.rows) same ∙ ap (option_map f) row.1, tt)

    takes-busy : IsBusyAt (answer_of a (takes (orders_of a) (snapshot a m) m.scan (Sent true)) m).1.rows
    takes-busy =
        subst (λ (w : Option (K × Waiting P)). IsBusyAt (answer_of a (takes_for (orders_of a) (snapshot a m) m.scan w m.scan.expects (Sent true)) m).1.rows) (sym found.3)
        (subst (λ (e : Option (Expected P)). IsBusyAt (answer_of a (takes_for (orders_of a) (snapshot a m) m.scan (Some found.0) e (Sent true)) m).1.rows) (sym found.4)
        (sent-busy found.1 found.2))

    running-busy : (over : Bool) (now : ℕ) → IsBusyAt (step_running a over m now (Answers (Sent true))).1.rows
    running-busy true now = takes-busy
    running-busy false now = takes-busy

    step-busy : (now : ℕ) → IsBusyAt (step a m now input).1.rows
    step-busy now =
        subst (λ (status : Status). IsBusyAt (step_in a status m now input).1.rows) (sym sends.6)
        (subst (λ (x : Input K S P). IsBusyAt (step_running a (is_over m.scan) m now x).1.rows) (sym sends.7) (running-busy (is_over m.scan) now))

  busy-waits : (m : Machine K S P) → IsBusyAt m.rows → (row : Row K S P) × (Look m.rows ≡ Some row) × (place : Place) × (row.phase ≡ Waits place) → ⊥
  busy-waits m busy waits =
      let same : busy.0 ≡ waits.0 = option-same (sym busy.1 ∙ waits.1) in
      subst (λ (phase : Phase K P). IsBusy phase) (ap (λ (row : Row K S P). row.phase) same ∙ waits.3) busy.2 where
        option-same : {x y : Row K S P} → Some x ≡ Some y → x ≡ y
        option-same e = cc

  between-goes : (m : Machine K S P) (between : List (Fed K S P)) (second : Input K S P) → AreApart a m.rows → IsBusyAt m.rows → AcceptsSend a (after a m between) second key → EndsOrRetries a m between key
  between-goes m [] second apart busy sends = busy-waits m busy (waits-at m second apart sends)
  between-goes m (i ∷ is) second apart busy sends =
      at (in-step-goes i.now m.status m i.input apart busy) (λ later. between-goes (step a m i.now i.input).1 is second (step-apart a total m i.now i.input apart) later sends) where
        at : Goes (i.now + m.configuration.retry_delay) m.rows (step a m i.now i.input).1.rows → (IsBusyAt (step a m i.now i.input).1.rows → EndsOrRetries a (step a m i.now i.input).1 is key) → EndsOrRetries a m (i ∷ is) key
        at (inl none) rest = inl none
        at (inr (inl retried)) rest = inr (inl retried)
        at (inr (inr busy)) rest = inr (inr (rest busy))

module _ {K S P : Type 0} (a : Parties K S P) (total : IsTotalOrder a.key) where
  pub asked_once : AskedOnce a
  asked_once configuration replies_first before first between second key sent again =
      let m : Machine K S P = after a (opening configuration replies_first) before in
      let apart : AreApart a m.rows = run-apart a total configuration replies_first before in
      between-goes a total key (step a m first.now first.input).1 between second (step-apart a total m first.now first.input apart) (step-busy a total key m first.input apart sent first.now) again
