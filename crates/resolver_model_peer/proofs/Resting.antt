-- What an event leaves of the keys that wait and of the peers to try, where it leaves the waiter.
use Rattle.std.proofs.Common.{◌≡◌, refl, ap, sym, ◌∙◌, subst, ◌⊎◌, inl, inr, ℕ, ◌+◌, ◌^◌, Bool, true, false, cond, ◌==◌, List, [], ◌∷◌, ◌++◌, Option, None, Some, filter, filter_map, if◌then◌else◌}
use Rattle.std.specs.Prelude.{option_map, option_and_then, nat_lt, ⊤}
use Rattle.std.specs.Cmp.{IsTotalOrder}
use Rattle.std.specs.List.{cons_option}
use Rattle.std.specs.Map.{lookup, remove_entry, set_value}
use Rattle.std.specs.BTreeMap.{insert_entry, is_at}
use Rattle.std.specs.Ordering.{nat_cmp}
use Rattle.std.specs.declared.cmp.Ordering.{Ordering}
use Rattle.std.specs.NonZero.{non_zero_u32_get}
use Rattle.resolver_types.specs.declared.outcome.Outcome.{Outcome}
use Rattle.resolver_types.specs.declared.outcome.Outcome.TheVariants.{Invalid, Resolved, Unresolved, Ignored}
use Rattle.resolver_types.specs.Subscribers.{attached_all, without}
use Rattle.resolver_sampling.specs.declared.score.Averages.{Averages}
use Rattle.resolver_fetch_requests.specs.declared.requests.request.Request.{Request}
use Rattle.resolver_fetch_requests.specs.Loads.{Load, load_of}
use Rattle.resolver_fetch_requests.specs.Requests.{by_id, overdue}
use Rattle.resolver_wire.specs.declared.wire.Payload.{Payload}
use Rattle.resolver_wire.specs.declared.wire.Payload.TheVariants as payloads
use Rattle.resolver_fetch_scan.specs.Known as peers
use Rattle.resolver_fetch_scan.specs.Known.{is_eligible}
use Rattle.resolver_fetch_scan.specs.Snapshot.{eligible, known}
use Rattle.resolver_fetch_scan.specs.Waiting.{Waiting, in_order, waiter_freed}
use Rattle.resolver_fetch_scan.specs.FetcherLaws.{IsAmong}
use Rattle.resolver_fetch_scan.proofs.OneOf.{IsOneOf}
use Rattle.resolver_model.specs.declared.ruling.Ruling.{Ruling}
use Rattle.resolver_model.specs.declared.ruling.Ruling.TheVariants as rulings
use Rattle.resolver_model.specs.Verdicts.{ruling}
use Rattle.resolver_model_peer.specs.Parties.{Parties, orders_of}
use Rattle.resolver_model_peer.specs.declared.named.Source.{Source}
use Rattle.resolver_model_peer.specs.PeerRows.{Row, Phase, Waits, Asked, Judged, Judging, change_entry, request_in, request_of, waiting_in, waiting_of}
use Rattle.resolver_model_peer.specs.declared.named.Serve.{Serve}
use Rattle.resolver_model_peer.specs.Peer.{Machine, Open, Done, Item, Event, Fetch, Retain, PeerSet, Blocked, ActiveDue, PendingDue, Verdict, Served, Net, End, quiet, snapshot, closed, served_by, observe, row_of, is_key, fetch, fetch_one, times_out, hand_out, handed_as, with_row, account_for, serves_rest, ruled, ruled_in, ruled_at, targets_with, verdict_on, freed, responds, misses, answered, receive, does, without_row, is_newer}
use Rattle.resolver_model_peer.proofs.InOrder.{rests-removed, waits-removed}

module _ {P : Type 0} (may : P → Bool) (test : P → Bool) (v : Averages) where
  -- whom a filter by name leaves is the same with other averages
  pub names-set : (p : P) (ps : List (P × Averages)) → IsOneOf p (filter (λ q. may q.0) (set_value test ps v)) → IsOneOf p (filter (λ q. may q.0) ps)
  names-set p [] i = i
  names-set p (q ∷ ps) i = at (test q.0) (may q.0) refl i (names-set p ps) where
    more : (b : Bool) (r s : P × Averages) (rs ss : List (P × Averages)) → r.0 ≡ s.0 → (IsOneOf p rs → IsOneOf p ss) → IsOneOf p (cond b (r ∷ rs) rs) → IsOneOf p (cond b (s ∷ ss) ss)
    more true r s rs ss same rest (x, inl e) = (s.1, inl (ap (λ n. (n, s.1)) (ap (λ (y : P × Averages). y.0) e ∙ same)))
    more true r s rs ss same rest (x, inr j) = let found = rest (x, j) in (found.0, inr found.1)
    more false r s rs ss same rest found = rest found

    at : (b c : Bool) → may q.0 ≡ c → IsOneOf p (filter (λ q. may q.0) (cond b ((q.0, v) ∷ ps) (q ∷ set_value test ps v)))
        → (IsOneOf p (filter (λ q. may q.0) (set_value test ps v)) → IsOneOf p (filter (λ q. may q.0) ps)) → IsOneOf p (filter (λ q. may q.0) (q ∷ ps))
    at true c is found rest = more (may q.0) (q.0, v) q (filter (λ q. may q.0) ps) (filter (λ q. may q.0) ps) refl (λ j. j) found
    at false c is found rest = more (may q.0) q q (filter (λ q. may q.0) (set_value test ps v)) (filter (λ q. may q.0) ps) refl rest found

module _ {K S P : Type 0} where
  -- a row with the same phase, targets and retries waits alike
  waits-alike : (key : K) (old new : Row K S P) → new.phase ≡ old.phase → new.targets ≡ old.targets → new.retries ≡ old.retries → waiting_of (key, new) ≡ waiting_of (key, old)
  waits-alike key old new same targets retries = ap (waiting_in key new) same ∙ at old.phase where
    at : (phase : Phase K P) → waiting_in key new phase ≡ waiting_in key old phase
    at (Waits place) = rw (targets, retries) refl
    at (Asked id request) = refl
    at (Judged j) = refl

  waits-changed : (test : K → Bool) (f : Row K S P → Row K S P) (row : Row K S P) → ((key : K) → waiting_of (key, f row) ≡ waiting_of (key, row))
      → (rows : List (K × Row K S P)) → lookup test rows ≡ Some row → filter_map waiting_of (change_entry test f rows) ≡ filter_map waiting_of rows
  waits-changed test f row same [] found = refl
  waits-changed test f row same (r ∷ rows) found = at (test r.0) found (waits-changed test f row same rows) where
    at : (b : Bool) → cond b (Some r.1) (lookup test rows) ≡ Some row
        → (lookup test rows ≡ Some row → filter_map waiting_of (change_entry test f rows) ≡ filter_map waiting_of rows)
        → filter_map waiting_of (cond b ((r.0, f r.1) ∷ rows) (r ∷ change_entry test f rows)) ≡ filter_map waiting_of (r ∷ rows)
    at true here rest =
        let is : r.1 ≡ row = cc in
        let e : waiting_of (r.0, f r.1) ≡ waiting_of (r.0, r.1) = subst (λ (x : Row K S P). waiting_of (r.0, f x) ≡ waiting_of (r.0, x)) (sym is) (same r.0) in
        ap (λ o. cons_option o (filter_map waiting_of rows)) e
    at false here rest = ap (cons_option (waiting_of r)) (rest here)

  -- rows whose requests stay as they were
  asks-changed : (test : K → Bool) (f : Row K S P → Row K S P) → ((key : K) (row : Row K S P) → request_of (key, f row) ≡ request_of (key, row))
      → (rows : List (K × Row K S P)) → filter_map request_of (change_entry test f rows) ≡ filter_map request_of rows
  asks-changed test f same [] = refl
  asks-changed test f same (r ∷ rows) = at (test r.0) (asks-changed test f same rows) where
    at : (b : Bool) → filter_map request_of (change_entry test f rows) ≡ filter_map request_of rows
        → filter_map request_of (cond b ((r.0, f r.1) ∷ rows) (r ∷ change_entry test f rows)) ≡ filter_map request_of (r ∷ rows)
    at true rest = ap (λ o. cons_option o (filter_map request_of rows)) (same r.0 r.1)
    at false rest = ap (cons_option (request_of r)) rest

  -- a row that asks for nothing, and asks for nothing then
  asks-still : (test : K → Bool) (f : Row K S P → Row K S P) (row : Row K S P) → request_in row.phase ≡ None → request_in (f row).phase ≡ None
      → (rows : List (K × Row K S P)) → lookup test rows ≡ Some row → filter_map request_of (change_entry test f rows) ≡ filter_map request_of rows
  asks-still test f row before later [] found = refl
  asks-still test f row before later (r ∷ rows) found = at (test r.0) found (asks-still test f row before later rows) where
    at : (b : Bool) → cond b (Some r.1) (lookup test rows) ≡ Some row
        → (lookup test rows ≡ Some row → filter_map request_of (change_entry test f rows) ≡ filter_map request_of rows)
        → filter_map request_of (cond b ((r.0, f r.1) ∷ rows) (r ∷ change_entry test f rows)) ≡ filter_map request_of (r ∷ rows)
    at true here rest =
        let is : r.1 ≡ row = cc in
        let e : request_in (f r.1).phase ≡ request_in r.1.phase =
        ap (λ (x : Row K S P). request_in (f x).phase) is ∙ later ∙ sym (ap (λ (x : Row K S P). request_in x.phase) is ∙ before) in
        ap (λ o. cons_option o (filter_map request_of rows)) e
    at false here rest = ap (cons_option (request_of r)) (rest here)

  -- a row that asks for nothing is gone
  asks-gone : (test : K → Bool) (row : Row K S P) → request_in row.phase ≡ None
      → (rows : List (K × Row K S P)) → lookup test rows ≡ Some row → filter_map request_of (remove_entry test rows) ≡ filter_map request_of rows
  asks-gone test row before [] found = refl
  asks-gone test row before (r ∷ rows) found = at (test r.0) found (asks-gone test row before rows) where
    at : (b : Bool) → cond b (Some r.1) (lookup test rows) ≡ Some row
        → (lookup test rows ≡ Some row → filter_map request_of (remove_entry test rows) ≡ filter_map request_of rows)
        → filter_map request_of (cond b rows (r ∷ remove_entry test rows)) ≡ filter_map request_of (r ∷ rows)
    at true here rest =
        let is : r.1 ≡ row = cc in
        sym (ap (λ o. cons_option o (filter_map request_of rows)) (ap (λ (x : Row K S P). request_in x.phase) is ∙ before))
    at false here rest = ap (cons_option (request_of r)) (rest here)

-- without a limit no peer is full, whoever has requests
unlimited : {K P N : Type 0} (by_peer : P → P → Ordering) (most : N → ℕ) (limit : Option N) (xs ys : List (ℕ × Request K P)) → limit ≡ None
    → load_of by_peer (option_map most limit) xs ≡ load_of by_peer (option_map most limit) ys
unlimited by_peer most limit xs ys is = ap (λ l. load_of by_peer (option_map most l) xs) is ∙ sym (ap (λ l. load_of by_peer (option_map most l) ys) is)

-- the waiter is clear where there is a limit
freed-waiter : {N : Type 0} (limit : Option N) (waiter : Option ℕ) → (waiter_freed limit waiter ≡ None) ⊎ ((waiter_freed limit waiter ≡ waiter) × (limit ≡ None))
freed-waiter None waiter = inr (refl, refl)
freed-waiter (Some most) waiter = inl refl

module _ {K S P : Type 0} (a : Parties K S P) (total : IsTotalOrder a.key) where
  -- the peers that may be asked for a key with these targets, where each has so many requests
  abbrev loaded : Machine K S P → Option (Load P) → Option (List P) → List (P × Averages)
  loaded m load targets = peers.eligible a.peer (record (known (orders_of a) (snapshot a m)) { load = load }) targets

  abbrev limit_of : Machine K S P → Option ℕ
  limit_of m = option_map non_zero_u32_get m.configuration.peer_limit

  -- the same peers may be asked where each has as many
  same-load : (m : Machine K S P) (xs ys : List (ℕ × Request K P)) → xs ≡ ys → (targets : Option (List P)) (p : P)
      → IsOneOf p (loaded m (load_of a.peer (limit_of m) (by_id xs)) targets) → IsOneOf p (loaded m (load_of a.peer (limit_of m) (by_id ys)) targets)
  same-load m xs ys same targets p i = subst (λ (zs : List (ℕ × Request K P)). IsOneOf p (loaded m (load_of a.peer (limit_of m) (by_id zs)) targets)) same i

  -- no key waits that didn't, and no peer is eligible that wasn't
  abbrev pub IsStill : (m n : Machine K S P) → Type 0
  IsStill m n = (n.waiter ≡ m.waiter)
      × ((w : K × Waiting P) → IsAmong w (snapshot a n).waiting → IsAmong w (snapshot a m).waiting)
      × ((targets : Option (List P)) (p : P) → IsOneOf p (eligible (orders_of a) (snapshot a n) targets) → IsOneOf p (eligible (orders_of a) (snapshot a m) targets))

  -- or the waiter is clear
  abbrev pub IsResting : (m n : Machine K S P) → Type 0
  IsResting m n = (n.waiter ≡ None) ⊎ IsStill m n

  abbrev pub IsRestingIfDone : Machine K S P → Option (Done K S P) → Type 0
  IsRestingIfDone m None = ⊤
  IsRestingIfDone m (Some d) = IsResting m d.machine

  resting-through : (l m n : Machine K S P) → IsResting l m → IsResting m n → IsResting l n
  resting-through l m n first (inl clear) = inl clear
  resting-through l m n (inl clear) (inr still) = inl (still.0 ∙ clear)
  resting-through l m n (inr first) (inr second) =
      inr (second.0 ∙ first.0, λ w i. first.1 w (second.1 w i), λ targets p i. first.2 targets p (second.2 targets p i))

  itself : (m : Machine K S P) → IsResting m m
  itself m = inr (refl, λ w i. i, λ targets p i. i)

  resting-if : (m : Machine K S P) (b : Bool) (d : Done K S P) → IsResting m d.machine → IsRestingIfDone m (if b then Some d else None)
  resting-if m true d rests = rests
  resting-if m false d rests = tt

  resting-either : (m : Machine K S P) (b : Bool) (o : Option (Done K S P)) → IsRestingIfDone m o → IsRestingIfDone m (if b then o else Some (quiet m))
  resting-either m true o rests = rests
  resting-either m false o rests = itself m

  resting-and : (m : Machine K S P) (d : Done K S P) (o : Option (Done K S P)) → IsResting m d.machine → IsRestingIfDone d.machine o
      → IsRestingIfDone m (option_map (λ e. record { machine = e.machine; effects = d.effects ++ e.effects }) o)
  resting-and m d None first second = tt
  resting-and m d (Some e) first second = resting-through m d.machine e.machine first second

  -- the row of a key that is not asked for is gone
  gone-resting : (m : Machine K S P) (key : K) (row : Row K S P) → row_of a m key ≡ Some row → request_in row.phase ≡ None → IsResting m (without_row a m key)
  gone-resting m key row found none =
      inr (refl, (λ w i. waits-removed a total key w m.rows i), λ targets p i. same-load m _ _ (asks-gone (is_key a key) row none m.rows found) targets p i)

  abbrev judged : List (S × ℕ) → Judging P → Row K S P → Row K S P
  judged subscribers j row = record row { subscribers = subscribers; phase = Judged j }

  -- no other key waits where one is judged
  waits-judged : (key : K) (subscribers : List (S × ℕ)) (j : Judging P) (rows : List (K × Row K S P)) (w : K × Waiting P)
      → IsAmong w (in_order (orders_of a) (filter_map waiting_of (change_entry (is_key a key) (judged subscribers j) rows))) → IsAmong w (in_order (orders_of a) (filter_map waiting_of rows))
  waits-judged key subscribers j rows w i =
      waits-removed a total key w rows
      (subst (λ (ws : List (K × Waiting P)). IsAmong w (in_order (orders_of a) ws)) (rests-removed a total (is_key a key) (judged subscribers j) (λ k row. refl) rows) i)

  -- a response is handed out once more, for a key that is not asked for
  again-resting : (m : Machine K S P) (key : K) (subscribers : List (S × ℕ)) (j : Judging P) (row : Row K S P) → row_of a m key ≡ Some row → request_in row.phase ≡ None
      → IsRestingIfDone m (hand_out a m key subscribers j)
  again-resting m key subscribers j row found none =
      resting-if m (nat_lt j.number (2 ^ 64)) _
      (inr (refl, (λ w i. waits-judged key subscribers j m.rows w i), λ targets p i. same-load m _ _ (asks-still (is_key a key) (judged subscribers j) row none refl m.rows found) targets p i))

  -- A response is handed out. Its peer may be asked again only where requests are limited, and then the waiter is clear.
  handed-resting : (m : Machine K S P) (key : K) (subscribers : List (S × ℕ)) (j : Judging P) → IsRestingIfDone m (hand_out a (freed m) key subscribers j)
  handed-resting m key subscribers j = resting-if m (nat_lt j.number (2 ^ 64)) _ (at (freed-waiter m.configuration.peer_limit m.waiter)) where
    at : (waiter_freed m.configuration.peer_limit m.waiter ≡ None) ⊎ ((waiter_freed m.configuration.peer_limit m.waiter ≡ m.waiter) × (m.configuration.peer_limit ≡ None)) → IsResting m (record (with_row a (freed m) key (judged subscribers j)) {
      deliveries = insert_entry nat_cmp m.deliveries j.number (record { handed = handed_as a key subscribers j; source = j.source; accepted = j.accepted });
      next_delivery = j.number + 1;
    })
    at (inl clear) = inl clear
    at (inr unlimited_is) = inr (
      unlimited_is.0,
      (λ w i. waits-judged key subscribers j m.rows w i),
      λ targets p i. subst (λ (load : Option (Load P)). IsOneOf p (loaded m load targets)) (unlimited a.peer non_zero_u32_get m.configuration.peer_limit _ (by_id (filter_map request_of m.rows)) unlimited_is.1) i,
    )

  abbrev joined : Item K S P → Row K S P → Row K S P
  joined item old = record old { subscribers = attached_all a.subscriber old.subscribers item.subscribers; targets = targets_with a old.targets item.targets }

  -- subscribers alone are new, and targets for a key that any peer may be asked for
  joined-resting : (m : Machine K S P) (item : Item K S P) (row : Row K S P) → row_of a m item.key ≡ Some row
      → (there given : Option (List P)) → row.targets ≡ there → item.targets ≡ given → IsResting m (fetch_one a m 0 item (Some row))
  joined-resting m item row found None (Some given) is_there is_given =
      inr (
        rw (is_there, is_given) refl,
        (λ w i. subst (λ (ws : List (K × Waiting P)). IsAmong w (in_order (orders_of a) ws)) same i),
        λ targets p i. same-load m _ _ (asks-changed (is_key a item.key) (joined item) (λ key old. refl) m.rows) targets p i,
      ) where
        same : filter_map waiting_of (fetch_one a m 0 item (Some row)).rows ≡ filter_map waiting_of m.rows
        same = waits-changed (is_key a item.key) (joined item) row (λ key. waits-alike key row (joined item row) refl (ap (λ t. targets_with a t item.targets) is_there ∙ sym is_there) refl) m.rows found
  joined-resting m item row found (Some there) (Some given) is_there is_given = inl (rw is_there refl)
  joined-resting m item row found (Some there) None is_there is_given = inl (rw is_there refl)
  joined-resting m item row found None None is_there is_given = inl (rw (is_there, is_given) refl)

  fetch_one-resting : (m : Machine K S P) (now : ℕ) (item : Item K S P) (row : Option (Row K S P)) → row_of a m item.key ≡ row → IsResting m (fetch_one a m now item row)
  fetch_one-resting m now item None found = inl refl
  fetch_one-resting m now item (Some row) found = joined-resting m item row found row.targets item.targets refl refl

  fetch-resting : (m : Machine K S P) (now : ℕ) (items : List (Item K S P)) → IsResting m (fetch a m now items)
  fetch-resting m now [] = itself m
  fetch-resting m now (item ∷ items) =
      let n : Machine K S P = fetch_one a m now item (row_of a m item.key) in
      resting-through m n (fetch a n now items) (fetch_one-resting m now item (row_of a m item.key) refl) (fetch-resting n now items)

  peers-resting : (m n : Machine K S P) (b : Bool) → n.waiter ≡ None → IsResting m (if b then n else m)
  peers-resting m n true clear = inl clear
  peers-resting m n false clear = itself m

  times_out-resting : (m : Machine K S P) (now : ℕ) (r : Option (ℕ × Request K P)) → IsResting m (times_out a m now r)
  times_out-resting m now None = itself m
  times_out-resting m now (Some r) = inl refl

  misses-resting : (m : Machine K S P) (now : ℕ) (r : Option (Request K P)) → IsResting m (misses a m now r)
  misses-resting m now None = itself m
  misses-resting m now (Some r) = inl refl

  served-resting : (m : Machine K S P) (serve : ℕ) (bytes : Option (List ℕ)) (s : Option (Serve P)) → IsResting m (served_by m serve bytes s).machine
  served-resting m serve bytes None = itself m
  served-resting m serve bytes (Some s) = inr (refl, λ w i. i, λ targets p i. i)

  observe-resting : (m : Machine K S P) (source : Source P) → IsResting m (observe a m source)
  observe-resting m source =
      inr (refl, (λ w i. i), λ targets p i. names-set (is_eligible a.peer (known (orders_of a) (snapshot a m)) targets) (is_at (a.peer source.peer)) _ p m.peers i)

  account-resting : (m : Machine K S P) (h : Open K S P) (accepted : Bool) (outcome : Option Outcome) → IsResting m (account_for a m h accepted outcome).machine
  account-resting m h true outcome = itself m
  account-resting m h false None = itself m
  account-resting m h false (Some (Resolved resolution)) = observe-resting m h.source
  account-resting m h false (Some Invalid) = itself m
  account-resting m h false (Some Unresolved) = itself m
  account-resting m h false (Some Ignored) = itself m

  rest-resting : (m : Machine K S P) (h : Open K S P) (value : List ℕ) (accepted : Bool) (rest : List (S × ℕ)) (row : Row K S P) → row_of a m h.handed.key ≡ Some row → request_in row.phase ≡ None
      → IsRestingIfDone m (serves_rest a m h value accepted rest)
  rest-resting m h value accepted [] row found none = gone-resting m h.handed.key row found none
  rest-resting m h value accepted (s ∷ rest) row found none = again-resting m h.handed.key (s ∷ rest) _ row found none

  ruled-resting : (m : Machine K S P) (now : ℕ) (h : Open K S P) (row : Row K S P) (value : List ℕ) (rule : Ruling) → row_of a m h.handed.key ≡ Some row → request_in row.phase ≡ None
      → IsRestingIfDone m (ruled a m now h row value rule)
  ruled-resting m now h row value (rulings.Serve accepted) found none = rest-resting m h value accepted (without a.subscriber h.handed.subscribers row.subscribers) row found none
  ruled-resting m now h row value rulings.Retry found none = inl refl
  ruled-resting m now h row value rulings.Retire found none = gone-resting m h.handed.key row found none

  -- a verdict ends or hands out again only what is judged
  in-resting : (m : Machine K S P) (now number : ℕ) (h : Open K S P) (outcome : Option Outcome) (row : Row K S P) → row_of a m h.handed.key ≡ Some row → (phase : Phase K P) → row.phase ≡ phase
      → IsRestingIfDone m (ruled_in a m now number h outcome row phase)
  in-resting m now number h outcome row found (Waits place) is = itself m
  in-resting m now number h outcome row found (Asked id request) is = itself m
  in-resting m now number h outcome row found (Judged j) is =
      resting-either m (number == j.number) (ruled a m now h row j.value (ruling h.accepted outcome))
      (ruled-resting m now h row j.value (ruling h.accepted outcome) found (ap request_in is))

  at-resting : (m : Machine K S P) (now number : ℕ) (h : Open K S P) (outcome : Option Outcome) (row : Option (Row K S P)) → row_of a m h.handed.key ≡ row
      → IsRestingIfDone m (ruled_at a m now number h outcome row)
  at-resting m now number h outcome None found = itself m
  at-resting m now number h outcome (Some row) found = in-resting m now number h outcome row found row.phase refl

  -- without one of its deliveries
  closed-resting : (m n : Machine K S P) (number : ℕ) → IsResting (closed m number) n → IsResting m n
  closed-resting m n number (inl clear) = inl clear
  closed-resting m n number (inr still) = inr still

  verdict-resting : (m : Machine K S P) (now number : ℕ) (outcome : Option Outcome) (o : Option (Open K S P)) → IsRestingIfDone m (verdict_on a m now number outcome o)
  verdict-resting m now number outcome None = itself m
  verdict-resting m now number outcome (Some h) =
      let d : Done K S P = account_for a (closed m number) h h.accepted outcome in
      resting-and m d (ruled_at a d.machine now number h outcome (row_of a d.machine h.handed.key))
      (closed-resting m d.machine number (account-resting (closed m number) h h.accepted outcome))
      (at-resting d.machine now number h outcome (row_of a d.machine h.handed.key) refl)

  responds-resting : (m : Machine K S P) (now : ℕ) (value : List ℕ) (r : Option (Request K P)) (row : Option (Row K S P)) → IsRestingIfDone m (responds a m now value r row)
  responds-resting m now value None row = itself m
  responds-resting m now value (Some q) None = itself m
  responds-resting m now value (Some q) (Some row) = handed-resting m q.key row.subscribers _

  receive-resting : (m : Machine K S P) (now : ℕ) (peer : P) (id : ℕ) (payload : Payload K) → IsRestingIfDone m (receive a m now peer id payload)
  receive-resting m now peer id (payloads.Request key) = resting-if m (nat_lt m.next_serve (2 ^ 64)) _ (inr (refl, λ w i. i, λ targets p i. i))
  receive-resting m now peer id (payloads.Response value) = responds-resting m now value (answered a m peer id) (option_and_then (λ r. row_of a m r.key) (answered a m peer id))
  receive-resting m now peer id payloads.Error = misses-resting m now (answered a m peer id)

  -- an event clears the waiter, or leaves no more to be tried
  pub does-resting : (m : Machine K S P) (now : ℕ) (event : Event K S P) → IsRestingIfDone m (does a m now event)
  does-resting m now (Fetch items) = fetch-resting m now items
  does-resting m now (Retain keep) = inl refl
  does-resting m now (PeerSet index peers) = peers-resting m _ (is_newer m.last_index index) refl
  does-resting m now (Blocked peers) = inl refl
  does-resting m now ActiveDue = times_out-resting m now (overdue (snapshot a m).asked now)
  does-resting m now PendingDue = itself m
  does-resting m now (Verdict number outcome) = verdict-resting m now number outcome (lookup (λ n. number == n) m.deliveries)
  does-resting m now (Served serve bytes) = served-resting m serve bytes (lookup (λ n. serve == n) m.serves)
  does-resting m now (Net peer None) = itself m
  does-resting m now (Net peer (Some message)) = receive-resting m now peer message.id message.payload
  does-resting m now End = inl refl
