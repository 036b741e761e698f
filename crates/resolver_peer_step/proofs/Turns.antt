-- What a turn of the machine's scan may send.
use Rattle.std.proofs.Common.{◌≡◌, refl, ap, sym, ◌∙◌, ◌⊎◌, inl, inr, ℕ, ◌^◌, Bool, true, false, cond, List, [], ◌∷◌, ◌++◌, Option, None, Some, Result, Ok, Err}
use Rattle.std.specs.Prelude.{◌+◌, is_some, nat_lt, ⊤}
use Rattle.std.specs.Cmp.{IsEquivalence}
use Rattle.std.specs.List.{AllByRecursion, IsDistinct, cons_option, filter_map}
use Rattle.std.specs.Map.{keys_of, lookup}
use Rattle.std.specs.BTreeMap.{insert_entry, is_at}
use Rattle.std.specs.BTreeSet.{insert_key}
use Rattle.std.specs.Ordering.{is_eq, match_ordering, nat_cmp}
use Rattle.std.specs.declared.cmp.Ordering.{Ordering}
use Rattle.std.specs.declared.cmp.Ordering.TheVariants.{Less, Equal, Greater}
use Rattle.std.proofs.lemmas.Cmp.{eq_by_cmp_equiv, nat_cmp_total}
use Rattle.std.proofs.lemmas.Map.Keys.{IsDistinct-cons}
use Rattle.resolver_base.specs.declared.check.Check.TheVariants.{Clear, Until}
use Rattle.resolver_base.specs.declared.fault.Fault.{Fault}
use Rattle.resolver_base.specs.declared.fault.Fault.TheVariants.{OutOfRange}
use Rattle.resolver_fetch_requests.specs.declared.requests.request.Request.{Request}
use Rattle.resolver_sampling.specs.Modes.{means_weighted}
use Rattle.resolver_fetch_requests.specs.Ids.{is_held}
use Rattle.resolver_fetch_requests.specs.Requests.{by_id}
use Rattle.resolver_fetch_scan.specs.declared.place.Place.{Place}
use Rattle.resolver_fetch_scan.specs.declared.scan.Answer.{Answer}
use Rattle.resolver_fetch_scan.specs.declared.scan.Answer.TheVariants.{Drawn, Checked, Sent}
use Rattle.resolver_fetch_scan.specs.declared.trail.Expected.{Expected}
use Rattle.resolver_fetch_scan.specs.declared.trail.Expected.TheVariants.{Mode, ByWeight, ByPlace, Checking, FirstId, Sending}
use Rattle.resolver_fetch_scan.specs.declared.trail.Reason.{Reason}
use Rattle.resolver_fetch_scan.specs.declared.trail.Reason.TheVariants.{Limited, Refused}
use Rattle.resolver_fetch_scan.specs.Fetcher.{AsksNewId}
use Rattle.resolver_fetch_scan.specs.FetcherLaws.{IsAmong}
use Rattle.resolver_fetch_scan.specs.Scan.{Scan, Turn, answered, asks_for, begins, by_place, by_weight, can_be_tried, clears, draws, fails, goes_on, goes_on_with, left, next, question_for, question_of, sends, takes, takes_for}
use Rattle.resolver_fetch_scan.specs.Waiting.{Waiting, in_order, waiting_order}
use Rattle.resolver_fetch_scan.proofs.OneOf.{found-among}
use Rattle.resolver_model_peer.specs.Parties.{Parties, orders_of}
use Rattle.resolver_model_peer.specs.PeerRows.{Row, Phase, Waits, Asked, Judged, request_of, waiting_in, waiting_of}
use Rattle.resolver_model_peer.specs.Peer.{Machine, question, snapshot}
use Rattle.resolver_peer_step.specs.Tied.{fetcher_of, same_id}

module _ {X : Type 0} (d : X → X → Ordering) where
  among-insert : (x k : X) (ks : List X) → IsAmong x (insert_key d ks k) → (x ≡ k) ⊎ IsAmong x ks
  among-insert x k [] (inl is) = inl is
  among-insert x k [] (inr i) = absurd i
  among-insert x k (y ∷ ks) i = at (d k y) (among-insert x k ks) i
    where
      at : (r : Ordering) → (IsAmong x (insert_key d ks k) → (x ≡ k) ⊎ IsAmong x ks)
          → IsAmong x (match_ordering r (k ∷ y ∷ ks) (y ∷ ks) (y ∷ insert_key d ks k)) → (x ≡ k) ⊎ IsAmong x (y ∷ ks)
      at Less rest (inl is) = inl is
      at Less rest (inr i) = inr i
      at Equal rest i = inr i
      at Greater rest (inl is) = inr (inl is)
      at Greater rest (inr i) = later (rest i)
        where
          later : (x ≡ k) ⊎ IsAmong x ks → (x ≡ k) ⊎ IsAmong x (y ∷ ks)
          later (inl is) = inl is
          later (inr i) = inr (inr i)

-- an id that no request holds is none of theirs
module _ {K P : Type 0} (id : ℕ) where
  none-if : (b : Bool) (r : Request K P) (rest : Option (Request K P)) → is_some (cond b (Some r) rest) ≡ false → (b ≡ false) × (is_some rest ≡ false)
  none-if true r rest is = absurd cc
  none-if false r rest is = (refl, is)

  held-insert : (es : List (ℕ × Request K P)) (e : ℕ × Request K P) → is_held (insert_entry nat_cmp es e.0 e.1) id ≡ false → (same_id id e.0 ≡ false) × (is_held es id ≡ false)
  held-insert [] e free = none-if (same_id id e.0) e.1 None free
  held-insert (y ∷ es) e free = at (nat_cmp e.0 y.0) refl (held-insert es e) free
    where
      laws : IsEquivalence same_id
      laws = eq_by_cmp_equiv nat_cmp_total

      at : (r : Ordering) → nat_cmp e.0 y.0 ≡ r → (is_held (insert_entry nat_cmp es e.0 e.1) id ≡ false → (same_id id e.0 ≡ false) × (is_held es id ≡ false))
          → is_held (match_ordering r (e ∷ y ∷ es) ((y.0, e.1) ∷ es) (y ∷ insert_entry nat_cmp es e.0 e.1)) id ≡ false → (same_id id e.0 ≡ false) × (is_held (y ∷ es) id ≡ false)
      at Less is rest free = none-if (same_id id e.0) e.1 (lookup (is_at (nat_cmp id)) (y ∷ es)) free
      at Equal is rest free =
          let here = none-if (same_id id y.0) e.1 (lookup (is_at (nat_cmp id)) es) free in
          (laws.symm id e.0 ∙ laws.congr e.0 y.0 id (ap is_eq is) ∙ laws.symm y.0 id ∙ here.0, rw here.0 here.1)
      at Greater is rest free =
          let here = none-if (same_id id y.0) y.1 (lookup (is_at (nat_cmp id)) (insert_entry nat_cmp es e.0 e.1)) free in
          let below = rest here.1 in
          (below.0, rw here.0 below.1)

  pub free-apart : (es : List (ℕ × Request K P)) → is_held (by_id es) id ≡ false → AllByRecursion (λ i. same_id id i ≡ false) (keys_of es)
  free-apart [] free = tt
  free-apart (e ∷ es) free = let both = held-insert (by_id es) e free in (both.0, free-apart es both.1)

module _ {K S P : Type 0} where
  -- the row of a key that waits
  pub record Waited (rows : List (K × Row K S P)) (key : K) : Type 0 where
    pub row : Row K S P
    pub place : Place
    pub waits : row.phase ≡ Waits place
    pub before : List (K × Row K S P)
    pub after : List (K × Row K S P)
    pub whole : rows ≡ before ++ (key, row) ∷ after

  waited-later : (rows : List (K × Row K S P)) (r : K × Row K S P) (key : K) → Waited rows key → Waited (r ∷ rows) key
  waited-later rows r key w = record { row = w.row; place = w.place; waits = w.waits; before = r ∷ w.before; after = w.after; whole = ap (λ rows. r ∷ rows) w.whole }

  waited-among : (rows : List (K × Row K S P)) (w : K × Waiting P) → IsAmong w (filter_map waiting_of rows) → Waited rows w.0
  waited-among [] w i = absurd i
  waited-among (r ∷ rows) w i = at r.1.phase refl (waited-among rows w) i
    where
      here : (place : Place) → r.1.phase ≡ Waits place → w.0 ≡ r.0 → Waited (r ∷ rows) w.0
      here place is same = record { row = r.1; place = place; waits = is; before = []; after = rows; whole = ap (λ k. (k, r.1) ∷ rows) (sym same) }

      at : (phase : Phase K P) → r.1.phase ≡ phase → (IsAmong w (filter_map waiting_of rows) → Waited rows w.0)
          → IsAmong w (cons_option (waiting_in r.0 r.1 phase) (filter_map waiting_of rows)) → Waited (r ∷ rows) w.0
      at (Waits place) is rest (inl same) = here place is (ap (λ w. w.0) same)
      at (Waits place) is rest (inr i) = waited-later rows r w.0 (rest i)
      at (Asked id request) is rest i = waited-later rows r w.0 (rest i)
      at (Judged j) is rest i = waited-later rows r w.0 (rest i)

module _ {K S P : Type 0} (a : Parties K S P) where
  among-in_order : (ws : List (K × Waiting P)) (w : K × Waiting P) → IsAmong w (in_order (orders_of a) ws) → IsAmong w ws
  among-in_order [] w i = i
  among-in_order (v ∷ ws) w i = at (among-insert (waiting_order (orders_of a)) w v (in_order (orders_of a) ws) i) (among-in_order ws w)
    where
      at : (w ≡ v) ⊎ IsAmong w (in_order (orders_of a) ws) → (IsAmong w (in_order (orders_of a) ws) → IsAmong w ws) → IsAmong w (v ∷ ws)
      at (inl is) rest = inl is
      at (inr i) rest = inr (rest i)

  next-waited : (m : Machine K S P) (scan : Scan K P) (w : K × Waiting P) → next (orders_of a) (snapshot a m) scan ≡ Some w → Waited m.rows w.0
  next-waited m scan w is =
      waited-among m.rows w (among-in_order (filter_map waiting_of m.rows) w (found-among (can_be_tried (orders_of a) (snapshot a m) scan) (snapshot a m).waiting w is))

  -- a request that is sent has a new id, and its key waited
  abbrev pub IsFit : Machine K S P → Option (ℕ × Request K P) → Type 0
  IsFit m None = ⊤
  IsFit m (Some q) = IsDistinct same_id (q.0 ∷ keys_of (filter_map request_of m.rows)) × Waited m.rows q.1.key

  abbrev pub IsFitIfOk : Machine K S P → Result (Turn K P) Fault → Type 0
  IsFitIfOk m (Ok t) = IsFit m t.sent
  IsFitIfOk m (Err fault) = ⊤

  module _ (m : Machine K S P) (distinct : IsDistinct same_id (keys_of (filter_map request_of m.rows))) where
    goes_on-fit : (scan : Scan K P) → IsFit m (goes_on (orders_of a) (snapshot a m) scan).sent
    goes_on-fit scan = at (next (orders_of a) (snapshot a m) scan)
      where
        at : (w : Option (K × Waiting P)) → IsFit m (goes_on_with (orders_of a) (snapshot a m) scan w).sent
        at None = tt
        at (Some w) = tt

    fails-fit : (scan : Scan K P) (key : K) (peer : P) (reason : Reason) → IsFit m (fails (orders_of a) (snapshot a m) scan key peer reason).sent
    fails-fit scan key peer reason = goes_on-fit (record scan { trail = scan.trail ++ record { key = key; peer = peer; reason = reason } ∷ [] })

    clears-fit : (scan : Scan K P) (peer : P) (last : Option ℕ) → IsFit m (clears (orders_of a) (snapshot a m) scan peer last).sent
    clears-fit scan peer None = tt
    clears-fit scan peer (Some last) = tt

    draws-fit : (scan : Scan K P) (peer : Option P) → IsFitIfOk m (draws (orders_of a) (snapshot a m) scan peer)
    draws-fit scan None = tt
    draws-fit scan (Some peer) = tt

    if-fit : (b : Bool) (t : Turn K P) (fault : Fault) → IsFit m t.sent → IsFitIfOk m (cond b (Ok t) (Err fault))
    if-fit true t fault fit = fit
    if-fit false t fault fit = tt

    answered-fit : (scan : Scan K P) (w : K × Waiting P) → Waited m.rows w.0 → (expected : Expected P) → AsksNewId (orders_of a) (fetcher_of a m) (Some (question_for (orders_of a) (snapshot a m) scan w expected))
        → (answer : Answer) → IsFitIfOk m (answered (orders_of a) (snapshot a m) scan w expected answer)
    answered-fit scan w waited Mode new (Drawn n) = if-fit (nat_lt n (w.1.retries + 4)) (asks_for (orders_of a) (snapshot a m) scan (cond (means_weighted n) ByWeight ByPlace)) OutOfRange tt
    answered-fit scan w waited Mode new (Checked check) = tt
    answered-fit scan w waited Mode new (Sent accepted) = tt
    answered-fit scan w waited ByWeight new (Drawn n) = draws-fit scan (by_weight (left (orders_of a) (snapshot a m) scan.trail w) n)
    answered-fit scan w waited ByWeight new (Checked check) = tt
    answered-fit scan w waited ByWeight new (Sent accepted) = tt
    answered-fit scan w waited ByPlace new (Drawn n) = draws-fit scan (by_place (left (orders_of a) (snapshot a m) scan.trail w) n)
    answered-fit scan w waited ByPlace new (Checked check) = tt
    answered-fit scan w waited ByPlace new (Sent accepted) = tt
    answered-fit scan w waited (Checking peer) new (Drawn n) = tt
    answered-fit scan w waited (Checking peer) new (Checked Clear) = clears-fit scan peer m.last_id
    answered-fit scan w waited (Checking peer) new (Checked (Until moment)) = fails-fit scan w.0 peer (Limited moment)
    answered-fit scan w waited (Checking peer) new (Sent accepted) = tt
    answered-fit scan w waited (FirstId peer) new (Drawn n) = if-fit (nat_lt n (2 ^ 64)) (sends (orders_of a) (snapshot a m) scan peer n) OutOfRange tt
    answered-fit scan w waited (FirstId peer) new (Checked check) = tt
    answered-fit scan w waited (FirstId peer) new (Sent accepted) = tt
    answered-fit scan w waited (Sending peer id) new (Drawn n) = tt
    answered-fit scan w waited (Sending peer id) new (Checked check) = tt
    answered-fit scan w waited (Sending peer id) new (Sent true) =
        (IsDistinct-cons same_id id (keys_of (filter_map request_of m.rows)) (free-apart id (filter_map request_of m.rows) new) distinct, waited)
    answered-fit scan w waited (Sending peer id) new (Sent false) = fails-fit scan w.0 peer Refused

    -- what an answer has the open scan send
    pub takes-fit : AsksNewId (orders_of a) (fetcher_of a m) (question a m) → (answer : Answer) → IsFitIfOk m (takes (orders_of a) (snapshot a m) m.scan answer)
    takes-fit new answer = at (next (orders_of a) (snapshot a m) m.scan) refl m.scan.expects new
      where
        at : (w : Option (K × Waiting P)) → next (orders_of a) (snapshot a m) m.scan ≡ w → (e : Option (Expected P)) → AsksNewId (orders_of a) (fetcher_of a m) (question_of (orders_of a) (snapshot a m) m.scan w e)
            → IsFitIfOk m (takes_for (orders_of a) (snapshot a m) m.scan w e answer)
        at None is e new = tt
        at (Some w) is None new = tt
        at (Some w) is (Some e) new = answered-fit m.scan w (next-waited m m.scan w is) e new answer

    -- a scan that begins sends nothing
    pub begins-fit : (now : ℕ) → IsFit m (begins (orders_of a) (snapshot a m) now).sent
    begins-fit now = goes_on-fit (record { moment = now; trail = []; expects = None })
