-- The parts once a request that did not help is asked no more, and its key waits again.
use Rattle.std.proofs.Common.{◌≡◌, refl, ap, sym, ◌∙◌, subst, ℕ, ◌+◌, true, false, List, ◌∷◌, ◌++◌, map, Option, None, Some}
use Rattle.std.specs.Prelude.{is_some}
use Rattle.std.specs.Cmp.{IsTotalOrder}
use Rattle.std.specs.List.{IsDistinct, cons_option, filter_map}
use Rattle.std.specs.Map.{keys_of}
use Rattle.resolver_fetch_requests.specs.declared.requests.request.Request.{Request}
use Rattle.resolver_fetch_requests.specs.Requests.{by_id, matching, overdue, without_request}
use Rattle.resolver_sampling.specs.Times.{elapsed_since}
use Rattle.resolver_fetch_scan.specs.declared.place.Place.{Place}
use Rattle.resolver_fetch_scan.specs.declared.trail.Expected.{Expected}
use Rattle.resolver_fetch_scan.specs.Fetcher as fetchers
use Rattle.resolver_fetch_scan.specs.Fetcher.{Fetcher, unless_over}
use Rattle.resolver_fetch_scan.specs.FetcherLaws.{IsAmong}
use Rattle.resolver_fetch_scan.specs.Waiting.{retry_at}
use Rattle.resolver_model_peer.specs.Parties.{Parties, orders_of}
use Rattle.resolver_model_peer.specs.PeerRows.{Asked, Row, request_in, request_of}
use Rattle.resolver_model_peer.specs.Peer.{Machine, answered, fails, misses, snapshot, times_out}
use Rattle.resolver_peer_step.specs.declared.parts.Parts.{Parts}
use Rattle.resolver_peer_step.specs.Tied.{Agrees, AreOwn, IsSound, fetcher_of, held_of, holds_in, holds_of, open_of, place_in, same_id}
use Rattle.resolver_peer_step.proofs.Places.{holds-at, none-asked, own-after, own-before, own-slot, request_at, requests-at}
use Rattle.resolver_peer_step.proofs.Queues.{distinct-less, without-asked}
use Rattle.resolver_peer_step.proofs.Requests.{among-by_id, matching-among, overdue-among}
use Rattle.resolver_peer_step.proofs.Retrying.{AskedRow, Retries, asked-row, retried, retried_rows, retries}
use Rattle.resolver_peer_step.proofs.Slots.{slot}

module _ {K S P : Type 0} (a : Parties K S P) where
  -- a scan that the fetcher has closed is over
  pub over : (e : Parts K P S) (m : Machine K S P) → Agrees a e m → is_some e.fetcher.scan ≡ false → m.scan.expects ≡ None
  over e m is closed = at m.scan.expects refl (sym (ap (λ f. is_some f.scan) is.fetcher) ∙ closed)
    where
      at : (x : Option (Expected P)) → m.scan.expects ≡ x → is_some (unless_over m.scan) ≡ false → m.scan.expects ≡ None
      at None expects closed = expects
      at (Some x) expects closed = absurd (clash (rw expects at closed))
        where
          clash : true ≡ false → ⊥
          clash same = cc

module _ {K S P : Type 0} (a : Parties K S P) (o : IsTotalOrder a.key) (m : Machine K S P) (sound : IsSound a m) where
  -- what the parts have once this request is over
  record Over (q : ℕ × Request K P) (place : Place) : Type 0 where
    pub row : Row K S P
    pub before : List (K × Row K S P)
    pub after : List (K × Row K S P)
    pub tables : Retries a o m.rows q.1.key place before after row
    pub asked : without_request q.0 (by_id (filter_map request_of m.rows)) ≡ by_id (filter_map request_of (retried_rows a o m.rows q.1.key place))
    pub ids : IsDistinct same_id (keys_of (filter_map request_of (retried_rows a o m.rows q.1.key place)))
    pub own : AreOwn m.deliveries (retried_rows a o m.rows q.1.key place)
    pub holds : holds_of m.rows ≡ holds_of (retried_rows a o m.rows q.1.key place)

  over-at : (q : ℕ × Request K P) (place : Place) → AskedRow a o m.rows q → Over q place
  over-at q place w =
      let at = w.at in
      let xs = filter_map request_of at.before in
      let ys = filter_map request_of at.after in
      let tables = retries a o m.rows q.1.key place w.row sound.ordered at (ap (λ phase. place_in q.1.key phase) w.asks) in
      let were : filter_map request_of m.rows ≡ xs ++ q ∷ ys =
      ap (filter_map request_of) at.whole ∙ requests-at a o at.before at.after q.1.key (Some w.row) ∙ ap (λ phase. xs ++ cons_option (request_in phase) ys) w.asks in
      let are : filter_map request_of (retried_rows a o m.rows q.1.key place) ≡ xs ++ ys =
      ap (filter_map request_of) tables.now ∙ requests-at a o at.before at.after q.1.key (Some (retried a o place w.row)) in
      let ids = subst (λ es. IsDistinct same_id (keys_of es)) were sound.ids in
      let owned = subst (λ rows. AreOwn m.deliveries rows) at.whole sound.own in
      record {
        row = w.row;
        before = at.before;
        after = at.after;
        tables = tables;
        asked = ap (λ es. without_request q.0 (by_id es)) were ∙ without-asked xs ys q ids ∙ sym (ap by_id are);
        ids = subst (λ es. IsDistinct same_id (keys_of es)) (sym are) (distinct-less xs ys q ids);
        own = subst (λ rows. AreOwn m.deliveries rows) (sym tables.now)
            (own-slot m.deliveries at.before at.after q.1.key (Some (retried a o place w.row)) (own-before m.deliveries at.before at.after q.1.key (Some w.row) owned) tt
            (own-after m.deliveries at.before at.after q.1.key (Some w.row) owned));
        holds =
            ap holds_of at.whole ∙ holds-at a o at.before at.after q.1.key (Some w.row)
            ∙ ap (λ phase. slot (holds_of at.before) q.1.key (Some (holds_in phase)) (holds_of at.after)) w.asks
            ∙ sym (ap holds_of tables.now ∙ holds-at a o at.before at.after q.1.key (Some (retried a o place w.row)));
      }

module _ {K S P : Type 0} (a : Parties K S P) (o : IsTotalOrder a.key) (e n : Parts K P S) (m : Machine K S P) (is : Agrees a e m) (closed : m.scan.expects ≡ None) where
  -- a request that is over, whatever its peer is charged
  pub fails-agrees : (now time : ℕ) (q : ℕ × Request K P) → IsAmong q (filter_map request_of m.rows)
      → n.fetcher ≡ fetchers.add_retry (orders_of a) q.1.key now (fetchers.charge (orders_of a) q.1.peer time (fetchers.without_id (orders_of a) q.0 (fetcher_of a m)))
      → n ≡ record e { fetcher = n.fetcher }
      → Agrees a n (fails a m now q.1 time)
  fails-agrees now time q among waits same =
      let x = over-at a o m is.sound q (retry_at (now + m.configuration.retry_delay)) (asked-row a o m.deliveries m.rows q is.sound.ordered is.sound.own among) in
      record {
        sound = record {
          ordered = x.tables.ordered;
          ids = x.ids;
          own = x.own;
          below = is.sound.below;
          new_id = none-asked a (fetcher_of a (fails a m now q.1 time)) (fails a m now q.1 time) closed;
        };
        demand = ap (λ e. e.demand) same ∙ is.demand ∙ x.tables.demand;
        entries = ap (λ e. map (λ x. (x.0, held_of x.1)) e.entries.keys) same ∙ is.entries ∙ x.holds;
        deliveries = ap (λ e. map (λ x. (x.0, open_of x.1)) e.entries.going) same ∙ is.deliveries;
        next_delivery = ap (λ e. e.entries.next) same ∙ is.next_delivery;
        fetcher = waits ∙ rw (x.tables.waiting, x.asked, x.tables.retries, x.tables.targets) refl;
        serves = ap (λ e. e.serves.entries) same ∙ is.serves;
        next_serve = ap (λ e. e.next_serve) same ∙ is.next_serve;
        last_index = ap (λ e. e.last_index) same ∙ is.last_index;
        priority = ap (λ e. e.priority_responses) same ∙ is.priority;
      }

  same-key : {F : Type 0} (k l : K) (r : Option K × F) (f g : F) → r ≡ (Some k, f) → r ≡ (Some l, g) → k ≡ l
  same-key k l r f g is was = injects k l (sym (ap (λ r. r.0) is) ∙ ap (λ r. r.0) was)
    where
      injects : (k l : K) → Some k ≡ Some l → k ≡ l
      injects k l same = cc

  some-none : {F : Type 0} (k : K) (r : Option K × F) (f g : F) → r ≡ (Some k, f) → r ≡ (None, g) → ⊥
  some-none k r f g is was = clash k (sym (ap (λ r. r.0) is) ∙ ap (λ r. r.0) was)
    where
      clash : (k : K) → Some k ≡ None → ⊥
      clash k same = cc

  -- the time of a request is over
  pub times_out-agrees : (now : ℕ) (key : K) (popped : Fetcher K P)
      → fetchers.pop_active (orders_of a) now e.fetcher ≡ (Some key, popped)
      → n.fetcher ≡ fetchers.add_retry (orders_of a) key now popped
      → n ≡ record e { fetcher = n.fetcher }
      → Agrees a n (times_out a m now (overdue (snapshot a m).asked now))
  times_out-agrees now key popped pops waits same =
      at (overdue (snapshot a m).asked now) refl (sym (ap (fetchers.pop_active (orders_of a) now) is.fetcher) ∙ pops)
    where
      at : (r : Option (ℕ × Request K P)) → overdue (snapshot a m).asked now ≡ r
          → fetchers.popped_active (orders_of a) (fetcher_of a m) (overdue (snapshot a m).asked now) ≡ (Some key, popped) → Agrees a n (times_out a m now r)
      at None found pops = absurd (some-none key _ popped (fetcher_of a m) pops (ap (fetchers.popped_active (orders_of a) (fetcher_of a m)) found))
      at (Some q) found pops =
          let was = ap (fetchers.popped_active (orders_of a) (fetcher_of a m)) found in
          let keys : key ≡ q.1.key = same-key key q.1.key _ popped _ pops was in
          let left = sym (ap (λ r. r.1) pops) ∙ ap (λ r. r.1) was in
          fails-agrees now m.configuration.fetch_timeout q (among-by_id (filter_map request_of m.rows) q is.sound.ids (overdue-among (by_id (filter_map request_of m.rows)) now q found))
          (waits ∙ ap (λ k. fetchers.add_retry (orders_of a) k now popped) keys ∙ ap (fetchers.add_retry (orders_of a) q.1.key now) left) same

  -- a peer has no data
  pub misses-agrees : (now id : ℕ) (peer : P) (key : K) (popped : Fetcher K P)
      → fetchers.pop_missing (orders_of a) id peer now e.fetcher ≡ (Some key, popped)
      → n.fetcher ≡ fetchers.add_retry (orders_of a) key now popped
      → n ≡ record e { fetcher = n.fetcher }
      → Agrees a n (misses a m now (answered a m peer id))
  misses-agrees now id peer key popped pops waits same =
      at (answered a m peer id) refl (sym (ap (fetchers.pop_missing (orders_of a) id peer now) is.fetcher) ∙ pops)
    where
      at : (r : Option (Request K P)) → answered a m peer id ≡ r
          → fetchers.popped_missing (orders_of a) (fetcher_of a m) id now (answered a m peer id) ≡ (Some key, popped) → Agrees a n (misses a m now r)
      at None found pops = absurd (some-none key _ popped (fetcher_of a m) pops (ap (fetchers.popped_missing (orders_of a) (fetcher_of a m) id now) found))
      at (Some q) found pops =
          let was = ap (fetchers.popped_missing (orders_of a) (fetcher_of a m) id now) found in
          let keys : key ≡ q.key = same-key key q.key _ popped _ pops was in
          let left = sym (ap (λ r. r.1) pops) ∙ ap (λ r. r.1) was in
          fails-agrees now (elapsed_since q.start now) (id, q) (among-by_id (filter_map request_of m.rows) (id, q) is.sound.ids (matching-among a.peer (by_id (filter_map request_of m.rows)) id peer q found))
          (waits ∙ ap (λ k. fetchers.add_retry (orders_of a) k now popped) keys ∙ ap (fetchers.add_retry (orders_of a) q.key now) left) same

module _ {K S P : Type 0} (a : Parties K S P) (e : Parts K P S) (m : Machine K S P) (is : Agrees a e m) (popped : Fetcher K P) where
  -- the fetcher is as it was
  left : (f : Fetcher K P) (x y : Option K) → f ≡ e.fetcher → ◌≡◌ {A = Option K × Fetcher K P} (x, f) (y, popped) → Agrees a (record e { fetcher = popped }) m
  left f x y same pops = subst (λ f. Agrees a (record e { fetcher = f }) m) (sym same ∙ ap (λ r. r.1) pops) is

  some-other : (k : K) (f g : Fetcher K P) → ◌≡◌ {A = Option K × Fetcher K P} (Some k, f) (None, g) → ⊥
  some-other k f g same = clash (ap (λ r. r.0) same)
    where
      clash : Some k ≡ None → ⊥
      clash same = cc

  -- no request's time is over
  pub none-times_out : (now : ℕ) → fetchers.pop_active (orders_of a) now e.fetcher ≡ (None, popped) → Agrees a (record e { fetcher = popped }) (times_out a m now (overdue (snapshot a m).asked now))
  none-times_out now pops = at (overdue (snapshot a m).asked now) (sym (ap (fetchers.pop_active (orders_of a) now) is.fetcher) ∙ pops)
    where
      at : (r : Option (ℕ × Request K P)) → fetchers.popped_active (orders_of a) (fetcher_of a m) r ≡ (None, popped) → Agrees a (record e { fetcher = popped }) (times_out a m now r)
      at None pops = left (fetcher_of a m) None None (sym is.fetcher) pops
      at (Some q) pops = absurd (some-other q.1.key _ popped pops)

  -- no request of the peer is missed
  pub none-misses : (now id : ℕ) (peer : P) → fetchers.pop_missing (orders_of a) id peer now e.fetcher ≡ (None, popped) → Agrees a (record e { fetcher = popped }) (misses a m now (answered a m peer id))
  none-misses now id peer pops = at (answered a m peer id) (sym (ap (fetchers.pop_missing (orders_of a) id peer now) is.fetcher) ∙ pops)
    where
      at : (r : Option (Request K P)) → fetchers.popped_missing (orders_of a) (fetcher_of a m) id now r ≡ (None, popped) → Agrees a (record e { fetcher = popped }) (misses a m now r)
      at None pops = left (fetcher_of a m) None None (sym is.fetcher) pops
      at (Some q) pops = absurd (some-other q.key _ popped pops)
