-- The machine and its parts once a scan has taken a turn.
use Rattle.std.proofs.Common.{◌≡◌, refl, ap, sym, ◌∙◌, subst, ℕ, ◌<◌, List, ◌∷◌, ◌++◌, Option, None, Some}
use Rattle.std.specs.Cmp.{IsTotalOrder}
use Rattle.std.specs.List.{AllByRecursion, IsDistinct, filter_map}
use Rattle.std.specs.List.Sorted.{IsStrictlySortedBy}
use Rattle.std.specs.Map.{keys_of}
use Rattle.std.specs.BTreeMap.{insert_entry}
use Rattle.std.specs.Ordering.{nat_cmp}
use Rattle.resolver_priority_set.specs.Priorities.{without}
use Rattle.resolver_fetch_requests.specs.declared.requests.request.Request.{Request}
use Rattle.resolver_fetch_requests.specs.Requests.{by_id}
use Rattle.resolver_fetch_scan.specs.declared.place.Place.{Place}
use Rattle.resolver_fetch_scan.specs.declared.scan.Ask.{Ask}
use Rattle.resolver_fetch_scan.specs.declared.trail.Expected.{Expected}
use Rattle.resolver_fetch_scan.specs.Fetcher as fetchers
use Rattle.resolver_fetch_scan.specs.Fetcher.{AsksNewId, Fetcher, unless_over}
use Rattle.resolver_fetch_scan.specs.Scan.{Scan, Turn, next, question as question_by, question_of}
use Rattle.resolver_fetch_scan.specs.Snapshot.{Snapshot}
use Rattle.resolver_fetch_scan.specs.Waiting.{Waiting}
use Rattle.resolver_model_peer.specs.Parties.{Parties, orders_of}
use Rattle.resolver_model_peer.specs.PeerRows.{Row, Waits, Asked, change_entry, request_of}
use Rattle.resolver_model_peer.specs.Peer.{Machine, Open, is_key, question, snapshot, turned, with_sent}
use Rattle.resolver_peer_step.specs.declared.parts.Parts.{Parts}
use Rattle.resolver_peer_step.specs.Tied.{Agrees, AreOwn, IsSound, demand_of, fetcher_of, holds_in, holds_of, place_of, retries_in, same_id, sorted, targets_in}
use Rattle.resolver_peer_step.proofs.Agreeing.{IsLike, agrees-fetched}
use Rattle.resolver_peer_step.proofs.Places.{apart-places-first, apart-places-last, demand-at, holds-at, own-after, own-before, own-slot, requests-at, retries-at, rows_at, targets-at, waiting-at}
use Rattle.resolver_peer_step.proofs.Queues.{distinct-more, insert-asked, without-waits}
use Rattle.resolver_peer_step.proofs.Slots.{IsAround, around-own, change-slot, ordered-slot, slot}
use Rattle.resolver_peer_step.proofs.Snapshots.{snapshot-same}
use Rattle.resolver_peer_step.proofs.Turns.{IsFit, Waited}

module _ {K S P : Type 0} (a : Parties K S P) (o : IsTotalOrder a.key) where
  abbrev sent_row : ℕ × Request K P → Row K S P → Row K S P
  sent_row q row = record row { phase = Asked q.0 q.1 }

  abbrev sent_rows : List (K × Row K S P) → ℕ × Request K P → List (K × Row K S P)
  sent_rows rows q = change_entry (is_key a q.1.key) (sent_row q) rows

  -- what a sent request changes
  record Sends (deliveries : List (ℕ × Open K S P)) (rows : List (K × Row K S P)) (q : ℕ × Request K P) : Type 0 where
    pub ordered : IsStrictlySortedBy a.key (keys_of (sent_rows rows q))
    pub ids : IsDistinct same_id (keys_of (filter_map request_of (sent_rows rows q)))
    pub own : AreOwn deliveries (sent_rows rows q)
    pub waiting : without a.key q.1.key (sorted a (filter_map place_of rows)) ≡ sorted a (filter_map place_of (sent_rows rows q))
    pub asked : insert_entry nat_cmp (by_id (filter_map request_of rows)) q.0 q.1 ≡ by_id (filter_map request_of (sent_rows rows q))
    pub targets : filter_map targets_in (sent_rows rows q) ≡ filter_map targets_in rows
    pub retries : filter_map retries_in (sent_rows rows q) ≡ filter_map retries_in rows
    pub demand : demand_of (sent_rows rows q) ≡ demand_of rows
    pub holds : holds_of (sent_rows rows q) ≡ holds_of rows

  -- a waiting key is sent, between the rows before and after
  module _ (deliveries : List (ℕ × Open K S P)) (q : ℕ × Request K P) (row : Row K S P) (place : Place) (waits : row.phase ≡ Waits place) (before after : List (K × Row K S P))
      (i : IsAround o before q.1.key after) where
    abbrev rows : Option (Row K S P) → List (K × Row K S P)
    rows now = rows_at a o before after q.1.key now

    sends-between : IsStrictlySortedBy a.key (keys_of (rows (Some row))) → AreOwn deliveries (rows (Some row))
        → IsDistinct same_id (q.0 ∷ keys_of (filter_map request_of (rows (Some row)))) → Sends deliveries (rows (Some row)) q
    sends-between ordered own new =
        let changed : sent_rows (rows (Some row)) q ≡ rows (Some (sent_row q row)) = change-slot o (sent_row q) before after q.1.key row i in
        let were : filter_map request_of (rows (Some row)) ≡ filter_map request_of before ++ filter_map request_of after =
        requests-at a o before after q.1.key (Some row) ∙ rw waits refl in
        let are = requests-at a o before after q.1.key (Some (sent_row q row)) in
        let news = subst (λ (es : List (ℕ × Request K P)). IsDistinct same_id (q.0 ∷ keys_of es)) were new in
        record {
          ordered = subst (λ (es : List (K × Row K S P)). IsStrictlySortedBy a.key (keys_of es)) (sym changed) (ordered-slot o before after q.1.key (Some row) (Some (sent_row q row)) i ordered);
          ids = subst (λ (es : List (ℕ × Request K P)). IsDistinct same_id (keys_of es)) (sym (ap (filter_map request_of) changed ∙ are)) (distinct-more (filter_map request_of before) (filter_map request_of after) q news);
          own = subst (AreOwn deliveries) (sym changed)
              (own-slot deliveries before after q.1.key (Some (sent_row q row)) (own-before deliveries before after q.1.key (Some row) own) refl (own-after deliveries before after q.1.key (Some row) own));
          waiting =
              ap (without a.key q.1.key) (waiting-at a o before after q.1.key (Some row))
              ∙ rw waits (without-waits a o q.1.key (filter_map place_of before) (filter_map place_of after) (apart-places-first a o before after q.1.key i) (apart-places-last a o before after q.1.key i) place)
              ∙ sym (ap (λ rows. sorted a (filter_map place_of rows)) changed ∙ waiting-at a o before after q.1.key (Some (sent_row q row)));
          asked =
              ap (λ es. insert_entry nat_cmp (by_id es) q.0 q.1) were
              ∙ insert-asked (filter_map request_of before) (filter_map request_of after) q news
              ∙ sym (ap by_id (ap (filter_map request_of) changed ∙ are));
          targets = ap (filter_map targets_in) changed ∙ targets-at a o before after q.1.key (Some (sent_row q row)) ∙ sym (targets-at a o before after q.1.key (Some row));
          retries = ap (filter_map retries_in) changed ∙ retries-at a o before after q.1.key (Some (sent_row q row)) ∙ sym (retries-at a o before after q.1.key (Some row));
          demand = ap demand_of changed ∙ demand-at a o before after q.1.key (Some (sent_row q row)) ∙ sym (demand-at a o before after q.1.key (Some row));
          holds =
              ap holds_of changed ∙ holds-at a o before after q.1.key (Some (sent_row q row))
              ∙ ap (λ now. slot (holds_of before) q.1.key (Some now) (holds_of after)) (sym (ap holds_in waits))
              ∙ sym (holds-at a o before after q.1.key (Some row));
        }

  sends : (deliveries : List (ℕ × Open K S P)) (rows : List (K × Row K S P)) (q : ℕ × Request K P) → IsStrictlySortedBy a.key (keys_of rows) → AreOwn deliveries rows
      → IsDistinct same_id (q.0 ∷ keys_of (filter_map request_of rows)) → Waited rows q.1.key → Sends deliveries rows q
  sends deliveries rows q ordered own new w =
      subst (λ rows. Sends deliveries rows q) (sym w.whole)
      (sends-between deliveries q w.row w.place w.waits w.before w.after
      (around-own o w.before w.after q.1.key w.row (subst (λ (rows : List (K × Row K S P)). IsStrictlySortedBy a.key (keys_of rows)) w.whole ordered))
      (subst (λ (rows : List (K × Row K S P)). IsStrictlySortedBy a.key (keys_of rows)) w.whole ordered)
      (subst (AreOwn deliveries) w.whole own)
      (subst (λ (rows : List (K × Row K S P)). IsDistinct same_id (q.0 ∷ keys_of (filter_map request_of rows))) w.whole new))

  -- what the turn makes of machine and fetcher is one
  record Turns (m n : Machine K S P) (f : Fetcher K P) : Type 0 where
    pub ordered : IsStrictlySortedBy a.key (keys_of n.rows)
    pub ids : IsDistinct same_id (keys_of (filter_map request_of n.rows))
    pub own : AreOwn n.deliveries n.rows
    pub fetcher : f ≡ fetcher_of a n
    pub like : IsLike m n
    pub below : AllByRecursion (λ i. i < n.next_delivery) (keys_of n.deliveries)

  abbrev turned_by : Machine K S P → Turn K P → Option (ℕ × Request K P) → Machine K S P
  turned_by m t sent = record (with_sent a m sent) { scan = t.scan; last_id = t.last_id; waiter = t.waiter }

  turns : (m : Machine K S P) (t : Turn K P) → IsSound a m → (sent : Option (ℕ × Request K P)) → IsFit a m sent
      → Turns m (turned_by m t sent) (record (fetchers.with_sent (orders_of a) sent (fetcher_of a m)) { scan = unless_over t.scan; last_id = t.last_id; waiter = t.waiter })
  turns m t sound None fit = record {
    ordered = sound.ordered;
    ids = sound.ids;
    own = sound.own;
    fetcher = refl;
    like = record { demand = refl; holds = refl; deliveries = refl; next_delivery = refl; serves = refl; next_serve = refl; last_index = refl; priority = refl };
    below = sound.below;
  }
  turns m t sound (Some q) fit =
      let s = sends m.deliveries m.rows q sound.ordered sound.own fit.0 fit.1 in
      record {
        ordered = s.ordered;
        ids = s.ids;
        own = s.own;
        fetcher = rw (s.waiting, s.asked, s.targets, s.retries) refl;
        like = record { demand = s.demand; holds = s.holds; deliveries = refl; next_delivery = refl; serves = refl; next_serve = refl; last_index = refl; priority = refl };
        below = sound.below;
      }

  pub open-scan : (scan : Scan K P) (e : Expected P) → scan.expects ≡ Some e → unless_over scan ≡ Some scan
  open-scan scan e is = rw is refl

  asked-over : (s : Snapshot K P) (scan : Scan K P) (w : Option (K × Waiting P)) → question_of (orders_of a) s scan w None ≡ None
  asked-over s scan None = refl
  asked-over s scan (Some w) = refl

  -- what the scan asks
  pub question-same : (m : Machine K S P) → IsStrictlySortedBy a.key (keys_of m.rows) → fetchers.question (orders_of a) (fetcher_of a m) ≡ question a m
  question-same m ordered = at m.scan.expects refl
    where
      at : (e : Option (Expected P)) → m.scan.expects ≡ e → fetchers.question (orders_of a) (fetcher_of a m) ≡ question a m
      at None is = rw (is, asked-over (snapshot a m) m.scan (next (orders_of a) (snapshot a m) m.scan)) refl
      at (Some e) is =
          ap (fetchers.asked_by (orders_of a) (fetcher_of a m)) (open-scan m.scan e is)
          ∙ ap (λ s. question_by (orders_of a) s m.scan) (snapshot-same a o m ordered)

  -- parts whose scan took a turn, with what it asks
  pub record IsTurned (e : Parts K P S) (m : Machine K S P) (ask : Option (Ask K P)) : Type 0 where
    pub agrees : Agrees a e m
    pub asks : ask ≡ question a m

  pub turned-agrees : (e f : Parts K P S) (m : Machine K S P) (t : Turn K P) (ask : Option (Ask K P)) → Agrees a e m → IsFit a m t.sent → f ≡ record e { fetcher = f.fetcher }
      → f.fetcher ≡ fetchers.turned (orders_of a) t (fetcher_of a m) → ask ≡ fetchers.question (orders_of a) f.fetcher → AsksNewId (orders_of a) f.fetcher ask
      → IsTurned f (turned a m t) ask
  turned-agrees e f m t ask is fit same moved asks new =
      let now = turns m t is.sound t.sent fit in
      let asked : ask ≡ question a (turned a m t) = asks ∙ ap (fetchers.question (orders_of a)) (moved ∙ now.fetcher) ∙ question-same (turned a m t) now.ordered in
      record {
        agrees = agrees-fetched a e f m (turned a m t) is same (moved ∙ now.fetcher) now.like (record {
          ordered = now.ordered;
          ids = now.ids;
          own = now.own;
          below = now.below;
          new_id = subst (λ g. AsksNewId (orders_of a) g (question a (turned a m t))) (moved ∙ now.fetcher) (subst (AsksNewId (orders_of a) f.fetcher) asked new);
        });
        asks = asked;
      }
