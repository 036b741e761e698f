-- The parts of a machine around the row of one key.
use Rattle.std.proofs.Common.{◌≡◌, refl, ap, sym, ◌∙◌, subst, ℕ, ◌<◌, false, List, [], ◌∷◌, ◌++◌, map, Option, None, Some}
use Rattle.std.proofs.lemmas.List.Elements.{filter_map-append}
use Rattle.std.specs.Option.{option_map, option_and_then}
use Rattle.std.specs.Cmp.{IsTotalOrder}
use Rattle.std.specs.List.{AllByRecursion, IsDistinct, cons_option, filter_map}
use Rattle.std.specs.Map.{keys_of}
use Rattle.std.specs.BTreeMap.{is_at}
use Rattle.std.specs.Ordering.{is_eq}
use Rattle.std.specs.declared.cmp.Ordering.{Ordering}
use Rattle.std.specs.declared.cmp.Ordering.TheVariants.{Less, Greater}
use Rattle.resolver_priority_set.specs.Priorities.{has_item}
use Rattle.resolver_fetch_requests.specs.declared.requests.request.Request.{Request}
use Rattle.resolver_fetch_requests.specs.Requests.{by_id, is_asked, is_for}
use Rattle.resolver_fetch_scan.specs.declared.place.Place.{Place}
use Rattle.resolver_fetch_scan.specs.Fetcher.{AsksNewId, Fetcher}
use Rattle.resolver_fetch_scan.specs.Scan.{Scan, next, question_of}
use Rattle.resolver_fetch_scan.specs.Snapshot.{Snapshot}
use Rattle.resolver_fetch_scan.specs.Waiting.{Waiting}
use Rattle.resolver_model_peer.specs.Parties.{Parties, orders_of}
use Rattle.resolver_model_peer.specs.PeerRows.{Row, Phase, Waits, Asked, Judged, request_in, request_of}
use Rattle.resolver_model_peer.specs.Peer.{Machine, Open, question, snapshot}
use Rattle.resolver_peer_step.specs.Tied.{AreOwn, Holds, IsOwn, count_of, demand_of, fetcher_of, holds_in, holds_of, place_in, place_of, retries_in, sorted, targets_in}
use Rattle.resolver_peer_step.proofs.Queues.{all-append, not-asked, not-waiting}
use Rattle.resolver_peer_step.proofs.Slots.{IsAround, given-slot, map-slot, slot}

-- what a table holds of each row, where the row of one key stands among the others
filter_map-slot : {K X Y : Type 0} (h : K × X → Option Y) (before after : List (K × X)) (key : K) (was : Option X)
    → filter_map h (slot before key was after) ≡ filter_map h before ++ cons_option (option_and_then (λ x. h (key, x)) was) (filter_map h after)
filter_map-slot h before after key None = filter_map-append h before after
filter_map-slot h before after key (Some x) = filter_map-append h before ((key, x) ∷ after)

-- a scan that is over asks for nothing
pub none-asked : {K S P : Type 0} (a : Parties K S P) (f : Fetcher K P) (m : Machine K S P) → m.scan.expects ≡ None → AsksNewId (orders_of a) f (question a m)
none-asked {K} {S} {P} a f m over = subst (λ ask. AsksNewId (orders_of a) f ask) {x = None} (sym none) tt
  where
    at : (w : Option (K × Waiting P)) → question_of (orders_of a) (snapshot a m) m.scan w None ≡ None
    at None = refl
    at (Some w) = refl

    none : question a m ≡ None
    none = ap (question_of (orders_of a) (snapshot a m) m.scan (next (orders_of a) (snapshot a m) m.scan)) over ∙ at (next (orders_of a) (snapshot a m) m.scan)

module _ {K S P : Type 0} where
  abbrev pub place_at : K → Option (Row K S P) → Option (Place × K)
  place_at key now = option_and_then (λ row. place_in key row.phase) now

  abbrev pub request_at : Option (Row K S P) → Option (ℕ × Request K P)
  request_at now = option_and_then (λ row. request_in row.phase) now

  abbrev pub targets_at : Option (Row K S P) → Option (List P)
  targets_at now = option_and_then (λ row. row.targets) now

  abbrev pub count_at : Option (Row K S P) → Option ℕ
  count_at now = option_and_then (λ row. count_of row.retries) now

  abbrev pub subscribers_at : Option (Row K S P) → Option (List (S × ℕ))
  subscribers_at now = option_map (λ row. row.subscribers) now

  abbrev pub holds_at : Option (Row K S P) → Option (Holds P)
  holds_at now = option_map (λ row. holds_in row.phase) now

  abbrev pub OwnAt : List (ℕ × Open K S P) → K → Option (Row K S P) → Type 0
  OwnAt deliveries key None = Unit {0}
  OwnAt deliveries key (Some row) = IsOwn deliveries key row.phase

  -- the rows around one
  pub own-before : (deliveries : List (ℕ × Open K S P)) (before after : List (K × Row K S P)) (key : K) (was : Option (Row K S P)) → AreOwn deliveries (slot before key was after) → AreOwn deliveries before
  own-before deliveries [] after key was own = tt
  own-before deliveries (r ∷ before) after key was own = (own.0, own-before deliveries before after key was own.1)

  pub own-after : (deliveries : List (ℕ × Open K S P)) (before after : List (K × Row K S P)) (key : K) (was : Option (Row K S P)) → AreOwn deliveries (slot before key was after) → AreOwn deliveries after
  own-after deliveries [] after key None own = own
  own-after deliveries [] after key (Some row) own = own.1
  own-after deliveries (r ∷ before) after key was own = own-after deliveries before after key was own.1

  pub own-here : (deliveries : List (ℕ × Open K S P)) (before after : List (K × Row K S P)) (key : K) (was : Option (Row K S P)) → AreOwn deliveries (slot before key was after) → OwnAt deliveries key was
  own-here deliveries [] after key None own = tt
  own-here deliveries [] after key (Some row) own = own.0
  own-here deliveries (r ∷ before) after key was own = own-here deliveries before after key was own.1

  pub own-slot : (deliveries : List (ℕ × Open K S P)) (before after : List (K × Row K S P)) (key : K) (now : Option (Row K S P)) → AreOwn deliveries before → OwnAt deliveries key now → AreOwn deliveries after → AreOwn deliveries (slot before key now after)
  own-slot deliveries [] after key None first here last = last
  own-slot deliveries [] after key (Some row) first here last = (here, last)
  own-slot deliveries (r ∷ before) after key now first here last = (first.0, own-slot deliveries before after key now first.1 here last)

  -- the keys of those that wait, and of those that are asked for, are the rows' own
  all-places : (Q : K → Type 0) (rows : List (K × Row K S P)) → AllByRecursion Q (keys_of rows) → AllByRecursion (λ p. Q p.1) (filter_map place_of rows)
  all-places Q [] all = tt
  all-places Q (r ∷ rows) all = at r.1.phase all.0 (all-places Q rows all.1)
    where
      at : (phase : Phase K P) → Q r.0 → AllByRecursion (λ p. Q p.1) (filter_map place_of rows) → AllByRecursion (λ p. Q p.1) (cons_option (place_in r.0 phase) (filter_map place_of rows))
      at (Waits place) here rest = (here, rest)
      at (Asked id request) here rest = rest
      at (Judged j) here rest = rest

  all-requests : (deliveries : List (ℕ × Open K S P)) (Q : K → Type 0) (rows : List (K × Row K S P)) → AreOwn deliveries rows → AllByRecursion Q (keys_of rows) → AllByRecursion (λ r. Q r.1.key) (filter_map request_of rows)
  all-requests deliveries Q [] own all = tt
  all-requests deliveries Q (r ∷ rows) own all = at r.1.phase own.0 all.0 (all-requests deliveries Q rows own.1 all.1)
    where
      at : (phase : Phase K P) → IsOwn deliveries r.0 phase → Q r.0 → AllByRecursion (λ r. Q r.1.key) (filter_map request_of rows) → AllByRecursion (λ r. Q r.1.key) (cons_option (request_in phase) (filter_map request_of rows))
      at (Waits place) own here rest = rest
      at (Asked id request) own here rest = (subst Q (sym own) here, rest)
      at (Judged j) own here rest = rest

module _ {K S P : Type 0} (a : Parties K S P) (o : IsTotalOrder a.key) (before after : List (K × Row K S P)) (key : K) where
  abbrev pub rows_at : Option (Row K S P) → List (K × Row K S P)
  rows_at now = slot before key now after

  pub waiting-at : (now : Option (Row K S P)) → sorted a (filter_map place_of (rows_at now)) ≡ sorted a (filter_map place_of before ++ cons_option (place_at key now) (filter_map place_of after))
  waiting-at now = ap (sorted a) (filter_map-slot place_of before after key now)

  pub requests-at : (now : Option (Row K S P)) → filter_map request_of (rows_at now) ≡ filter_map request_of before ++ cons_option (request_at now) (filter_map request_of after)
  requests-at now = filter_map-slot request_of before after key now

  pub targets-at : (now : Option (Row K S P)) → filter_map targets_in (rows_at now) ≡ slot (filter_map targets_in before) key (targets_at now) (filter_map targets_in after)
  targets-at now = given-slot o (λ row. row.targets) before after key now

  pub retries-at : (now : Option (Row K S P)) → filter_map retries_in (rows_at now) ≡ slot (filter_map retries_in before) key (count_at now) (filter_map retries_in after)
  retries-at now = given-slot o (λ row. count_of row.retries) before after key now

  pub demand-at : (now : Option (Row K S P)) → demand_of (rows_at now) ≡ slot (demand_of before) key (subscribers_at now) (demand_of after)
  demand-at now = map-slot o (λ row. row.subscribers) before after key now

  pub holds-at : (now : Option (Row K S P)) → holds_of (rows_at now) ≡ slot (holds_of before) key (holds_at now) (holds_of after)
  holds-at now = map-slot o (λ row. holds_in row.phase) before after key now

  module _ (i : IsAround o before key after) where
    apart-by : (r : Ordering) → is_eq r ≡ false → (es : List (K × Row K S P)) → AllByRecursion (λ k. a.key key k ≡ r) (keys_of es) → AllByRecursion (λ k. is_eq (a.key key k) ≡ false) (keys_of es)
    apart-by r other [] all = tt
    apart-by r other (e ∷ es) all = (ap is_eq all.0 ∙ other, apart-by r other es all.1)

    -- the other keys are others
    pub apart-first : AllByRecursion (λ k. is_eq (a.key key k) ≡ false) (keys_of before)
    apart-first = apart-by Greater refl before i.above

    pub apart-last : AllByRecursion (λ k. is_eq (a.key key k) ≡ false) (keys_of after)
    apart-last = apart-by Less refl after i.below

    pub apart-places-first : AllByRecursion (λ p. is_eq (a.key key p.1) ≡ false) (filter_map place_of before)
    apart-places-first = all-places (λ k. is_eq (a.key key k) ≡ false) before apart-first

    pub apart-places-last : AllByRecursion (λ p. is_eq (a.key key p.1) ≡ false) (filter_map place_of after)
    apart-places-last = all-places (λ k. is_eq (a.key key k) ≡ false) after apart-last

    -- a key that waits nowhere, and one that is not asked for
    pub idle-waiting : (now : Option (Row K S P)) → place_at key now ≡ None → has_item a.key (sorted a (filter_map place_of (rows_at now))) key ≡ false
    idle-waiting now none =
        ap (λ ps. has_item a.key ps key) (waiting-at now) ∙ rw none (not-waiting a o key (filter_map place_of before) (filter_map place_of after) apart-places-first apart-places-last)

    pub idle-asked : (deliveries : List (ℕ × Open K S P)) (now : Option (Row K S P)) → AreOwn deliveries before → AreOwn deliveries after → request_at now ≡ None → is_asked a.key (by_id (filter_map request_of (rows_at now))) key ≡ false
    idle-asked deliveries now first last none =
        ap (λ rs. is_asked a.key (by_id rs) key) (requests-at now)
        ∙ rw none (not-asked a.key key (filter_map request_of before ++ filter_map request_of after)
        (all-append (λ r. is_for a.key key r ≡ false) (filter_map request_of before) (filter_map request_of after)
        (all-requests deliveries (λ k. is_eq (a.key key k) ≡ false) before first apart-first)
        (all-requests deliveries (λ k. is_eq (a.key key k) ≡ false) after last apart-last)))
