-- What is left of a machine's parts where some of its rows go.
use Rattle.std.proofs.Common.{◌≡◌, refl, ap, sym, ◌∙◌, subst, ℕ, Bool, true, false, cond, is_some, not, nat_lt, length, List, [], ◌∷◌, map, filter, Option, None, Some, IfSome}
use Rattle.std.proofs.lemmas.Cmp.{eq_by_cmp_equiv, nat_cmp_total, on_total, then_total}
use Rattle.std.proofs.lemmas.Map.Entries.{lookup-filter-values, option_filter}
use Rattle.std.proofs.lemmas.Map.Keys.{IsDistinct-from_sorted, IsDistinct-head, IsDistinct-tail}
use Rattle.std.proofs.lemmas.Map.Made.{IsDistinct-keys_filter, lookup-map_values}
use Rattle.std.specs.Cmp.{IsTotalOrder, bool_cmp_total}
use Rattle.std.specs.List.{AllByRecursion, IsDistinct, cons_option, filter_map}
use Rattle.std.specs.List.Sorted.{IsStrictlySortedBy}
use Rattle.std.specs.Map.{keys_of, lookup}
use Rattle.std.specs.BTreeMap.{BTreeMap, insert_entry, is_at}
use Rattle.std.specs.BTreeSet.{insert_key}
use Rattle.std.specs.Option.{option_and_then, option_map}
use Rattle.std.specs.Ordering.{is_eq, match_ordering, nat_cmp, ordering_then}
use Rattle.std.specs.declared.cmp.Ordering.{Ordering}
use Rattle.std.specs.declared.cmp.Ordering.TheVariants.{Less, Equal, Greater}
use Rattle.resolver_types.specs.Names.{same_key}
use Rattle.resolver_priority_set.specs.Priorities.{pair_order, retained}
use Rattle.resolver_types.specs.Table as tables
use Rattle.resolver_types.specs.Table.{emptied, is_asked, kept}
use Rattle.resolver_priority_set.proofs.Priorities.{pair_order-total}
use Rattle.resolver_delivery.specs.declared.entry.Entry.{Entry}
use Rattle.resolver_delivery.specs.Entries.{Numbered, number_of}
use Rattle.resolver_delivery.specs.Entries.{retained as keeping}
use Rattle.resolver_fetch_requests.specs.declared.requests.request.Request.{Request}
use Rattle.resolver_fetch_requests.specs.Requests.{by_id}
use Rattle.resolver_fetch_scan.specs.declared.place.Place.{Place}
use Rattle.resolver_fetch_scan.specs.Fetcher as calls
use Rattle.resolver_fetch_scan.specs.Fetcher.{Fetcher, unless_over}
use Rattle.resolver_fetch_scan.specs.Scan.{Scan}
use Rattle.resolver_fetch_scan.specs.Waiting.{place_order}
use Rattle.resolver_model.proofs.Rows.{each_found}
use Rattle.resolver_model_peer.specs.declared.named.Serve.{Serve}
use Rattle.resolver_model_peer.specs.declared.named.Source.{Source}
use Rattle.resolver_model_peer.specs.Parties.{Parties, names_of, orders_of}
use Rattle.resolver_model_peer.specs.PeerRows.{Row, Phase, Waits, Asked, Judged, request_in, request_of}
use Rattle.resolver_model_peer.specs.Peer.{Machine, Open, cancel_in, cancels, end, has_subscribers, pruned, retain}
use Rattle.resolver_model_peer.specs.declared.effects.Effect.TheVariants as told
use Rattle.resolver_peer_step.specs.declared.parts.Parts.{Parts}
use Rattle.resolver_model_peer.specs.Canceled.{all_canceled, canceled, each_canceled}
use Rattle.resolver_peer_step.specs.Said.{Codec, written}
use Rattle.resolver_peer_step.specs.Tied.{Agrees, AreOwn, Holds, IsOwn, IsSound, count_of, demand_of, fetcher_of, held_of, holds_in, holds_of, open_of, place_in, place_of, retries_in, same_id, sorted, targets_in}
use Rattle.resolver_peer_step.proofs.Keeping.{AreApart, all-both, all-by, all-imply, all-in_turn, all-kept, all-map-back, in_turn, kept-given, kept-in_turn, kept-map, none-kept}
use Rattle.resolver_peer_step.proofs.Places.{none-asked}

-- a scan that is closed expects nothing
pub over-closed : {K P : Type 0} (f : Option (Scan K P)) (scan : Scan K P) → is_some f ≡ false → f ≡ unless_over scan → scan.expects ≡ None
over-closed f scan closed is = at scan.expects refl (sym (ap is_some is) ∙ closed)
  where
    at : (o : Option _) → scan.expects ≡ o → is_some (unless_over scan) ≡ false → o ≡ None
    at None same none = refl
    at (Some e) same none = let h : is_some (unless_over scan) ≡ true = rw same refl in cc

-- entries by their numbers
abbrev pub by_number : {X : Type 0} → ℕ × X → ℕ × X → Ordering
by_number x y = nat_cmp x.0 y.0

-- their order is total
pub numbers_total : {X : Type 0} → IsTotalOrder (by_number {X = X})
numbers_total = on_total (λ e. e.0) nat_cmp_total

module _ {X : Type 0} where
  -- an entry under a new number is put in as a whole
  as-key : (r : ℕ × X) (es : List (ℕ × X)) → AllByRecursion (λ e. same_id r.0 e.0 ≡ false) es → insert_entry nat_cmp es r.0 r.1 ≡ insert_key by_number es r
  as-key r [] apart = refl
  as-key r (e ∷ es) apart = at (nat_cmp r.0 e.0) apart.0 (as-key r es apart.1)
    where
      at : (o : Ordering) → is_eq o ≡ false → insert_entry nat_cmp es r.0 r.1 ≡ insert_key by_number es r
          → match_ordering o (r ∷ e ∷ es) ((e.0, r.1) ∷ es) (e ∷ insert_entry nat_cmp es r.0 r.1) ≡ match_ordering o (r ∷ e ∷ es) (e ∷ es) (e ∷ insert_key by_number es r)
      at Less other rest = refl
      at Equal other rest = absurd (clash other)
        where
          clash : true ≡ false → ⊥
          clash same = cc
      at Greater other rest = ap (λ es. e ∷ es) rest

  -- the first id is not among the others
  ids-head : (r : ℕ × X) (rs : List (ℕ × X)) → IsDistinct same_id (keys_of (r ∷ rs)) → AllByRecursion (λ e. same_id r.0 e.0 ≡ false) rs
  ids-head r rs distinct = all-map-back (λ y. same_id r.0 y ≡ false) (λ e. e.0) rs (IsDistinct-head same_id r.0 (keys_of rs) distinct)

  -- entries under distinct ids are apart
  pub apart-ids : (rs : List (ℕ × X)) → IsDistinct same_id (keys_of rs) → AreApart numbers_total rs
  apart-ids [] distinct = tt
  apart-ids (r ∷ rs) distinct = (ids-head r rs distinct, apart-ids rs (IsDistinct-tail same_id r.0 (keys_of rs) distinct))

module _ {K P : Type 0} where
  -- requests in the order of their ids are put in one after another
  pub by_id-turn : (rs : List (ℕ × Request K P)) → IsDistinct same_id (keys_of rs) → by_id rs ≡ in_turn numbers_total rs
  by_id-turn [] distinct = refl
  by_id-turn (r ∷ rs) distinct =
      ap (λ es. insert_entry nat_cmp es r.0 r.1) (by_id-turn rs (IsDistinct-tail same_id r.0 (keys_of rs) distinct))
      ∙ as-key r (in_turn numbers_total rs) (all-in_turn numbers_total (λ e. same_id r.0 e.0 ≡ false) rs (ids-head r rs distinct))

  -- a part of the requests, in the order of their ids
  pub kept-by_id : (p : ℕ × Request K P → Bool) (rs : List (ℕ × Request K P)) → IsDistinct same_id (keys_of rs) → filter p (by_id rs) ≡ by_id (filter p rs)
  kept-by_id p rs distinct =
      ap (filter p) (by_id-turn rs distinct) ∙ kept-in_turn numbers_total p rs (apart-ids rs distinct)
      ∙ sym (by_id-turn (filter p rs) (IsDistinct-keys_filter same_id p rs distinct))

module _ {K S P : Type 0} (a : Parties K S P) (o : IsTotalOrder a.key) where
  -- the order of waiting keys is total
  pub places_total : IsTotalOrder (pair_order place_order a.key)
  places_total = pair_order-total o (then_total (on_total (λ p. p.is_retry) bool_cmp_total) (on_total (λ p. p.due) nat_cmp_total))

  -- what differs in its second part differs
  apart-then : (r s : Ordering) → s ≡ Less → is_eq (ordering_then r s) ≡ false
  apart-then Less s below = refl
  apart-then Equal s below = ap is_eq below
  apart-then Greater s below = refl

  -- those that wait are apart, as their keys are
  pub apart-places : (rows : List (K × Row K S P)) → IsStrictlySortedBy a.key (keys_of rows) → AreApart places_total (filter_map place_of rows)
  unfolding IsStrictlySortedBy
  apart-places [] ordered = tt
  apart-places (r ∷ rows) ordered = at r.1.phase (apart-places rows ordered.1)
    where
      below : (place : Place) (rs : List (K × Row K S P)) → AllByRecursion (λ k. a.key r.0 k ≡ Less) (keys_of rs)
          → AllByRecursion (λ p. is_eq (pair_order place_order a.key (place, r.0) p) ≡ false) (filter_map place_of rs)
      below place [] all = tt
      below place (s ∷ rs) all = one s.1.phase (below place rs all.1)
        where
          one : (phase : Phase K P) → AllByRecursion (λ p. is_eq (pair_order place_order a.key (place, r.0) p) ≡ false) (filter_map place_of rs)
              → AllByRecursion (λ p. is_eq (pair_order place_order a.key (place, r.0) p) ≡ false) (cons_option (place_in s.0 phase) (filter_map place_of rs))
          one (Waits other) rest = (apart-then (place_order place other) (a.key r.0 s.0) all.0, rest)
          one (Asked id request) rest = rest
          one (Judged j) rest = rest

      at : (phase : Phase K P) → AreApart places_total (filter_map place_of rows) → AreApart places_total (cons_option (place_in r.0 phase) (filter_map place_of rows))
      at (Waits place) rest = (below place rows ordered.0, rest)
      at (Asked id request) rest = rest
      at (Judged j) rest = rest

  -- the rows that are kept are in order
  ordered-kept : (q : K × Row K S P → Bool) (rows : List (K × Row K S P)) → IsStrictlySortedBy a.key (keys_of rows) → IsStrictlySortedBy a.key (keys_of (filter q rows))
  unfolding IsStrictlySortedBy
  ordered-kept q [] ordered = ordered
  ordered-kept q (r ∷ rows) ordered = at (q r) (ordered-kept q rows ordered.1)
    where
      keys-kept : (rs : List (K × Row K S P)) → AllByRecursion (λ k. a.key r.0 k ≡ Less) (keys_of rs) → AllByRecursion (λ k. a.key r.0 k ≡ Less) (keys_of (filter q rs))
      keys-kept [] all = tt
      keys-kept (s ∷ rs) all = one (q s) (keys-kept rs all.1)
        where
          one : (b : Bool) → AllByRecursion (λ k. a.key r.0 k ≡ Less) (keys_of (filter q rs)) → AllByRecursion (λ k. a.key r.0 k ≡ Less) (keys_of (cond b (s ∷ filter q rs) (filter q rs)))
          one true rest = (all.0, rest)
          one false rest = rest

      at : (b : Bool) → IsStrictlySortedBy a.key (keys_of (filter q rows)) → IsStrictlySortedBy a.key (keys_of (cond b (r ∷ filter q rows) (filter q rows)))
      at true rest = (keys-kept rows ordered.0, rest)
      at false rest = rest

  -- the rows that are kept, by a test of their keys
  module _ (m : Machine K S P) (sound : IsSound a m) (over : m.scan.expects ≡ None) (q : K × Row K S P → Bool) (test : K → Bool) (alike : AllByRecursion (λ r. test r.0 ≡ q r) m.rows) where
    -- the machine with the rows that are kept
    abbrev pub left : Machine K S P
    left = record m { rows = filter q m.rows; waiter = None }

    -- what waits, is asked for or is counted under a row's key is kept as the row is
    waiting-alike : (r : K × Row K S P) → test r.0 ≡ q r → IfSome (place_of r) (λ p. test p.1 ≡ q r)
    waiting-alike r same = at r.1.phase
      where
        at : (phase : Phase K P) → IfSome (place_in r.0 phase) (λ p. test p.1 ≡ q r)
        at (Waits place) = same
        at (Asked id request) = tt
        at (Judged j) = tt

    asked-alike : (r : K × Row K S P) → IsOwn m.deliveries r.0 r.1.phase × (test r.0 ≡ q r) → IfSome (request_of r) (λ x. test x.1.key ≡ q r)
    asked-alike r both = at r.1.phase both.0
      where
        at : (phase : Phase K P) → IsOwn m.deliveries r.0 phase → IfSome (request_in phase) (λ x. test x.1.key ≡ q r)
        at (Waits place) own = tt
        at (Asked id request) own = ap test own ∙ both.1
        at (Judged j) own = tt

    targets-alike : (r : K × Row K S P) → test r.0 ≡ q r → IfSome (targets_in r) (λ e. test e.0 ≡ q r)
    targets-alike r same = at r.1.targets
      where
        at : (targets : Option (List P)) → IfSome {T = K × List P} (option_map (λ ts. (r.0, ts)) targets) (λ e. test e.0 ≡ q r)
        at None = tt
        at (Some ts) = same

    retries-alike : (r : K × Row K S P) → test r.0 ≡ q r → IfSome (retries_in r) (λ e. test e.0 ≡ q r)
    retries-alike r same = at (count_of r.1.retries)
      where
        at : (count : Option ℕ) → IfSome {T = K × ℕ} (option_map (λ n. (r.0, n)) count) (λ e. test e.0 ≡ q r)
        at None = tt
        at (Some n) = same

    -- what is left of each table of the fetcher
    waiting-left : retained test (sorted a (filter_map place_of m.rows)) ≡ sorted a (filter_map place_of (filter q m.rows))
    waiting-left =
        kept-in_turn places_total (λ p. test p.1) (filter_map place_of m.rows) (apart-places m.rows sound.ordered)
        ∙ ap (sorted a) (kept-given place_of (λ p. test p.1) q m.rows (all-imply (λ r. test r.0 ≡ q r) (λ r. IfSome (place_of r) (λ p. test p.1 ≡ q r)) waiting-alike m.rows alike))

    requests-left : filter (λ r. test r.1.key) (filter_map request_of m.rows) ≡ filter_map request_of (filter q m.rows)
    requests-left =
        kept-given request_of (λ r. test r.1.key) q m.rows
        (all-imply (λ r. IsOwn m.deliveries r.0 r.1.phase × (test r.0 ≡ q r)) (λ r. IfSome (request_of r) (λ x. test x.1.key ≡ q r)) asked-alike m.rows
        (all-both (λ r. IsOwn m.deliveries r.0 r.1.phase) (λ r. test r.0 ≡ q r) m.rows sound.own alike))

    asked-left : filter (λ r. test r.1.key) (by_id (filter_map request_of m.rows)) ≡ by_id (filter_map request_of (filter q m.rows))
    asked-left = kept-by_id (λ r. test r.1.key) (filter_map request_of m.rows) sound.ids ∙ ap by_id requests-left

    targets-left : filter (λ e. test e.0) (filter_map targets_in m.rows) ≡ filter_map targets_in (filter q m.rows)
    targets-left = kept-given targets_in (λ e. test e.0) q m.rows (all-imply (λ r. test r.0 ≡ q r) (λ r. IfSome (targets_in r) (λ e. test e.0 ≡ q r)) targets-alike m.rows alike)

    retries-left : filter (λ e. test e.0) (filter_map retries_in m.rows) ≡ filter_map retries_in (filter q m.rows)
    retries-left = kept-given retries_in (λ e. test e.0) q m.rows (all-imply (λ r. test r.0 ≡ q r) (λ r. IfSome (retries_in r) (λ e. test e.0 ≡ q r)) retries-alike m.rows alike)

    -- each part keeps what the rows keep
    pub fetcher-left : calls.retain (orders_of a) test (fetcher_of a m) ≡ fetcher_of a left
    fetcher-left = rw (waiting-left, asked-left, targets-left, retries-left) refl

    -- what is left of the entries
    pub holds-left : filter (λ e. test e.0) (holds_of m.rows) ≡ holds_of (filter q m.rows)
    holds-left = kept-map (λ r. (r.0, holds_in r.1.phase)) (λ e. test e.0) q m.rows alike

    -- a machine with the rows that are kept is sound
    pub sound-left : IsSound a left
    sound-left = record {
      ordered = ordered-kept q m.rows sound.ordered;
      ids = subst (λ rs. IsDistinct same_id (keys_of rs)) requests-left (IsDistinct-keys_filter same_id (λ r. test r.1.key) (filter_map request_of m.rows) sound.ids);
      own = all-kept (λ r. IsOwn m.deliveries r.0 r.1.phase) q m.rows sound.own;
      below = sound.below;
      new_id = none-asked a (fetcher_of a left) left over;
    }

module _ {K S P : Type 0} (keep : K → S → Bool) where
  -- the rows with the subscribers that are kept
  abbrev prune : List (K × Row K S P) → List (K × Row K S P)
  prune rows = map (pruned keep) rows

  -- a table that doesn't read the subscribers
  given-pruned : {Y : Type 0} (h : K × Row K S P → Option Y) → ((r : K × Row K S P) → h (pruned keep r) ≡ h r) → (rows : List (K × Row K S P)) → filter_map h (prune rows) ≡ filter_map h rows
  given-pruned h same [] = refl
  given-pruned h same (r ∷ rows) = rw (same r, given-pruned h same rows) refl

  -- what of the rows stays as it is
  keys-pruned : (rows : List (K × Row K S P)) → keys_of (prune rows) ≡ keys_of rows
  keys-pruned [] = refl
  keys-pruned (r ∷ rows) = ap (λ ks. r.0 ∷ ks) (keys-pruned rows)

  holds-pruned : (rows : List (K × Row K S P)) → holds_of (prune rows) ≡ holds_of rows
  holds-pruned [] = refl
  holds-pruned (r ∷ rows) = ap (λ es. (r.0, holds_in r.1.phase) ∷ es) (holds-pruned rows)

  -- the demand with the subscribers that are kept
  demand-pruned : (rows : List (K × Row K S P)) → map (tables.pruned keep) (demand_of rows) ≡ demand_of (prune rows)
  demand-pruned [] = refl
  demand-pruned (r ∷ rows) = ap (λ es. (r.0, filter (λ s. keep r.0 s.0) r.1.subscribers) ∷ es) (demand-pruned rows)

  -- requests and deliveries stay the rows' own
  own-pruned : (deliveries : List (ℕ × Open K S P)) (rows : List (K × Row K S P)) → AreOwn deliveries rows → AreOwn deliveries (prune rows)
  own-pruned deliveries [] own = tt
  own-pruned deliveries (r ∷ rows) own = (own.0, own-pruned deliveries rows own.1)

  module _ (a : Parties K S P) (m : Machine K S P) where
    -- the machine with the subscribers that are kept
    abbrev pub thinned : Machine K S P
    thinned = record m { rows = prune m.rows }

    -- the fetcher doesn't know the subscribers
    fetcher-pruned : fetcher_of a thinned ≡ fetcher_of a m
    fetcher-pruned =
        rw (given-pruned place_of (λ r. refl) m.rows, given-pruned request_of (λ r. refl) m.rows, given-pruned targets_in (λ r. refl) m.rows, given-pruned retries_in (λ r. refl) m.rows) refl

    -- a machine with fewer subscribers is sound
    sound-pruned : IsSound a m → m.scan.expects ≡ None → IsSound a thinned
    sound-pruned sound over = record {
      ordered = subst (IsStrictlySortedBy a.key) (sym (keys-pruned m.rows)) sound.ordered;
      ids = subst (λ rs. IsDistinct same_id (keys_of rs)) (sym (given-pruned request_of (λ r. refl) m.rows)) sound.ids;
      own = own-pruned m.deliveries m.rows sound.own;
      below = sound.below;
      new_id = none-asked a (fetcher_of a thinned) thinned over;
    }

    module _ (o : IsTotalOrder a.key) (sound : IsSound a m) where
      -- whether there are any subscribers
      abbrev some : List (S × ℕ) → Bool
      some subscribers = nat_lt 0 (length subscribers)

      -- the demand with the subscribers that are kept, before keys go
      abbrev table : List (K × List (S × ℕ))
      table = demand_of (prune m.rows)

      -- the keys of the demand are the rows'
      keys-table : (rows : List (K × Row K S P)) → keys_of (demand_of rows) ≡ keys_of rows
      keys-table [] = refl
      keys-table (r ∷ rows) = ap (λ ks. r.0 ∷ ks) (keys-table rows)

      -- no two keys of it are equal
      distinct-table : IsDistinct (same_key (names_of a)) (keys_of table)
      distinct-table =
          subst (IsDistinct (same_key (names_of a))) (sym (keys-table (prune m.rows) ∙ keys-pruned m.rows)) (IsDistinct-from_sorted a.key (keys_of m.rows) sound.ordered)

      -- each key finds its subscribers there
      found-table : AllByRecursion (λ r. lookup (same_key (names_of a) r.0) table ≡ Some r.1.subscribers) (prune m.rows)
      found-table = all-map-back (λ e. lookup (same_key (names_of a) e.0) table ≡ Some e.1) (λ r. (r.0, r.1.subscribers)) (prune m.rows) (each_found (names_of a) (eq_by_cmp_equiv o) table distinct-table)

      -- what is found is what passes
      is-some : (b : Bool) (s : List (S × ℕ)) → is_some (cond b (Some s) None) ≡ b
      is-some true s = refl
      is-some false s = refl

      -- what is wanted is what has subscribers
      pub wanted : AllByRecursion (λ r. is_asked (names_of a) (kept keep (demand_of m.rows)) r.0 ≡ has_subscribers r) (prune m.rows)
      wanted =
          all-imply (λ r. lookup (same_key (names_of a) r.0) table ≡ Some r.1.subscribers) (λ r. is_asked (names_of a) (kept keep (demand_of m.rows)) r.0 ≡ has_subscribers r)
          (λ r found.
          ap (λ d. is_asked (names_of a) (filter tables.has_subscribers d) r.0) (demand-pruned m.rows)
          ∙ ap is_some (lookup-filter-values (eq_by_cmp_equiv o) some r.0 table distinct-table)
          ∙ ap (λ s. is_some (option_filter some s)) found
          ∙ is-some (some r.1.subscribers) r.1.subscribers) (prune m.rows) found-table

-- what a code's entry and a row say of a judgement
pub number-held : {P : Type 0} (e : Option (Entry (List ℕ) (Source P) ℕ)) → option_and_then (λ e. e.number) e ≡ option_and_then (λ h. h.0) (option_map held_of e)
number-held None = refl
number-held (Some e) = refl

module _ {K S P : Type 0} (a : Parties K S P) (c : Codec K) where
  -- what some keys call off, by the entries and by the rows
  tell : (numbered : Numbered K S (List ℕ) (Source P) ℕ) (rows : List (K × Row K S P)) → AllByRecursion (λ r. number_of a.key numbered r.0 ≡ (holds_in r.1.phase).0) rows
      → each_canceled a.key numbered (keys_of rows) ≡ map (written c) (cancels rows)
  tell numbered [] all = refl
  tell numbered (r ∷ rows) all = rw all.0 (at r.1.phase (tell numbered rows all.1))
    where
      at : (phase : Phase K P) → each_canceled a.key numbered (keys_of rows) ≡ map (written c) (cancels rows)
          → cons_option (canceled {K = K} {P = P} {S = S} (holds_in phase).0) (each_canceled a.key numbered (keys_of rows)) ≡ map (written c) (cons_option (cancel_in phase) (cancels rows))
      at (Waits place) rest = rest
      at (Asked id request) rest = rest
      at (Judged j) rest = ap (λ ts. told.Cancel j.number ∷ ts) rest

  -- what all keys call off
  pub all-told : (keys : List (K × Entry (List ℕ) (Source P) ℕ)) (rows : List (K × Row K S P)) → map (λ x. (x.0, held_of x.1)) keys ≡ holds_of rows → all_canceled keys ≡ map (written c) (cancels rows)
  all-told keys rows is = by_holds keys ∙ ap (filter_map {X = K × Holds P} (λ h. canceled h.1.0)) is ∙ by_rows rows
    where
      by_holds : (keys : List (K × Entry (List ℕ) (Source P) ℕ)) → all_canceled {S = S} keys ≡ filter_map {X = K × Holds P} (λ h. canceled h.1.0) (map (λ x. (x.0, held_of x.1)) keys)
      by_holds [] = refl
      by_holds (e ∷ keys) = ap (λ ts. cons_option (canceled e.1.number) ts) (by_holds keys)

      by_rows : (rows : List (K × Row K S P)) → filter_map (λ h. canceled h.1.0) (holds_of rows) ≡ map (written c) (cancels rows)
      by_rows [] = refl
      by_rows (r ∷ rows) = at r.1.phase (by_rows rows)
        where
          at : (phase : Phase K P) → filter_map (λ h. canceled h.1.0) (holds_of rows) ≡ map (written c) (cancels rows)
              → cons_option (canceled {K = K} {P = P} {S = S} (holds_in phase).0) (filter_map (λ h. canceled h.1.0) (holds_of rows)) ≡ map (written c) (cons_option (cancel_in phase) (cancels rows))
          at (Waits place) rest = rest
          at (Asked id request) rest = rest
          at (Judged j) rest = ap (λ ts. told.Cancel j.number ∷ ts) rest

  module _ (o : IsTotalOrder a.key) (keep : K → S → Bool) (m : Machine K S P) (sound : IsSound a m) where
    -- the keys that are emptied are those of the rows that go
    keys-gone : emptied keep (demand_of m.rows) ≡ keys_of (filter (λ r. not (has_subscribers r)) (prune keep m.rows))
    keys-gone =
        ap (λ d. keys_of (filter (λ e. not (tables.has_subscribers e)) d)) (demand-pruned keep m.rows)
        ∙ ap keys_of (kept-map (λ r. (r.0, r.1.subscribers)) (λ e. not (tables.has_subscribers e)) (λ r. not (has_subscribers r)) (prune keep m.rows)
        (all-by (λ r. not (tables.has_subscribers (r.0, r.1.subscribers)) ≡ not (has_subscribers r)) (λ r. refl) (prune keep m.rows)))
        ∙ keys-table keep a m o sound (filter (λ r. not (has_subscribers r)) (prune keep m.rows))

    -- the number of each row's judgement is that of its entry
    numbers-held : (numbered : Numbered K S (List ℕ) (Source P) ℕ) → map (λ x. (x.0, held_of x.1)) numbered.keys ≡ holds_of m.rows
        → AllByRecursion (λ r. number_of a.key numbered r.0 ≡ (holds_in r.1.phase).0) (prune keep m.rows)
    numbers-held numbered is =
        all-imply (λ r. lookup (is_at (a.key r.0)) (prune keep m.rows) ≡ Some r.1) (λ r. number_of a.key numbered r.0 ≡ (holds_in r.1.phase).0)
        (λ r found.
        number-held (lookup (is_at (a.key r.0)) numbered.keys)
        ∙ ap (option_and_then (λ h. h.0))
        (sym (lookup-map_values held_of (is_at (a.key r.0)) numbered.keys)
        ∙ ap (lookup (is_at (a.key r.0))) (is ∙ sym (holds-pruned keep m.rows))
        ∙ lookup-map_values (λ row. holds_in row.phase) (is_at (a.key r.0)) (prune keep m.rows)
        ∙ ap (option_map (λ row. holds_in row.phase)) found)) (prune keep m.rows)
        (each_found (names_of a) (eq_by_cmp_equiv o) (prune keep m.rows) (subst (IsDistinct (same_key (names_of a))) (sym (keys-pruned keep m.rows)) (IsDistinct-from_sorted a.key (keys_of m.rows) sound.ordered)))

    -- what the keys call off that nobody wants any more
    pub gone-told : (numbered : Numbered K S (List ℕ) (Source P) ℕ) → map (λ x. (x.0, held_of x.1)) numbered.keys ≡ holds_of m.rows
        → each_canceled a.key numbered (emptied keep (demand_of m.rows)) ≡ map (written c) (retain m keep).effects
    gone-told numbered is =
        ap (each_canceled a.key numbered) keys-gone
        ∙ tell numbered (filter (λ r. not (has_subscribers r)) (prune keep m.rows))
        (all-kept (λ r. number_of a.key numbered r.0 ≡ (holds_in r.1.phase).0) (λ r. not (has_subscribers r)) (prune keep m.rows) (numbers-held numbered is))

module _ {K S P : Type 0} (a : Parties K S P) (o : IsTotalOrder a.key) (e : Parts K P S) (m : Machine K S P) (agrees : Agrees a e m) (over : m.scan.expects ≡ None) where
  -- the parts where some subscribers are kept
  pub agrees-retained : (keep : K → S → Bool) (demand : List (K × List (S × ℕ))) (entries : Numbered K S (List ℕ) (Source P) ℕ) (fetcher : Fetcher K P)
      → demand ≡ kept keep e.demand → entries ≡ keeping (is_asked (names_of a) demand) e.entries → fetcher ≡ calls.retain (orders_of a) (is_asked (names_of a) demand) e.fetcher
      → Agrees a (record e { demand = demand; entries = entries; fetcher = fetcher }) (retain m keep).machine
  agrees-retained keep demand entries fetcher demand_is entries_is fetcher_is =
      let test = is_asked (names_of a) demand in
      let n = thinned keep a m in
      let sound = sound-pruned keep a m agrees.sound over in
      let left_is : demand ≡ kept keep (demand_of m.rows) = demand_is ∙ ap (kept keep) agrees.demand in
      let alike = subst (λ d. AllByRecursion (λ r. is_asked (names_of a) d r.0 ≡ has_subscribers r) (prune keep m.rows)) (sym left_is) (wanted keep a m o agrees.sound) in
      record {
        sound = sound-left a o n sound over has_subscribers test alike;
        demand =
            left_is ∙ ap (filter tables.has_subscribers) (demand-pruned keep m.rows)
            ∙ kept-map (λ r. (r.0, r.1.subscribers)) tables.has_subscribers has_subscribers (prune keep m.rows) (all-by (λ r. tables.has_subscribers (r.0, r.1.subscribers) ≡ has_subscribers r) (λ r. refl) (prune keep m.rows));
        entries =
            ap (λ d. map (λ x. (x.0, held_of x.1)) d.keys) entries_is
            ∙ sym (kept-map (λ x. (x.0, held_of x.1)) (λ x. test x.0) (λ x. test x.0) e.entries.keys (all-by (λ x. test x.0 ≡ test x.0) (λ x. refl) e.entries.keys))
            ∙ ap (filter (λ x. test x.0)) (agrees.entries ∙ sym (holds-pruned keep m.rows))
            ∙ holds-left a o n sound over has_subscribers test alike;
        deliveries = ap (λ d. map (λ x. (x.0, open_of x.1)) d.going) entries_is ∙ agrees.deliveries;
        next_delivery = ap (λ d. d.next) entries_is ∙ agrees.next_delivery;
        fetcher =
            fetcher_is ∙ ap (calls.retain (orders_of a) test) (agrees.fetcher ∙ sym (fetcher-pruned keep a m))
            ∙ fetcher-left a o n sound over has_subscribers test alike;
        serves = agrees.serves;
        next_serve = agrees.next_serve;
        last_index = agrees.last_index;
        priority = agrees.priority;
      }

  -- the parts where nothing is wanted any more
  pub agrees-ended : (demand : List (K × List (S × ℕ))) (entries : Numbered K S (List ℕ) (Source P) ℕ) (fetcher : Fetcher K P) (serves : BTreeMap ℕ (Serve P))
      → demand ≡ [] → entries ≡ record e.entries { keys = []; going = [] } → fetcher ≡ calls.retain (orders_of a) (λ key. false) e.fetcher → serves.entries ≡ []
      → Agrees a (record e { demand = demand; entries = entries; fetcher = fetcher; serves = serves }) (end m).machine
  unfolding IsStrictlySortedBy IsDistinct
  agrees-ended demand entries fetcher serves demand_is entries_is fetcher_is serves_is =
      let n = (end m).machine in
      record {
        sound = record {
          ordered = tt;
          ids = tt;
          own = tt;
          below = tt;
          new_id = none-asked a (fetcher_of a n) n over;
        };
        demand = demand_is;
        entries = ap (λ d. map (λ x. (x.0, held_of x.1)) d.keys) entries_is;
        deliveries = ap (λ d. map (λ x. (x.0, open_of x.1)) d.going) entries_is;
        next_delivery = ap (λ d. d.next) entries_is ∙ agrees.next_delivery;
        fetcher =
            fetcher_is ∙ ap (calls.retain (orders_of a) (λ key. false)) agrees.fetcher
            ∙ rw (none-kept (sorted a (filter_map place_of m.rows)), none-kept (by_id (filter_map request_of m.rows)), none-kept (filter_map targets_in m.rows), none-kept (filter_map retries_in m.rows)) refl;
        serves = serves_is;
        next_serve = agrees.next_serve;
        last_index = agrees.last_index;
        priority = agrees.priority;
      }
