-- What a scan reads of the machine is what it reads of the machine's fetcher.
use Rattle.std.proofs.Common.{◌≡◌, refl, ap, sym, ◌∙◌, ℕ, zero, suc, Bool, true, false, List, [], ◌∷◌, map, Option, None, Some, cond}
use Rattle.std.proofs.lemmas.Cmp.{eq_by_cmp_equiv}
use Rattle.std.proofs.lemmas.Map.Keys.{IsDistinct-from_sorted, IsDistinct-head, IsDistinct-tail}
use Rattle.std.specs.Option.{option_map, option_and_then}
use Rattle.std.specs.Prelude.{unwrap_or}
use Rattle.std.specs.Cmp.{IsEquivalence, IsTotalOrder}
use Rattle.std.specs.List.{AllByRecursion, IsDistinct, cons_option, filter_map}
use Rattle.std.specs.List.Sorted.{IsStrictlySortedBy}
use Rattle.std.specs.Map.{keys_of, lookup}
use Rattle.std.specs.BTreeSet.{insert_key}
use Rattle.std.specs.Ordering.{match_ordering}
use Rattle.std.specs.declared.cmp.Ordering.{Ordering}
use Rattle.std.specs.declared.cmp.Ordering.TheVariants.{Less, Equal, Greater}
use Rattle.resolver_priority_set.specs.Priorities.{pair_order}
use Rattle.resolver_fetch_scan.specs.declared.place.Place.{Place}
use Rattle.resolver_fetch_scan.specs.Fetcher as fetchers
use Rattle.resolver_fetch_scan.specs.Fetcher.{Fetcher}
use Rattle.resolver_fetch_scan.specs.Orders.{same_key}
use Rattle.resolver_fetch_scan.specs.Snapshot.{Snapshot}
use Rattle.resolver_fetch_scan.specs.Waiting as waits
use Rattle.resolver_fetch_scan.specs.Waiting.{in_order, waiting_order, place_order}
use Rattle.resolver_model_peer.specs.Parties.{Parties, names_of, orders_of}
use Rattle.resolver_model_peer.specs.PeerRows.{Row, Phase, Waits, Asked, Judged, waiting_in, waiting_of}
use Rattle.resolver_model_peer.specs.Peer.{Machine, snapshot, wake_up}
use Rattle.resolver_model.specs.Lawful.{Each}
use Rattle.resolver_model.proofs.Rows.{each_found}
use Rattle.resolver_peer_step.specs.Tied.{count_of, fetcher_of, place_in, place_of, sorted}

module _ {K X Y : Type 0} {same : K → K → Bool} (laws : IsEquivalence same) (h : X → Option Y) where
  -- what a table gives of the values, by key
  abbrev given : K × X → Option (K × Y)
  given e = option_map (λ y. (e.0, y)) (h e.1)

  given-none : (k j : K) (es : List (K × X)) → same k j ≡ true → AllByRecursion (λ y. same j y ≡ false) (keys_of es) → lookup (same k) (filter_map given es) ≡ None
  given-none k j [] tied apart = refl
  given-none k j (e ∷ es) tied apart = at (h e.1) (given-none k j es tied apart.1) (laws.congr k j e.0 tied ∙ apart.0)
    where
      at : (o : Option Y) → lookup (same k) (filter_map given es) ≡ None → same k e.0 ≡ false
          → lookup (same k) (cons_option (option_map (λ y. (e.0, y)) o) (filter_map given es)) ≡ None
      at None rest other = rest
      at (Some y) rest other = rw other rest

  -- where no two keys are the same, a key finds what its value gives
  given-found : (k : K) (es : List (K × X)) → IsDistinct same (keys_of es)
      → lookup (same k) (filter_map given es) ≡ option_and_then h (lookup (same k) es)
  given-found k [] distinct = refl
  given-found k (e ∷ es) distinct =
      at (h e.1) refl (same k e.0) refl (given-found k es (IsDistinct-tail same e.0 (keys_of es) distinct)) (IsDistinct-head same e.0 (keys_of es) distinct)
    where
      at : (o : Option Y) → h e.1 ≡ o → (b : Bool) → same k e.0 ≡ b → lookup (same k) (filter_map given es) ≡ option_and_then h (lookup (same k) es)
          → AllByRecursion (λ y. same e.0 y ≡ false) (keys_of es)
          → lookup (same k) (cons_option (option_map (λ y. (e.0, y)) o) (filter_map given es)) ≡ option_and_then h (cond b (Some e.1) (lookup (same k) es))
      at None is true tied rest apart = given-none k e.0 es tied apart ∙ sym is
      at None is false tied rest apart = rest
      at (Some y) is true tied rest apart = rw tied (sym is)
      at (Some y) is false tied rest apart = rw tied rest

module _ {X Y : Type 0} (order : X → X → Ordering) (theirs : Y → Y → Ordering) (g : X → Y) (alike : (x y : X) → theirs (g x) (g y) ≡ order x y) where
  -- what is put in its place, seen otherwise
  map-insert_key : (xs : List X) (x : X) → map g (insert_key order xs x) ≡ insert_key theirs (map g xs) (g x)
  map-insert_key [] x = refl
  map-insert_key (y ∷ xs) x = rw (alike x y) (at (order x y) (map-insert_key xs x))
    where
      at : (o : Ordering) → map g (insert_key order xs x) ≡ insert_key theirs (map g xs) (g x)
          → map g (match_ordering o (x ∷ y ∷ xs) (y ∷ xs) (y ∷ insert_key order xs x)) ≡ match_ordering o (g x ∷ g y ∷ map g xs) (g y ∷ map g xs) (g y ∷ insert_key theirs (map g xs) (g x))
      at Less rest = refl
      at Equal rest = refl
      at Greater rest = ap (λ zs. g y ∷ zs) rest

module _ {K S P : Type 0} (a : Parties K S P) where
  -- what a fetcher knows of a row
  record Knows (f : Fetcher K P) (r : K × Row K S P) : Type 0 where
    pub targets : fetchers.targets_of (orders_of a) f r.0 ≡ r.1.targets
    pub retries : fetchers.retries_of (orders_of a) f r.0 ≡ r.1.retries

  abbrev KnowsAll : Fetcher K P → List (K × Row K S P) → Type 0
  KnowsAll f [] = Unit {0}
  KnowsAll f (r ∷ rows) = Knows f r × KnowsAll f rows

  waiting-same : (f : Fetcher K P) (rows : List (K × Row K S P)) → KnowsAll f rows
      → map (fetchers.waiting_of (orders_of a) f) (sorted a (filter_map place_of rows)) ≡ in_order (orders_of a) (filter_map waiting_of rows)
  waiting-same f [] knows = refl
  waiting-same f (r ∷ rows) knows = at r.1.phase (waiting-same f rows knows.1) knows.0
    where
      at : (phase : Phase K P)
          → map (fetchers.waiting_of (orders_of a) f) (sorted a (filter_map place_of rows)) ≡ in_order (orders_of a) (filter_map waiting_of rows)
          → Knows f r
          → map (fetchers.waiting_of (orders_of a) f) (sorted a (cons_option (place_in r.0 phase) (filter_map place_of rows)))
          ≡ in_order (orders_of a) (cons_option (waiting_in r.0 r.1 phase) (filter_map waiting_of rows))
      at (Waits place) rest knows =
          map-insert_key (pair_order place_order a.key) (waiting_order (orders_of a)) (fetchers.waiting_of (orders_of a) f) (λ x y. refl) (sorted a (filter_map place_of rows)) (place, r.0)
          ∙ rw (rest, knows.targets, knows.retries) refl
      at (Asked id request) rest knows = rest
      at (Judged j) rest knows = rest

  counted : (n : ℕ) → unwrap_or (count_of n) 0 ≡ n
  counted zero = refl
  counted (suc n) = refl

  module _ (o : IsTotalOrder a.key) (m : Machine K S P) (ordered : IsStrictlySortedBy a.key (keys_of m.rows)) where
    laws : IsEquivalence (same_key (orders_of a))
    laws = eq_by_cmp_equiv o

    apart : IsDistinct (same_key (orders_of a)) (keys_of m.rows)
    apart = IsDistinct-from_sorted a.key (keys_of m.rows) ordered

    knows-found : (r : K × Row K S P) → lookup (same_key (orders_of a) r.0) m.rows ≡ Some r.1 → Knows (fetcher_of a m) r
    knows-found r found =
        record {
          targets = given-found laws (λ row. row.targets) r.0 m.rows apart ∙ ap (option_and_then (λ row. row.targets)) found;
          retries = ap (λ o. unwrap_or o 0) (given-found laws (λ row. count_of row.retries) r.0 m.rows apart ∙ ap (option_and_then (λ row. count_of row.retries)) found) ∙ counted r.1.retries;
        }

    knows-all : (rows : List (K × Row K S P)) → Each (λ r. lookup (same_key (orders_of a) r.0) m.rows ≡ Some r.1) rows → KnowsAll (fetcher_of a m) rows
    knows-all [] found = tt
    knows-all (r ∷ rows) found = (knows-found r found.0, knows-all rows found.1)

    -- what a scan reads is the same
    pub snapshot-same : fetchers.snapshot (orders_of a) (fetcher_of a m) ≡ snapshot a m
    snapshot-same = rw (waiting-same (fetcher_of a m) m.rows (knows-all m.rows (each_found (names_of a) laws m.rows apart))) refl

    -- when a scan may do something
    pub wake-same : fetchers.pending_deadline (fetcher_of a m) ≡ wake_up a m
    wake-same = at (fetcher_of a m).waiting ∙ ap (λ (s : Snapshot K P). waits.wake_up (λ w. w.1.place.due) s.waiting m.waiter) snapshot-same
      where
        at : (ws : List (Place × K)) → waits.wake_up (λ w. w.0.due) ws m.waiter ≡ waits.wake_up (λ w. w.1.place.due) (map (fetchers.waiting_of (orders_of a) (fetcher_of a m)) ws) m.waiter
        at [] = refl
        at (w ∷ ws) = refl
