-- A key that waits again: what the parts have of it.
use Rattle.std.proofs.Common.{◌≡◌, refl, ap, sym, ◌∙◌, subst, inl, inr, ℕ, zero, suc, ◌+◌, ◌<◌, false, List, [], ◌∷◌, ◌++◌, map, Option, None, Some, arith, rules}
use Rattle.std.specs.Prelude.{unwrap_or}
use Rattle.std.specs.Option.{option_map, option_and_then}
use Rattle.std.specs.Cmp.{IsTotalOrder}
use Rattle.std.specs.List.{IsDistinct, cons_option, filter_map}
use Rattle.std.specs.List.Sorted.{IsStrictlySortedBy}
use Rattle.std.specs.Map.{keys_of, lookup}
use Rattle.std.specs.BTreeMap.{insert_entry, is_at}
use Rattle.resolver_priority_set.specs.Priorities.{put}
use Rattle.resolver_fetch_requests.specs.declared.requests.request.Request.{Request}
use Rattle.resolver_fetch_requests.specs.Requests.{by_id, without_request}
use Rattle.resolver_fetch_scan.specs.declared.place.Place.{Place}
use Rattle.resolver_fetch_scan.specs.FetcherLaws.{IsAmong}
use Rattle.resolver_fetch_scan.specs.Waiting.{once_more, place_order}
use Rattle.resolver_model_peer.specs.Parties.{Parties}
use Rattle.resolver_model_peer.specs.PeerRows.{Row, Phase, Waits, Asked, Judged, change_entry, request_in, request_of}
use Rattle.resolver_model_peer.specs.Peer.{Machine, Open, is_key}
use Rattle.resolver_peer_step.specs.Tied.{AreOwn, IsOwn, IsSound, count_of, demand_of, holds_of, place_of, retries_in, same_id, sorted, targets_in}
use Rattle.resolver_peer_step.proofs.Places.{apart-places-first, apart-places-last, demand-at, holds-at, place_at, request_at, requests-at, retries-at, rows_at, targets-at, waiting-at}
use Rattle.resolver_peer_step.proofs.Queues.{distinct-less, put-waits, without-asked}
use Rattle.resolver_peer_step.proofs.Slots.{Around, IsAround, around-given, around-own, change-slot, insert-slot, lookup-slot, ordered-slot, slot}

counted-once : (n : ℕ) → 0 < n → count_of n ≡ Some n
counted-once zero positive = absurd (omega (arith, positive))
counted-once (suc n) positive = refl

once-positive : (n : ℕ) → 0 < once_more n
once-positive n = search (rules, arith)

counted : (n : ℕ) → unwrap_or (count_of n) 0 ≡ n
counted zero = refl
counted (suc n) = refl

module _ {K S P : Type 0} (a : Parties K S P) (o : IsTotalOrder a.key) where
  -- the row of a key that waits again
  abbrev pub retried : Place → Row K S P → Row K S P
  retried place row = record row { retries = once_more row.retries; phase = Waits place }

  abbrev pub retried_rows : List (K × Row K S P) → K → Place → List (K × Row K S P)
  retried_rows rows key place = change_entry (is_key a key) (retried place) rows

  -- what the tables have then
  pub record Retries (rows : List (K × Row K S P)) (key : K) (place : Place) (before after : List (K × Row K S P)) (row : Row K S P) : Type 0 where
    pub now : retried_rows rows key place ≡ slot before key (Some (retried place row)) after
    pub waiting : put place_order a.key (sorted a (filter_map place_of rows)) (place, key) ≡ sorted a (filter_map place_of (retried_rows rows key place))
    pub targets : filter_map targets_in rows ≡ filter_map targets_in (retried_rows rows key place)
    pub retries : insert_entry a.key (filter_map retries_in rows) key (once_more (unwrap_or (lookup (is_at (a.key key)) (filter_map retries_in rows)) 0)) ≡ filter_map retries_in (retried_rows rows key place)
    pub demand : demand_of rows ≡ demand_of (retried_rows rows key place)
    pub ordered : IsStrictlySortedBy a.key (keys_of (retried_rows rows key place))

  pub retries : (rows : List (K × Row K S P)) (key : K) (place : Place) (row : Row K S P) → IsStrictlySortedBy a.key (keys_of rows) → (at : Around o rows key (Some row)) → place_at key (Some row) ≡ None
      → Retries rows key place at.before at.after row
  retries rows key place row ordered at idle =
      let now : retried_rows rows key place ≡ slot at.before key (Some (retried place row)) at.after =
      ap (λ rows. retried_rows rows key place) at.whole ∙ change-slot o (retried place) at.before at.after key row at.around in
      let counts = around-given o (λ row. count_of row.retries) at.before at.after key at.around in
      let were = ap (filter_map retries_in) at.whole ∙ retries-at a o at.before at.after key (Some row) in
      let known : unwrap_or (lookup (is_at (a.key key)) (filter_map retries_in rows)) 0 ≡ row.retries =
      ap (λ es. unwrap_or (lookup (is_at (a.key key)) es) 0) were
      ∙ ap (λ n. unwrap_or n 0) (lookup-slot o (filter_map retries_in at.before) (filter_map retries_in at.after) key (count_of row.retries) counts) ∙ counted row.retries in
      record {
        now = now;
        waiting =
            ap (λ rows. put place_order a.key (sorted a (filter_map place_of rows)) (place, key)) at.whole
            ∙ ap (λ ps. put place_order a.key ps (place, key)) (waiting-at a o at.before at.after key (Some row) ∙ rw idle refl)
            ∙ put-waits a o key (filter_map place_of at.before) (filter_map place_of at.after) (apart-places-first a o at.before at.after key at.around) (apart-places-last a o at.before at.after key at.around) place
            ∙ sym (ap (λ rows. sorted a (filter_map place_of rows)) now ∙ waiting-at a o at.before at.after key (Some (retried place row)));
        targets =
            ap (filter_map targets_in) at.whole ∙ targets-at a o at.before at.after key (Some row)
            ∙ sym (ap (filter_map targets_in) now ∙ targets-at a o at.before at.after key (Some (retried place row)));
        retries =
            ap (λ n. insert_entry a.key (filter_map retries_in rows) key (once_more n)) known
            ∙ ap (λ es. insert_entry a.key es key (once_more row.retries)) were
            ∙ insert-slot o (filter_map retries_in at.before) (filter_map retries_in at.after) key (count_of row.retries) (once_more row.retries) counts
            ∙ sym (ap (filter_map retries_in) now ∙ retries-at a o at.before at.after key (Some (retried place row))
            ∙ ap (λ n. slot (filter_map retries_in at.before) key n (filter_map retries_in at.after)) (counted-once (once_more row.retries) (once-positive row.retries)));
        demand =
            ap demand_of at.whole ∙ demand-at a o at.before at.after key (Some row)
            ∙ sym (ap demand_of now ∙ demand-at a o at.before at.after key (Some (retried place row)));
        ordered = subst (λ rows. IsStrictlySortedBy a.key (keys_of rows)) (sym now)
            (ordered-slot o at.before at.after key (Some row) (Some (retried place row)) at.around (subst (λ rows. IsStrictlySortedBy a.key (keys_of rows)) at.whole ordered));
      }

module _ {K S P : Type 0} (a : Parties K S P) (o : IsTotalOrder a.key) where
  -- the row of a key that is asked for
  pub record AskedRow (rows : List (K × Row K S P)) (q : ℕ × Request K P) : Type 0 where
    pub row : Row K S P
    pub asks : row.phase ≡ Asked q.0 q.1
    pub at : Around o rows q.1.key (Some row)

  record Between (rows : List (K × Row K S P)) (q : ℕ × Request K P) : Type 0 where
    pub row : Row K S P
    pub asks : row.phase ≡ Asked q.0 q.1
    pub before : List (K × Row K S P)
    pub after : List (K × Row K S P)
    pub whole : rows ≡ before ++ (q.1.key, row) ∷ after

  between : (deliveries : List (ℕ × Open K S P)) (rows : List (K × Row K S P)) (q : ℕ × Request K P) → AreOwn deliveries rows → IsAmong q (filter_map request_of rows) → Between rows q
  between deliveries [] q own i = absurd i
  between deliveries (r ∷ rows) q own i = at r.1.phase refl own.0 (between deliveries rows q own.1) i
    where
      later : Between rows q → Between (r ∷ rows) q
      later w = record { row = w.row; asks = w.asks; before = r ∷ w.before; after = w.after; whole = ap (λ rows. r ∷ rows) w.whole }

      here : (id : ℕ) (request : Request K P) → r.1.phase ≡ Asked id request → request.key ≡ r.0 → q ≡ (id, request) → Between (r ∷ rows) q
      here id request is own same = record {
        row = r.1;
        asks = is ∙ ap (λ (q : ℕ × Request K P). Asked q.0 q.1) (sym same);
        before = [];
        after = rows;
        whole = ap (λ (k : K). (k, r.1) ∷ rows) (sym (ap (λ (q : ℕ × Request K P). q.1.key) same ∙ own));
      }

      at : (phase : Phase K P) → r.1.phase ≡ phase → IsOwn deliveries r.0 phase → (IsAmong q (filter_map request_of rows) → Between rows q)
          → IsAmong q (cons_option (request_in phase) (filter_map request_of rows)) → Between (r ∷ rows) q
      at (Waits place) is own rest i = later (rest i)
      at (Asked id request) is own rest (inl same) = here id request is own same
      at (Asked id request) is own rest (inr i) = later (rest i)
      at (Judged j) is own rest i = later (rest i)

  pub asked-row : (deliveries : List (ℕ × Open K S P)) (rows : List (K × Row K S P)) (q : ℕ × Request K P) → IsStrictlySortedBy a.key (keys_of rows) → AreOwn deliveries rows
      → IsAmong q (filter_map request_of rows) → AskedRow rows q
  asked-row deliveries rows q ordered own i =
      let b = between deliveries rows q own i in
      record {
        row = b.row;
        asks = b.asks;
        at = record {
          before = b.before;
          after = b.after;
          whole = b.whole;
          around = around-own o b.before b.after q.1.key b.row (subst (λ rows. IsStrictlySortedBy a.key (keys_of rows)) b.whole ordered);
        };
      }
