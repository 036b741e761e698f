-- The keys that wait and those that are asked for are no more than there are rows.
use Rattle.std.proofs.Common.{◌≤◌, ◌+◌, ℕ, List, [], ◌∷◌, length, arith}
use Rattle.std.specs.List.{cons_option, filter_map}
use Rattle.std.specs.BTreeMap.{insert_entry}
use Rattle.std.specs.BTreeSet.{insert_key}
use Rattle.std.specs.Ordering.{match_ordering, nat_cmp}
use Rattle.std.specs.declared.cmp.Ordering.{Ordering}
use Rattle.std.specs.declared.cmp.Ordering.TheVariants.{Less, Equal, Greater}
use Rattle.resolver_fetch_requests.specs.declared.requests.request.Request.{Request}
use Rattle.resolver_fetch_requests.specs.Requests.{by_id}
use Rattle.resolver_priority_set.specs.Priorities.{pair_order}
use Rattle.resolver_fetch_scan.specs.declared.place.Place.{Place}
use Rattle.resolver_fetch_scan.specs.Waiting.{place_order}
use Rattle.resolver_model_peer.specs.Parties.{Parties}
use Rattle.resolver_model_peer.specs.PeerRows.{Row, Phase, Waits, Asked, Judged, request_in, request_of}
use Rattle.resolver_peer_step.specs.Tied.{place_in, place_of, sorted}

-- a key more makes a set at most one longer
insert_key-length : {K : Type 0} (cmp : K → K → Ordering) (ks : List K) (k : K) → length (insert_key cmp ks k) ≤ length ks + 1
insert_key-length cmp [] k = omega arith
insert_key-length cmp (x ∷ xs) k = at (cmp k x) (insert_key-length cmp xs k)
  where
    at : (o : Ordering) → length (insert_key cmp xs k) ≤ length xs + 1 → length (match_ordering o (k ∷ x ∷ xs) (x ∷ xs) (x ∷ insert_key cmp xs k)) ≤ length (x ∷ xs) + 1
    at Less rest = omega arith
    at Equal rest = omega arith
    at Greater rest = omega (arith, rest)

-- an entry more makes a map at most one longer
insert_entry-length : {K X : Type 0} (cmp : K → K → Ordering) (es : List (K × X)) (k : K) (v : X) → length (insert_entry cmp es k v) ≤ length es + 1
insert_entry-length cmp [] k v = omega arith
insert_entry-length cmp (e ∷ es) k v = at (cmp k e.0) (insert_entry-length cmp es k v)
  where
    at : (o : Ordering) → length (insert_entry cmp es k v) ≤ length es + 1
        → length (match_ordering o ((k, v) ∷ e ∷ es) ((e.0, v) ∷ es) (e ∷ insert_entry cmp es k v)) ≤ length (e ∷ es) + 1
    at Less rest = omega arith
    at Equal rest = omega arith
    at Greater rest = omega (arith, rest)

by_id-length : {K P : Type 0} (rs : List (ℕ × Request K P)) → length (by_id rs) ≤ length rs
by_id-length [] = omega arith
by_id-length (r ∷ rs) = omega (arith, insert_entry-length nat_cmp (by_id rs) r.0 r.1, by_id-length rs)

module _ {K S P : Type 0} (a : Parties K S P) where
  sorted-length : (ps : List (Place × K)) → length (sorted a ps) ≤ length ps
  sorted-length [] = omega arith
  sorted-length (p ∷ ps) = omega (arith, insert_key-length (pair_order place_order a.key) (sorted a ps) p, sorted-length ps)

  apart : (rows : List (K × Row K S P)) → length (filter_map place_of rows) + length (filter_map request_of rows) ≤ length rows
  apart [] = omega arith
  apart (r ∷ rows) = at r.1.phase (apart rows)
    where
      at : (p : Phase K P) → length (filter_map place_of rows) + length (filter_map request_of rows) ≤ length rows
          → length (cons_option (place_in r.0 p) (filter_map place_of rows)) + length (cons_option (request_in p) (filter_map request_of rows)) ≤ length (r ∷ rows)
      at (Waits place) rest = omega (arith, rest)
      at (Asked id request) rest = omega (arith, rest)
      at (Judged j) rest = omega (arith, rest)

  pub in_two : (rows : List (K × Row K S P)) → length (sorted a (filter_map place_of rows)) + length (by_id (filter_map request_of rows)) ≤ length rows
  in_two rows = omega (arith, sorted-length (filter_map place_of rows), by_id-length (filter_map request_of rows), apart rows)
