-- Requests that were sent and have no answer so far, by their ids.
use Rattle.std.specs.Prelude.{◌≡◌, ℕ, Bool, true, false, nat_le, List, [], ◌∷◌, length, Option, None, Some, option_and_then, map, filter, find, if◌then◌else◌}
use Rattle.std.specs.List.{list_any}
use Rattle.std.specs.Option.{option_map_or}
use Rattle.std.specs.Ordering.{nat_cmp, is_eq, is_lt, ordering_then}
use Rattle.std.specs.declared.cmp.Ordering.{Ordering}
use Rattle.std.specs.BTreeMap.{insert_entry, is_at}
use Rattle.std.specs.Map.{lookup, remove_entry}
use Rattle.resolver_fetch_requests.specs.declared.requests.request.Request.{Request}

module _ {K P : Type 0} where
  -- the earlier deadline, then the smaller id
  abbrev pub is_sooner : ℕ × Request K P → ℕ × Request K P → Bool
  is_sooner q r = is_lt (ordering_then (nat_cmp q.1.deadline r.1.deadline) (nat_cmp q.0 r.0))

  abbrev pub sooner : ℕ × Request K P → Option (ℕ × Request K P) → ℕ × Request K P
  sooner r None = r
  sooner r (Some q) = if is_sooner q r then q else r

  abbrev pub soonest : List (ℕ × Request K P) → Option (ℕ × Request K P)
  soonest [] = None
  soonest (r ∷ rs) = Some (sooner r (soonest rs))

  abbrev pub if_overdue : (now : ℕ) → ℕ × Request K P → Option (ℕ × Request K P)
  if_overdue now r = if nat_le r.1.deadline now then Some r else None

  -- the soonest, if its time is over
  abbrev pub overdue : List (ℕ × Request K P) → (now : ℕ) → Option (ℕ × Request K P)
  overdue asked now = option_and_then (if_overdue now) (soonest asked)

  abbrev pub request_of : List (ℕ × Request K P) → (id : ℕ) → Option (Request K P)
  request_of asked id = lookup (is_at (nat_cmp id)) asked

  abbrev pub without_request : (id : ℕ) → List (ℕ × Request K P) → List (ℕ × Request K P)
  without_request id asked = remove_entry (is_at (nat_cmp id)) asked

module _ {K P : Type 0} (by_peer : P → P → Ordering) where
  abbrev pub if_of : P → Request K P → Option (Request K P)
  if_of peer r = if is_eq (by_peer peer r.peer) then Some r else None

  abbrev pub is_to : P → ℕ × Request K P → Bool
  is_to peer r = is_eq (by_peer r.1.peer peer)

  -- how many requests name a peer
  abbrev pub requests_to : List (ℕ × Request K P) → P → ℕ
  requests_to asked peer = length (filter (is_to peer) asked)

  -- the request that a message of this peer under this id answers
  abbrev pub matching : List (ℕ × Request K P) → (id : ℕ) → P → Option (Request K P)
  matching asked id peer = option_and_then (if_of peer) (request_of asked id)

module _ {K P : Type 0} (by_key : K → K → Ordering) where
  abbrev pub is_for : K → ℕ × Request K P → Bool
  is_for key r = is_eq (by_key key r.1.key)

  -- whether a key is asked for
  abbrev pub is_asked : List (ℕ × Request K P) → K → Bool
  is_asked asked key = list_any (is_for key) asked

  -- the request for a key, with its id
  abbrev pub request_for : List (ℕ × Request K P) → K → Option (ℕ × Request K P)
  request_for asked key = find (is_for key) asked

  -- the ids of the requests for a key
  abbrev pub ids_of : List (ℕ × Request K P) → K → List ℕ
  ids_of asked key = map (λ r. r.0) (filter (is_for key) asked)

  abbrev pub is_for_if : K → (id : ℕ) → Option (Request K P) → Bool
  is_for_if key id found = option_map_or (λ r. is_for key (id, r)) found false

module _ {K P : Type 0} where
  -- a request that was there is taken out
  abbrev pub IsTaken : (old new : List (ℕ × Request K P)) → Request K P → Type 0
  IsTaken old new r = (id : ℕ) × (request_of old id ≡ Some r) × (new ≡ without_request id old)

  abbrev pub taken_soonest : List (ℕ × Request K P) → Option (ℕ × Request K P) → Option (Request K P) × List (ℕ × Request K P)
  taken_soonest asked None = (None, asked)
  taken_soonest asked (Some r) = (Some r.1, without_request r.0 asked)

  -- the request whose time is over is taken out
  abbrev pub taken_overdue : List (ℕ × Request K P) → (now : ℕ) → Option (Request K P) × List (ℕ × Request K P)
  taken_overdue asked now = taken_soonest asked (overdue asked now)

  abbrev pub taken_if : List (ℕ × Request K P) → (id : ℕ) → Option (Request K P) → Option (Request K P) × List (ℕ × Request K P)
  taken_if asked id None = (None, asked)
  taken_if asked id (Some r) = (Some r, without_request id asked)

  -- the request that a message answers is taken out
  abbrev pub taken_matching : (P → P → Ordering) → List (ℕ × Request K P) → (id : ℕ) → P → Option (Request K P) × List (ℕ × Request K P)
  taken_matching by_peer asked id peer = taken_if asked id (matching by_peer asked id peer)

-- The ids are kept by the keys too: each request is named by its key, and what a key names is the request for it.
pub record AreNamed {K P : Type 0} (by_key : K → K → Ordering) (asked : List (ℕ × Request K P)) (names : List (K × ℕ)) : Type 0 where
  pub named : (id : ℕ) (r : Request K P) → request_of asked id ≡ Some r → lookup (is_at (by_key r.key)) names ≡ Some id
  pub held : (key : K) (id : ℕ) → lookup (is_at (by_key key)) names ≡ Some id → is_for_if by_key key id (request_of asked id) ≡ true

-- some requests in the order of their ids
abbrev pub by_id : {K P : Type 0} → List (ℕ × Request K P) → List (ℕ × Request K P)
by_id [] = []
by_id (r ∷ rs) = insert_entry nat_cmp (by_id rs) r.0 r.1
