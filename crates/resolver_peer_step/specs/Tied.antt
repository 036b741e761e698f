-- What each part of an engine holds of a peer machine.
use Rattle.std.specs.Prelude.{◌≡◌, ◌<◌, ℕ, Bool, zero, suc, false, List, [], ◌∷◌, map, Option, None, Some, option_map}
use Rattle.std.specs.List.{AllByRecursion, IsDistinct, filter_map}
use Rattle.std.specs.List.Sorted.{IsStrictlySortedBy}
use Rattle.std.specs.Map.{keys_of, lookup}
use Rattle.std.specs.BTreeMap.{is_at}
use Rattle.std.specs.BTreeSet.{insert_key}
use Rattle.std.specs.Ordering.{is_eq, nat_cmp}
use Rattle.resolver_priority_set.specs.Priorities.{pair_order}
use Rattle.resolver_delivery.specs.declared.entry.Entry.{Entry}
use Rattle.resolver_delivery.specs.declared.entry.Open.{Open as Begun}
use Rattle.resolver_delivery.specs.declared.entry.Response.{Response}
use Rattle.resolver_fetch_scan.specs.declared.place.Place.{Place}
use Rattle.resolver_fetch_scan.specs.Fetcher.{AsksNewId, Fetcher, unless_over}
use Rattle.resolver_fetch_scan.specs.Waiting.{place_order}
use Rattle.resolver_fetch_requests.specs.Requests.{by_id}
use Rattle.resolver_model_peer.specs.declared.named.Source.{Source}
use Rattle.resolver_model_peer.specs.Parties.{Parties, orders_of}
use Rattle.resolver_model_peer.specs.PeerRows.{Row, Phase, Waits, Asked, Judged, Judging, request_of}
use Rattle.resolver_model_peer.specs.Peer.{Machine, Open, question}
use Rattle.resolver_peer_step.specs.declared.parts.Parts.{Parts}

-- a delivery in progress, with its response
abbrev pub Holds : Type 0 → Type 0
Holds P = Option ℕ × Option (Response (List ℕ) (Source P))

module _ {K P : Type 0} where
  -- what the entry of a key in this phase holds
  abbrev pub holds_in : Phase K P → Holds P
  holds_in (Judged j) = (Some j.number, Some (record { name = j.response; value = j.value; context = j.source; accepted = j.accepted }))
  holds_in phase = (None, None)

  -- where a key in this phase waits
  abbrev pub place_in : K → Phase K P → Option (Place × K)
  place_in key (Waits place) = Some (place, key)
  place_in key phase = None

-- the moment at which the key was fetched is the engine's alone
abbrev pub held_of : {P : Type 0} → Entry (List ℕ) (Source P) ℕ → Holds P
held_of e = (e.number, e.response)

abbrev pub open_of : {K S P : Type 0} → Begun K S (Source P) → Open K S P
open_of o = record {
  handed = record { response = o.response; key = o.delivery.key; subscribers = o.delivery.subscribers };
  source = o.context;
  accepted = o.accepted;
}

-- a count that is kept: none where there was no retry
abbrev pub count_of : ℕ → Option ℕ
count_of zero = None
count_of (suc n) = Some (suc n)

module _ {K S P : Type 0} where
  abbrev pub demand_of : List (K × Row K S P) → List (K × List (S × ℕ))
  demand_of rows = map (λ r. (r.0, r.1.subscribers)) rows

  abbrev pub holds_of : List (K × Row K S P) → List (K × Holds P)
  holds_of rows = map (λ r. (r.0, holds_in r.1.phase)) rows

  abbrev pub place_of : K × Row K S P → Option (Place × K)
  place_of r = place_in r.0 r.1.phase

  abbrev pub targets_in : K × Row K S P → Option (K × List P)
  targets_in r = option_map (λ targets. (r.0, targets)) r.1.targets

  abbrev pub retries_in : K × Row K S P → Option (K × ℕ)
  retries_in r = option_map (λ count. (r.0, count)) (count_of r.1.retries)

-- some waiting keys in their order
abbrev pub sorted : {K S P : Type 0} → Parties K S P → List (Place × K) → List (Place × K)
sorted a [] = []
sorted a (p ∷ ps) = insert_key (pair_order place_order a.key) (sorted a ps) p

-- The open delivery of this number has this key, and what is judged.
pub record IsGiven {K S P : Type 0} (deliveries : List (ℕ × Open K S P)) (key : K) (j : Judging P) : Type 0 where
  pub begun : Open K S P
  pub found : lookup (is_at (nat_cmp j.number)) deliveries ≡ Some begun
  pub named : begun.handed.key ≡ key
  pub response : begun.handed.response ≡ j.response
  pub source : begun.source ≡ j.source
  pub accepted : begun.accepted ≡ j.accepted

-- What was asked and what is judged under a row's key has the key as the row has it.
abbrev pub IsOwn : {K S P : Type 0} → List (ℕ × Open K S P) → K → Phase K P → Type 0
IsOwn deliveries key (Waits place) = Unit {0}
IsOwn deliveries key (Asked id request) = request.key ≡ key
IsOwn deliveries key (Judged j) = IsGiven deliveries key j

abbrev pub AreOwn : {K S P : Type 0} → List (ℕ × Open K S P) → List (K × Row K S P) → Type 0
AreOwn deliveries [] = Unit {0}
AreOwn deliveries (r ∷ rows) = IsOwn deliveries r.0 r.1.phase × AreOwn deliveries rows

abbrev pub same_id : ℕ → ℕ → Bool
same_id i j = is_eq (nat_cmp i j)

module _ {K S P : Type 0} (a : Parties K S P) where
  -- the fetcher that a machine has
  abbrev pub fetcher_of : Machine K S P → Fetcher K P
  fetcher_of m = record {
    waiting = sorted a (filter_map place_of m.rows);
    asked = by_id (filter_map request_of m.rows);
    targets = filter_map targets_in m.rows;
    retries = filter_map retries_in m.rows;
    peers = m.peers;
    blocked = m.blocked;
    configuration = m.configuration;
    waiter = m.waiter;
    last_id = m.last_id;
    scan = unless_over m.scan;
  }

  -- what is so of every machine that an engine is
  pub record IsSound (m : Machine K S P) : Type 0 where
    pub ordered : IsStrictlySortedBy a.key (keys_of m.rows)
    pub ids : IsDistinct same_id (keys_of (filter_map request_of m.rows))
    pub own : AreOwn m.deliveries m.rows
    pub below : AllByRecursion (λ n. n < m.next_delivery) (keys_of m.deliveries)
    pub new_id : AsksNewId (orders_of a) (fetcher_of m) (question a m)

  -- The parts are the machine's, but for its status, the trail of a scan that is over, and the last moment.
  pub record Agrees (e : Parts K P S) (m : Machine K S P) : Type 0 where
    pub sound : IsSound m
    pub demand : e.demand ≡ demand_of m.rows
    pub entries : map (λ x. (x.0, held_of x.1)) e.entries.keys ≡ holds_of m.rows
    pub deliveries : map (λ x. (x.0, open_of x.1)) e.entries.going ≡ m.deliveries
    pub next_delivery : e.entries.next ≡ m.next_delivery
    pub fetcher : e.fetcher ≡ fetcher_of m
    pub serves : e.serves.entries ≡ m.serves
    pub next_serve : e.next_serve ≡ m.next_serve
    pub last_index : e.last_index ≡ m.last_index
    pub priority : e.priority_responses ≡ m.priority_responses
