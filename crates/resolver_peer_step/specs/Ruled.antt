-- A delivery that is closed, and what a ruling on it makes of the parts.
use Rattle.std.specs.Prelude.{◌≡◌, ◌<◌, ℕ, Bool, true, false, List, [], ◌∷◌, ◌++◌, map, Option, None, Some}
use Rattle.std.specs.List.{AllByRecursion, IsDistinct, filter_map}
use Rattle.std.specs.List.Sorted.{IsStrictlySortedBy}
use Rattle.std.specs.Map.{keys_of}
use Rattle.resolver_types.specs.declared.delivery.Delivery.{Delivery}
use Rattle.resolver_types.specs.declared.outcome.Outcome.{Outcome}
use Rattle.resolver_types.specs.declared.outcome.Outcome.TheVariants.{Invalid, Resolved, Unresolved, Ignored}
use Rattle.resolver_delivery.specs.Entries.{accepted}
use Rattle.resolver_fetch_scan.specs.Fetcher.{Fetcher, record_response}
use Rattle.resolver_fetch_scan.specs.Orders.{Orders}
use Rattle.resolver_model_peer.specs.declared.named.Source.{Source}
use Rattle.resolver_model_peer.specs.Parties.{Parties}
use Rattle.resolver_model_peer.specs.PeerRows.{Row, Judged, Judging, request_of}
use Rattle.resolver_model_peer.specs.Peer.{Machine, Open}
use Rattle.resolver_model_peer.specs.declared.effects.Effect.{Effect as Told}
use Rattle.resolver_model_peer.specs.declared.effects.Effect.TheVariants as told
use Rattle.resolver_peer_step.specs.declared.parts.Parts.{Parts}
use Rattle.resolver_peer_step.specs.Tied.{AreOwn, demand_of, fetcher_of, held_of, holds_of, open_of, same_id}

module _ {K S P : Type 0} where
  -- what a response earns its peer, once
  abbrev pub earned : (response : ℕ) → Source P → (accepted : Bool) → Option Outcome → List (Told K P S)
  earned response source false (Some (Resolved resolution)) = told.Credit response source ∷ []
  earned response source false (Some Invalid) = told.Block response source.peer ∷ []
  earned response source false (Some Unresolved) = []
  earned response source false (Some Ignored) = []
  earned response source false None = []
  earned response source true outcome = []

module _ {K P : Type 0} (o : Orders K P) where
  -- a useful response is an observation of its peer
  abbrev pub paid : Source P → (accepted : Bool) → Option Outcome → Fetcher K P → Fetcher K P
  paid source false (Some (Resolved resolution)) f = record_response o source.peer source.elapsed source.bytes f
  paid source false (Some Invalid) f = f
  paid source false (Some Unresolved) f = f
  paid source false (Some Ignored) f = f
  paid source false None f = f
  paid source true outcome f = f

-- This delivery is closed, and its key waits for the ruling: its entry has the response, and no number.
pub record IsClosed {K S P : Type 0} (a : Parties K S P) (e : Parts K P S) (m : Machine K S P) (h : Open K S P) : Type 0 where
  pub row : Row K S P
  pub judging : Judging P
  pub before : List (K × Row K S P)
  pub after : List (K × Row K S P)
  pub whole : m.rows ≡ before ++ (h.handed.key, row) ∷ after
  pub judged : row.phase ≡ Judged judging
  pub response : h.handed.response ≡ judging.response
  pub source : h.source ≡ judging.source
  pub accepted : h.accepted ≡ judging.accepted
  pub ordered : IsStrictlySortedBy a.key (keys_of m.rows)
  pub ids : IsDistinct same_id (keys_of (filter_map request_of m.rows))
  pub own_before : AreOwn m.deliveries before
  pub own_after : AreOwn m.deliveries after
  pub below : AllByRecursion (λ n. n < m.next_delivery) (keys_of m.deliveries)
  pub over : m.scan.expects ≡ None
  pub demand : e.demand ≡ demand_of m.rows
  pub entries : map (λ x. (x.0, held_of x.1)) e.entries.keys
      ≡ holds_of before ++ (h.handed.key, (None, Some (record { name = judging.response; value = judging.value; context = judging.source; accepted = judging.accepted }))) ∷ holds_of after
  pub deliveries : map (λ x. (x.0, open_of x.1)) e.entries.going ≡ m.deliveries
  pub next_delivery : e.entries.next ≡ m.next_delivery
  pub fetcher : e.fetcher ≡ fetcher_of a m
  pub serves : e.serves.entries ≡ m.serves
  pub next_serve : e.next_serve ≡ m.next_serve
  pub last_index : e.last_index ≡ m.last_index
  pub priority : e.priority_responses ≡ m.priority_responses

-- this was handed out, of a response that was accepted then or not
pub record Names {K S P : Type 0} (h : Open K S P) (delivery : Delivery K S) (accepted : Bool) : Type 0 where
  pub named : h.handed.key ≡ delivery.key
  pub handed : h.handed.subscribers ≡ delivery.subscribers
  pub flag : h.accepted ≡ accepted
