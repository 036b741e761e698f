-- What the engine's core is of a peer machine.
use Rattle.std.specs.Prelude.{◌≡◌, ℕ, Bool, true, false, List, map, Option}
use Rattle.resolver_base.specs.declared.fault.Fault.{Fault}
use Rattle.resolver_base.specs.declared.fault.Fault.TheVariants as faults
use Rattle.resolver_delivery.specs.Entries.{Numbered}
use Rattle.resolver_fetch_scan.specs.Fetcher.{Fetcher}
use Rattle.resolver_model_peer.specs.declared.named.Serve.{Serve}
use Rattle.resolver_model_peer.specs.declared.named.Source.{Source}
use Rattle.resolver_model_peer.specs.Parties.{Parties}
use Rattle.resolver_model.specs.declared.status.Status.{Status}
use Rattle.resolver_model.specs.declared.status.Status.TheVariants.{Failed}
use Rattle.resolver_model_peer.specs.Peer.{Machine}
use Rattle.resolver_peer_step.specs.declared.parts.Parts.{Parts}
use Rattle.resolver_peer_step.specs.Going.{IsTied}
use Rattle.resolver_peer_step.specs.Tied.{IsSound, demand_of, fetcher_of, held_of, holds_of, open_of}

-- what the parts hold, as contracts see it
pub record Held (K S P : Type 0) : Type 0 where
  pub demand : List (K × List (S × ℕ))
  pub entries : Numbered K S (List ℕ) (Source P) ℕ
  pub fetcher : Fetcher K P
  pub serves : List (ℕ × Serve P)
  pub next_serve : ℕ
  pub last_index : Option ℕ
  pub priority_responses : Bool

abbrev pub held_by : {K S P : Type 0} → Parts K P S → Held K S P
held_by e = record {
  demand = e.demand;
  entries = e.entries;
  fetcher = e.fetcher;
  serves = e.serves.entries;
  next_serve = e.next_serve;
  last_index = e.last_index;
  priority_responses = e.priority_responses;
}

-- what contracts see of the core
pub record Engine (K S P : Type 0) : Type 0 where
  pub held : Held K S P
  pub status : Status

-- of an engine that has failed nothing else is known
abbrev pub UnlessFailed : Status → Type 0 → Type 0
UnlessFailed Failed known = Unit {0}
UnlessFailed status known = known

module _ {K S P : Type 0} (a : Parties K S P) where
  -- what the parts hold is the machine's
  pub record IsOf (h : Held K S P) (m : Machine K S P) : Type 0 where
    pub sound : IsSound a m
    pub demand : h.demand ≡ demand_of m.rows
    pub entries : map (λ x. (x.0, held_of x.1)) h.entries.keys ≡ holds_of m.rows
    pub deliveries : map (λ x. (x.0, open_of x.1)) h.entries.going ≡ m.deliveries
    pub next_delivery : h.entries.next ≡ m.next_delivery
    pub fetcher : h.fetcher ≡ fetcher_of a m
    pub serves : h.serves ≡ m.serves
    pub next_serve : h.next_serve ≡ m.next_serve
    pub last_index : h.last_index ≡ m.last_index
    pub priority : h.priority_responses ≡ m.priority_responses

  -- the status is the machine's, and so is all else unless it has failed
  pub record Matches (e : Engine K S P) (m : Machine K S P) : Type 0 where
    pub status : e.status ≡ m.status
    pub held : UnlessFailed e.status (IsOf e.held m)

  -- some machine agrees with the parts, unless the engine has failed
  abbrev pub IsTiedUnlessFailed : Status → Parts K P S → Type 0
  IsTiedUnlessFailed status parts = UnlessFailed status (IsTied a parts)

-- whether a refusal fails the engine for good
abbrev pub is_final : Fault → Bool
is_final faults.OutOfMemory = true
is_final faults.Exhausted = true
is_final fault = false
