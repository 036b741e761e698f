-- One map from each demanded key to its subscribers, its targets, its retries and its phase.
use Rattle.std.specs.Prelude.{ℕ, Bool, List, [], ◌∷◌, Option, None, Some, if◌then◌else◌}
use Rattle.resolver_fetch_scan.specs.declared.place.Place.{Place}
use Rattle.resolver_fetch_requests.specs.declared.requests.request.Request.{Request}
use Rattle.resolver_fetch_scan.specs.Waiting.{Waiting}
use Rattle.resolver_model_peer.specs.declared.named.Source.{Source}

-- a response at its consumer, under the number of the delivery in progress. `accepted`: it was judged Complete before
pub record Judging (P : Type 0) : Type 0 where
  pub number : ℕ
  pub response : ℕ
  pub source : Source P
  pub value : List ℕ
  pub accepted : Bool

-- what is being done for a demanded key
pub data Phase (K P : Type 0) : Type 0 where
  Waits : Place → Phase K P
  Asked : (id : ℕ) → Request K P → Phase K P
  Judged : Judging P → Phase K P

pub record Row (K S P : Type 0) : Type 0 where
  -- in their order, with their marks
  pub subscribers : List (S × ℕ)
  -- in the order in which they were added; none: any peer may be asked
  pub targets : Option (List P)
  pub retries : ℕ
  pub phase : Phase K P

-- with the value of the first entry whose key passes changed
abbrev pub change_entry : {K X : Type 0} → (K → Bool) → (X → X) → List (K × X) → List (K × X)
change_entry test f [] = []
change_entry test f (e ∷ es) = if test e.0 then (e.0, f e.1) ∷ es else e ∷ change_entry test f es

abbrev pub request_in : {K P : Type 0} → Phase K P → Option (ℕ × Request K P)
request_in (Asked id request) = Some (id, request)
request_in phase = None

module _ {K S P : Type 0} where
  abbrev pub waiting_in : K → Row K S P → Phase K P → Option (K × Waiting P)
  waiting_in key row (Waits place) = Some (key, record { place = place; retries = row.retries; targets = row.targets })
  waiting_in key row phase = None

  abbrev pub waiting_of : K × Row K S P → Option (K × Waiting P)
  waiting_of r = waiting_in r.0 r.1 r.1.phase

  abbrev pub request_of : K × Row K S P → Option (ℕ × Request K P)
  request_of r = request_in r.1.phase
