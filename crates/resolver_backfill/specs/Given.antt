-- What a plan asks for, on any demand, and that its calls keep to it.
use Rattle.std.specs.Prelude.{◌≡◌, ℕ, Bool, true, false, List, [], ◌∷◌, ◌++◌, Option, None, Some, map}
use Rattle.std.specs.List.{list_all, list_any}
use Rattle.resolver_types.specs.Names.{Names, same_subscriber}
use Rattle.resolver_types.specs.Subscribers.{is_among}
use Rattle.resolver_types.specs.Demand.{Act, Adds, Keeps, Pair, acts, without_named, IsSameDemand}
use Rattle.resolver_types.specs.declared.fetch.Fetch.{Fetch}
use Rattle.resolver_backfill.specs.Plans.{Plan, Without, fetched, fetches_of, keeps, let_go, let_go_below, settled, settled_below, wanting}

-- A call of a plan whose answer the resolver is told. `Forget` tells nothing: the key came, for these subscribers.
pub data Call (K S : Type 0) : Type 0 where
  Want : List K → Call K S
  Done : List K → Call K S
  DoneBelow : K → Call K S
  Forget : K → List (S × ℕ) → Call K S

module _ {K S : Type 0} where
  -- what a fetch asks for
  abbrev pub pair_of : Fetch K S → Pair K S
  pair_of fetch = record { key = fetch.key; subscriber = fetch.subscriber; mark = fetch.mark }

  -- a demand together with the plan's pairs, one for each wanted key
  abbrev pub given : Plan K S → List (Pair K S) → List (Pair K S)
  given plan d = d ++ map pair_of (fetches_of plan plan.wanted)

  -- one fetch, or no message
  abbrev pub fetch_told : List (Fetch K S) → List (Act K S)
  fetch_told [] = []
  fetch_told (fetch ∷ fetches) = Adds (map pair_of (fetch ∷ fetches)) ∷ []

module _ {K S : Type 0} (n : Names K S) where
  -- one retain, or no message
  abbrev pub retain_told : Option (Without K S) → List (Act K S)
  retain_told None = []
  retain_told (Some without) = Keeps (keeps n without) ∷ []

  -- a demand has no pair of this subscriber
  abbrev pub Lacks : S → List (Pair K S) → Type 0
  Lacks subscriber d = list_any (λ p. same_subscriber n subscriber p.subscriber) d ≡ false

  -- On every demand that lacks the subscriber, the messages turn what one plan gives into what the other gives.
  abbrev pub Turns : Plan K S → List (Act K S) → Plan K S → Type 0
  Turns was messages now = (d : List (Pair K S)) → Lacks was.subscriber d → IsSameDemand n (acts n messages (given was d)) (given now d)

  -- Asking again for all that is wanted changes nothing, and restores the plan's pairs where they were lost.
  abbrev pub Restores : Plan K S → List (Fetch K S) → Type 0
  Restores plan fetches = (d : List (Pair K S))
      → IsSameDemand n (acts n (fetch_told fetches) d) (given plan d)
      × IsSameDemand n (acts n (fetch_told fetches) (given plan d)) (given plan d)

  -- the plan after a call
  abbrev pub called : Plan K S → Call K S → Plan K S
  called plan (Want keys) = wanting n.key plan keys
  called plan (Done keys) = settled n.key plan keys
  called plan (DoneBelow bound) = settled_below n.key plan bound
  called plan (Forget key named) = settled n.key plan (key ∷ [])

  -- a demand after a call: what it answers is told; a key that came retired the pairs of those whom it came for
  abbrev pub turned : Plan K S → Call K S → List (Pair K S) → List (Pair K S)
  turned plan (Want keys) d = acts n (fetch_told (fetched n.key plan keys)) d
  turned plan (Done keys) d = acts n (retain_told (let_go n.key plan keys)) d
  turned plan (DoneBelow bound) d = acts n (retain_told (let_go_below n.key plan bound)) d
  turned plan (Forget key named) d = without_named n key named d

  -- and the pairs of others after it
  abbrev pub others : Call K S → List (Pair K S) → List (Pair K S)
  others (Want keys) d = d
  others (Done keys) d = d
  others (DoneBelow bound) d = d
  others (Forget key named) d = without_named n key named d

  -- a key is forgotten where it came for the plan's subscriber
  abbrev pub is_due : S → Call K S → Bool
  is_due subscriber (Want keys) = true
  is_due subscriber (Done keys) = true
  is_due subscriber (DoneBelow bound) = true
  is_due subscriber (Forget key named) = is_among n.subscriber named subscriber

  -- the same of some calls, in turn
  abbrev pub called_all : Plan K S → List (Call K S) → Plan K S
  called_all plan [] = plan
  called_all plan (call ∷ calls) = called_all (called plan call) calls

  abbrev pub turned_all : Plan K S → List (Call K S) → List (Pair K S) → List (Pair K S)
  turned_all plan [] d = d
  turned_all plan (call ∷ calls) d = turned_all (called plan call) calls (turned plan call d)

  abbrev pub others_all : List (Call K S) → List (Pair K S) → List (Pair K S)
  others_all [] d = d
  others_all (call ∷ calls) d = others_all calls (others call d)

  -- After some calls, a demand that had the plan's pairs has those of the plan as it is then, and of others what they have then.
  abbrev pub KeepsGiven : Plan K S → List (Call K S) → Type 0
  KeepsGiven plan calls = (d : List (Pair K S)) → Lacks plan.subscriber d → list_all (is_due plan.subscriber) calls ≡ true
      → IsSameDemand n (turned_all plan calls (given plan d)) (given (called_all plan calls) (others_all calls d))
