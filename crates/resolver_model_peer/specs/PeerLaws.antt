-- Laws of the peer machine.
use Rattle.std.specs.Prelude.{◌≡◌, ◌≢◌, ℕ, ◌<◌, ◌≤◌, Bool, true, ◌==◌, List, [], ◌∷◌, ◌++◌, Some, filter_map, length, Result, Ok, Err, ⊤, ◌⊎◌, ◌+◌, ◌^◌, false, None}
use Rattle.std.specs.Map.{lookup}
use Rattle.std.specs.Ordering.{is_eq}
use Rattle.resolver_base.specs.declared.fault.Fault.{Fault}
use Rattle.resolver_types.specs.Demand.{all_pairs_of, IsSameDemand}
use Rattle.resolver_fetch_scan.specs.declared.config.Config.{Config}
use Rattle.resolver_fetch_scan.specs.declared.place.Place.{Place}
use Rattle.resolver_fetch_scan.specs.declared.scan.Ask.TheVariants as asks
use Rattle.resolver_fetch_requests.specs.Ids.{is_held}
use Rattle.resolver_fetch_scan.specs.declared.scan.Answer.TheVariants.{Sent}
use Rattle.resolver_fetch_scan.specs.Waiting.{once_more, retry_at}
use Rattle.resolver_fetch_scan.specs.EligibleLaws.{MayBeAsked}
use Rattle.resolver_fetch_scan.specs.FetcherLaws.{AllAre, IsAmong, IsOnce}
use Rattle.resolver_model.specs.Account.{Change, Handed, pairs, nothing_asked, account_of}
use Rattle.resolver_model.specs.Lawful.{Each, IsLawful}
use Rattle.resolver_model_peer.specs.Parties.{Parties, names_of, orders_of}
use Rattle.resolver_model.specs.declared.status.Status.TheVariants.{Failed, Running}
use Rattle.resolver_model_peer.specs.Peer.{Machine, Effect, Ask, Deliver, Credit, Block, Input, Happens, Net, opening, snapshot, step, Answers, is_key, question, row_of}
use Rattle.resolver_model_peer.specs.PeerRun.{Fed, answers, after, effects_of, all_effects, change_of, delivery_in, demanded}
use Rattle.resolver_model_peer.specs.PeerSteps.{Runs}
use Rattle.resolver_model_peer.specs.PeerRows.{Row, Waits}
use Rattle.resolver_model_peer.specs.PeerAccount.{account}
use Rattle.resolver_model_peer.specs.PeerAwake.{IsAwake}

-- The moments of the inputs never go back, from this one on.
abbrev pub NeverGoBack : {K S P : Type 0} → (moment : ℕ) → List (Fed K S P) → Type 0
NeverGoBack moment [] = ⊤
NeverGoBack moment (i ∷ is) = (moment ≤ i.now) × NeverGoBack i.now is

module _ {K S P : Type 0} (a : Parties K S P) where
  -- each response earns at most one credit or one block
  abbrev pub EarnsOnce : Type 0
  EarnsOnce = (configuration : Config P) (replies_first : Bool) (inputs : List (Fed K S P)) (response : ℕ)
      → length (account response (all_effects (answers a (opening configuration replies_first) inputs))) ≤ 1

  -- the key waits, and the peer is in the latest set, not local, not blocked, below the limit, and among the key's targets, where there are such
  abbrev pub IsEligibleFor : Machine K S P → K → P → Type 0
  IsEligibleFor m key peer =
      (row : Row K S P) × IsAmong (key, row) m.rows × ((place : Place) × (row.phase ≡ Waits place)) × MayBeAsked (orders_of a) (snapshot a m) row.targets peer

  -- a request goes to a peer that is eligible for its key
  abbrev pub IsWellAsked : Machine K S P → Effect K S P → Type 0
  IsWellAsked m (Ask (asks.Request peer id key priority)) = IsEligibleFor m key peer
  IsWellAsked m effect = ⊤

  -- so is each request of a step, in a run
  abbrev pub AsksEligible : Type 0
  AsksEligible = (configuration : Config P) (replies_first : Bool) (inputs : List (Fed K S P)) (now : ℕ) (input : Input K S P)
      → let answer = step a (after a (opening configuration replies_first) inputs) now input in
      AllAre (IsWellAsked answer.1) (effects_of answer.0)

  -- in no scan of a run a peer is tried twice for a key
  abbrev pub TriesOnce : Type 0
  TriesOnce = (configuration : Config P) (replies_first : Bool) (inputs : List (Fed K S P)) → IsOnce (orders_of a) (after a (opening configuration replies_first) inputs).scan.trail

module _ {K S P : Type 0} where
  -- the inputs that were taken, with what each handed out
  abbrev pub taken : List (Fed K S P) → List (Result (List (Effect K S P)) Fault) → List (Change K S × List (ℕ × Handed K S))
  taken (fed ∷ inputs) (Ok effects ∷ answers) = (change_of fed.input, filter_map delivery_in effects) ∷ taken inputs answers
  taken (fed ∷ inputs) (Err fault ∷ answers) = taken inputs answers
  taken inputs answers = []

module _ {K S P : Type 0} (a : Parties K S P) where
  -- Of a run from the opening state that did not fail, the rows have the pairs that were fetched and not since retired, by the inputs taken alone.
  abbrev pub KeepsDemand : (old : Machine K S P) → List (Fed K S P) → List (Result (List (Effect K S P)) Fault) → (new : Machine K S P) → Type 0
  KeepsDemand old inputs answers new =
      (configuration : Config P) (priority_responses : Bool) → old ≡ opening configuration priority_responses → new.status ≢ Failed
      → IsSameDemand (names_of a) (all_pairs_of (demanded new.rows)) (account_of (pairs (names_of a)) (nothing_asked (pairs (names_of a))) (taken inputs answers)).demand

  -- inputs as their types have them
  abbrev pub AllLawful : List (Fed K S P) → Type 0
  AllLawful inputs = Each (λ fed. IsLawful (names_of a) (change_of fed.input)) inputs

  -- each run of lawful inputs keeps the demand
  abbrev pub DemandIsKept : Type 0
  DemandIsKept = (old : Machine K S P) (inputs : List (Fed K S P)) (answers : List (Result (List (Effect K S P)) Fault)) (new : Machine K S P)
      → AllLawful inputs → Runs a old inputs answers new → KeepsDemand old inputs answers new

  -- Of a run from the opening state, each response earns at most one credit or one block, also where the run failed.
  abbrev pub PaysOnce : (old : Machine K S P) → List (Result (List (Effect K S P)) Fault) → Type 0
  PaysOnce old answers =
      (configuration : Config P) (priority_responses : Bool) → old ≡ opening configuration priority_responses
      → (response : ℕ) → length (account response (all_effects answers)) ≤ 1

  -- each run pays once
  abbrev pub IsPaidOnce : Type 0
  IsPaidOnce = (old : Machine K S P) (inputs : List (Fed K S P)) (answers : List (Result (List (Effect K S P)) Fault)) (new : Machine K S P)
      → Runs a old inputs answers new → PaysOnce old answers

  -- so is each request among these answers to the inputs, by the machine after its step
  abbrev pub AreWellAsked : Machine K S P → List (Fed K S P) → List (Result (List (Effect K S P)) Fault) → Type 0
  AreWellAsked m (fed ∷ inputs) (answer ∷ answers) =
      let n = (step a m fed.now fed.input).1 in AllAre (IsWellAsked a n) (effects_of answer) × AreWellAsked n inputs answers
  AreWellAsked m inputs answers = ⊤

  -- Of a run from the opening state, requests go to eligible peers alone, and no scan tried a peer twice for a key.
  abbrev pub AsksWell : (old : Machine K S P) → List (Fed K S P) → List (Result (List (Effect K S P)) Fault) → (new : Machine K S P) → Type 0
  AsksWell old inputs answers new =
      (configuration : Config P) (priority_responses : Bool) → old ≡ opening configuration priority_responses
      → AreWellAsked old inputs answers × (new.status ≢ Failed → IsOnce (orders_of a) new.scan.trail)

  -- each run asks well
  abbrev pub IsWellAskedThroughout : Type 0
  IsWellAskedThroughout = (old : Machine K S P) (inputs : List (Fed K S P)) (answers : List (Result (List (Effect K S P)) Fault)) (new : Machine K S P)
      → Runs a old inputs answers new → AsksWell old inputs answers new

module _ {K S P : Type 0} where
  -- the responses that this peer's message brought. A response goes by the number of its first delivery
  abbrev pub brought : P → List (Effect K S P) → List (ℕ × P)
  brought peer [] = []
  brought peer (Deliver number handed value ∷ effects) = (number, peer) ∷ brought peer effects
  brought peer (effect ∷ effects) = brought peer effects

  -- the responses that an input brought, and who sent them
  abbrev pub senders_in : Input K S P → List (Effect K S P) → List (ℕ × P)
  senders_in (Happens (Net peer message)) effects = brought peer effects
  senders_in input effects = []

module _ {K S P : Type 0} (a : Parties K S P) where
  -- the message of this peer brought the response
  abbrev pub IsFrom : (senders : List (ℕ × P)) → (response : ℕ) → P → Type 0
  IsFrom senders response peer = (sender : P) × (lookup (λ r. response == r) senders ≡ Some sender) × (is_eq (a.peer sender peer) ≡ true)

  abbrev pub PaysSender : (senders : List (ℕ × P)) → Effect K S P → Type 0
  PaysSender senders (Credit response source) = IsFrom senders response source.peer
  PaysSender senders (Block response peer) = IsFrom senders response peer
  PaysSender senders effect = ⊤

  -- so does each credit and each block among these answers, by what was brought before
  abbrev pub PaySenders : (senders : List (ℕ × P)) → List (Fed K S P) → List (Result (List (Effect K S P)) Fault) → Type 0
  PaySenders senders (fed ∷ inputs) (Ok effects ∷ answers) = AllAre (PaysSender senders) effects × PaySenders (senders ++ senders_in fed.input effects) inputs answers
  PaySenders senders (fed ∷ inputs) (Err fault ∷ answers) = PaySenders senders inputs answers
  PaySenders senders inputs answers = ⊤

  -- Of a run from the opening state, credits and blocks name the peer whose message the response was, as peers compare.
  abbrev pub PaysRightly : (old : Machine K S P) → List (Fed K S P) → List (Result (List (Effect K S P)) Fault) → Type 0
  PaysRightly old inputs answers = (configuration : Config P) (priority_responses : Bool) → old ≡ opening configuration priority_responses → PaySenders [] inputs answers

  -- each run pays the senders
  abbrev pub IsPaidToSenders : Type 0
  IsPaidToSenders = (old : Machine K S P) (inputs : List (Fed K S P)) (answers : List (Result (List (Effect K S P)) Fault)) (new : Machine K S P)
      → Runs a old inputs answers new → PaysRightly old inputs answers

  -- the id of a request is held by none that was sent and has no answer so far
  abbrev pub HasNewId : Machine K S P → Effect K S P → Type 0
  HasNewId m (Ask (asks.Request peer id key priority)) = is_held (snapshot a m).asked id ≡ false
  HasNewId m effect = ⊤

  -- so is each id of a step, in a run, while ids are left
  abbrev pub IdsAreNew : Type 0
  IdsAreNew = (configuration : Config P) (replies_first : Bool) (inputs : List (Fed K S P)) (now : ℕ) (input : Input K S P)
      → let answer = step a (after a (opening configuration replies_first) inputs) now input in
      length (snapshot a answer.1).asked < 2 ^ 64 → AllAre (HasNewId answer.1) (effects_of answer.0)

  -- A machine is awake where it begins, and stays so while the moments don't go back.
  pub record StaysAwake : Type 0 where
    pub at_first : (configuration : Config P) (replies_first : Bool) → IsAwake a (opening configuration replies_first)
    pub later : (m : Machine K S P) (inputs : List (Fed K S P)) → IsAwake a m → NeverGoBack m.moment inputs → IsAwake a (after a m inputs)

  -- a request for the key is sent and accepted at this input
  abbrev pub AcceptsSend : Machine K S P → Input K S P → K → Type 0
  AcceptsSend m input key =
      (peer : P) × (id : ℕ) × (k : K) × (priority : Bool) × (question a m ≡ Some (asks.Request peer id k priority)) × (is_key a k key ≡ true)
      × (m.status ≡ Running) × (input ≡ Answers (Sent true))

  -- from one machine to the next the key is retried: its count goes up, and it waits until the delay is over
  abbrev pub IsRetried : (old : Machine K S P) → (now : ℕ) → K → (new : Machine K S P) → Type 0
  IsRetried old now key new = (row : Row K S P) × (row_of a old key ≡ Some row)
      × (row_of a new key ≡ Some (record row { retries = once_more row.retries; phase = Waits (retry_at (now + old.configuration.retry_delay)) }))

  -- after one of the inputs the key has no pair, or was retried at it
  abbrev pub EndsOrRetries : Machine K S P → List (Fed K S P) → K → Type 0
  EndsOrRetries m [] key = ⊥
  EndsOrRetries m (i ∷ is) key =
      let next = (step a m i.now i.input).1 in
      (row_of a next key ≡ None) ⊎ (IsRetried m i.now key next ⊎ EndsOrRetries next is key)

  -- Between two accepted sends for one key, in a run, it has no pair once, or is retried.
  abbrev pub AskedOnce : Type 0
  AskedOnce = (configuration : Config P) (replies_first : Bool) (before : List (Fed K S P)) (first : Fed K S P) (between : List (Fed K S P)) (second : Input K S P) (key : K)
      → let m = after a (opening configuration replies_first) before in
      let sent = (step a m first.now first.input).1 in
      AcceptsSend m first.input key → AcceptsSend (after a sent between) second key → EndsOrRetries sent between key
