-- What holds of every run of an engine, in the words of its machine.
use Rattle.std.specs.Prelude.{◌≡◌, ◌<◌, ◌+◌, Bool, List, ◌∷◌, ◌++◌, length, map, Result, ⊤}
use Rattle.resolver_base.specs.declared.fault.Fault.{Fault}
use Rattle.resolver_fetch_scan.specs.declared.config.Config.{Config}
use Rattle.resolver_fetch_scan.specs.FetcherLaws.{AllAre}
use Rattle.resolver_model.specs.Steps as steps
use Rattle.resolver_model_peer.specs.Parties.{Parties}
use Rattle.resolver_model.specs.declared.status.Status.TheVariants.{Failed}
use Rattle.resolver_model_peer.specs.Peer.{Machine, Effect, opening, step}
use Rattle.resolver_model_peer.specs.PeerRun.{Fed, after, effects_of}
use Rattle.resolver_model_peer.specs.PeerSteps as machines
use Rattle.resolver_model_peer.specs.PeerSteps.{MayWant, step_on}
use Rattle.resolver_model_peer.specs.PeerLaws.{AcceptsSend, AsksWell, EndsOrRetries, HasNewId, KeepsDemand, PaysOnce, PaysRightly}
use Rattle.resolver_model_peer.specs.PeerRunLaws.{KeepsAwake}
use Rattle.resolver_model_peer.specs.declared.effects.Effect.{Effect as Told}
use Rattle.resolver_peer_step.specs.EngineSteps.{Runs, step_written, written_of}
use Rattle.resolver_core.specs.Matching.{Engine, Matches}
use Rattle.resolver_peer_step.specs.Said.{Codec}

module _ {K S P : Type 0} (a : Parties K S P) where
  -- each request among these answers has an id that no request without an answer holds
  abbrev pub HaveNewIds : Machine K S P → List (Fed K S P) → List (Result (List (Effect K S P)) Fault) → Type 0
  HaveNewIds m (fed ∷ inputs) (answer ∷ answers) =
      let n = (step_on a m fed).1 in AllAre (HasNewId a n) (effects_of answer) × HaveNewIds n inputs answers
  HaveNewIds m inputs answers = ⊤

  -- Of a run from the opening state: between two of its inputs at which a send for one key is accepted, the key has no pair once, or is retried.
  abbrev pub AsksOnce : (old : Machine K S P) → List (Fed K S P) → List (Result (List (Effect K S P)) Fault) → Type 0
  AsksOnce old inputs answers =
      (configuration : Config P) (priority_responses : Bool) → old ≡ opening configuration priority_responses
      → (before : List (Fed K S P)) (first : Fed K S P) (between : List (Fed K S P)) (second : Fed K S P) (rest : List (Fed K S P)) (key : K)
      → inputs ≡ before ++ first ∷ (between ++ second ∷ rest) → length before + length between + 1 < length answers
      → let m = after a old before in
      let sent = (step a m first.now first.input).1 in
      AcceptsSend a m first.input key → AcceptsSend a (after a sent between) second.input key → EndsOrRetries a sent between key

module _ {K S P : Type 0} (a : Parties K S P) (c : Codec K) where
  -- Answers with the bytes of their messages are a machine's own answers, written so.
  pub record AreSaid (old : Machine K S P) (inputs : List (Fed K S P)) (answers : List (Result (List (Told K P S)) Fault)) (new : Machine K S P) : Type 0 where
    pub said : List (Result (List (Effect K S P)) Fault)
    pub written : answers ≡ map (written_of a c) said
    pub runs : machines.Runs a old inputs said new

  -- so are those of each run of an engine
  abbrev pub RunsAreSaid : Type 0
  RunsAreSaid = (old : Machine K S P) (inputs : List (Fed K S P)) (answers : List (Result (List (Told K P S)) Fault)) (new : Machine K S P)
      → Runs a c old inputs answers new → AreSaid old inputs answers new

  -- runs of an engine go on
  abbrev pub EngineRunsJoin : Type 0
  EngineRunsJoin = steps.RunsJoin (step_written a c) (MayWant a) (λ m. m.status ≡ Failed)

  -- The engine's answers are a machine's, whose run is as good as every run of it.
  pub record RunsWell (old : Machine K S P) (inputs : List (Fed K S P)) (answers : List (Result (List (Told K P S)) Fault)) (new : Engine K S P) : Type 0 where
    pub machine : Machine K S P
    pub said : List (Result (List (Effect K S P)) Fault)
    pub written : answers ≡ map (written_of a c) said
    pub runs : machines.Runs a old inputs said machine
    pub matches : Matches a new machine
    -- the rows have the pairs that were fetched and not since retired
    pub demand : KeepsDemand a old inputs said machine
    -- a response earns at most one credit or one block
    pub account : PaysOnce a old said
    -- which names the peer whose message it was
    pub senders : PaysRightly a old inputs said
    -- requests go to eligible peers alone
    pub eligible : AsksWell a old inputs said machine
    -- under ids that no request without an answer holds
    pub ids : HaveNewIds a old inputs said
    -- no due key is left behind a wake-up
    pub awake : KeepsAwake a old inputs said machine
    -- a key that was asked for is not asked for again before it has no pair or is retried
    pub once : AsksOnce a old inputs said
