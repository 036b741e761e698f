-- What a caller's loop says of all inputs that its core took.
use Rattle.std.specs.Prelude.{◌≡◌, ◌≢◌, ◌≤◌, ◌<◌, ◌+◌, ℕ, Bool, false, List, [], ◌∷◌, ◌++◌, length, map, Result}
use Rattle.resolver_base.specs.declared.fault.Fault.{Fault}
use Rattle.resolver_types.specs.Demand.{all_pairs_of, IsSameDemand}
use Rattle.resolver_fetch_scan.specs.declared.config.Config.{Config}
use Rattle.resolver_fetch_scan.specs.FetcherLaws.{AllAre}
use Rattle.resolver_model.specs.Account.{pairs, nothing_asked, account_of}
use Rattle.resolver_model.specs.Steps.{stops}
use Rattle.resolver_model_peer.specs.Parties.{Parties, names_of}
use Rattle.resolver_model.specs.declared.status.Status.TheVariants.{Failed}
use Rattle.resolver_model_peer.specs.Peer.{Machine, Effect, opening, step}
use Rattle.resolver_model_peer.specs.PeerAccount.{account}
use Rattle.resolver_model_peer.specs.PeerAwake.{IsAwake}
use Rattle.resolver_model_peer.specs.PeerLaws.{AcceptsSend, AreWellAsked, EndsOrRetries, NeverGoBack, PaySenders, taken}
use Rattle.resolver_model_peer.specs.PeerRun.{Fed, after, all_effects, demanded}
use Rattle.resolver_model_peer.specs.declared.effects.Effect.{Effect as Told}
use Rattle.resolver_peer_step.specs.EngineSteps.{written_of}
use Rattle.resolver_peer_step.specs.Said.{Codec}
use Rattle.resolver_core.specs.EngineLaws.{HaveNewIds}
use Rattle.resolver_core.specs.Matching.{Engine, Matches}

module _ {K S P : Type 0} (a : Parties K S P) (c : Codec K) where
  -- A core was opened, took these inputs, and gave these answers. `machine` is what it is then, and `said` its answers without their bytes.
  pub record FedWell (configuration : Config P) (priority_responses : Bool) (inputs : List (Fed K S P)) (answers : List (Result (List (Told K P S)) Fault)) (core : Engine K S P) : Type 0 where
    pub machine : Machine K S P
    pub said : List (Result (List (Effect K S P)) Fault)
    pub matches : Matches a core machine
    pub written : answers ≡ map (written_of a c) said
    -- the rows have the demand of all inputs taken
    pub demand : machine.status ≢ Failed
        → IsSameDemand (names_of a) (all_pairs_of (demanded machine.rows)) (account_of (pairs (names_of a)) (nothing_asked (pairs (names_of a))) (taken inputs said)).demand
    -- each response earned at most one credit or block
    pub account_once : (response : ℕ) → length (account response (all_effects said)) ≤ 1
    -- which names its sender
    pub senders : PaySenders a [] inputs said
    -- each request went to an eligible peer
    pub eligible : AreWellAsked a (opening configuration priority_responses) inputs said
    -- under an id that no other held
    pub ids : HaveNewIds a (opening configuration priority_responses) inputs said
    -- the core is awake if the moments never went back
    pub awake : NeverGoBack 0 inputs → AllAre (λ answer. stops answer ≡ false) said → IsAwake a machine
    -- a key was asked for again only after it had no pair or was retried
    pub once : (before : List (Fed K S P)) (first : Fed K S P) (between : List (Fed K S P)) (second : Fed K S P) (rest : List (Fed K S P)) (key : K)
        → inputs ≡ before ++ first ∷ (between ++ second ∷ rest) → length before + length between + 1 < length said
        → let m = after a (opening configuration priority_responses) before in
        let sent = (step a m first.now first.input).1 in
        AcceptsSend a m first.input key → AcceptsSend a (after a sent between) second.input key → EndsOrRetries a sent between key
