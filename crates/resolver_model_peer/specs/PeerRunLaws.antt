-- Laws of the peer machine's runs, where memory may be wanting at any step.
use Rattle.std.specs.Prelude.{◌≡◌, ◌<◌, ◌^◌, Bool, false, List, [], ◌∷◌, length, Result, ⊤}
use Rattle.resolver_base.specs.declared.fault.Fault.{Fault}
use Rattle.resolver_fetch_scan.specs.declared.config.Config.{Config}
use Rattle.resolver_fetch_scan.specs.FetcherLaws.{AllAre}
use Rattle.resolver_model_peer.specs.Parties.{Parties}
use Rattle.resolver_model.specs.Steps as steps
use Rattle.resolver_model.specs.Steps.{stops}
use Rattle.resolver_model.specs.declared.status.Status.TheVariants.{Failed}
use Rattle.resolver_model_peer.specs.Peer.{Machine, Effect, opening, snapshot, step}
use Rattle.resolver_model_peer.specs.PeerRun.{Fed, effects_of}
use Rattle.resolver_model_peer.specs.PeerAwake.{IsAwake}
use Rattle.resolver_model_peer.specs.PeerLaws.{HasNewId, NeverGoBack}

module _ {K S P : Type 0} (a : Parties K S P) where
  abbrev pub step_on : Machine K S P → Fed K S P → Result (List (Effect K S P)) Fault × Machine K S P
  step_on m i = step a m i.now i.input

  -- a run in which memory may be wanting at any step
  abbrev pub AnyRun : (old : Machine K S P) → List (Fed K S P) → List (Result (List (Effect K S P)) Fault) → (new : Machine K S P) → Type 0
  AnyRun = steps.Runs step_on (λ m i. ⊤) (λ m. m.status ≡ Failed)

  -- where neither memory nor numbers are wanting an awake machine stays awake
  abbrev pub KeepsAwake : (old : Machine K S P) → List (Fed K S P) → List (Result (List (Effect K S P)) Fault) → (new : Machine K S P) → Type 0
  KeepsAwake old inputs answers new = IsAwake a old → NeverGoBack old.moment inputs → AllAre (λ answer. stops answer ≡ false) answers → IsAwake a new

  -- each request has a new id, while ids are left
  abbrev pub AsksNew : (old : Machine K S P) → List (Fed K S P) → List (Result (List (Effect K S P)) Fault) → Type 0
  AsksNew old [] answers = ⊤
  AsksNew old (i ∷ is) [] = ⊤
  AsksNew old (i ∷ is) (answer ∷ answers) =
      let next = (step_on old i).1 in
      (length (snapshot a next).asked < 2 ^ 64 → AllAre (HasNewId a next) (effects_of answer)) × AsksNew next is answers

  -- what holds of each such run
  pub record RunLaws : Type 0 where
    pub awake : (old : Machine K S P) (inputs : List (Fed K S P)) (answers : List (Result (List (Effect K S P)) Fault)) (new : Machine K S P)
        → AnyRun old inputs answers new → KeepsAwake old inputs answers new
    pub ids : (configuration : Config P) (replies_first : Bool) (inputs : List (Fed K S P)) (answers : List (Result (List (Effect K S P)) Fault)) (new : Machine K S P)
        → AnyRun (opening configuration replies_first) inputs answers new → AsksNew (opening configuration replies_first) inputs answers
