-- Steps and runs of an engine: those of the peer machine, with the bytes of its messages.
use Rattle.std.specs.Prelude.{◌≡◌, ℕ, Bool, false, ◌++◌, List, [], ◌∷◌, map, Result, Ok, Err}
use Rattle.resolver_base.specs.declared.fault.Fault.{Fault}
use Rattle.resolver_base.specs.declared.fault.Fault.TheVariants as faults
use Rattle.resolver_fetch_scan.specs.Scan.{is_over}
use Rattle.resolver_model.specs.Steps as steps
use Rattle.resolver_model_peer.specs.Parties.{Parties}
use Rattle.resolver_model.specs.declared.status.Status.TheVariants.{Failed}
use Rattle.resolver_model_peer.specs.Peer.{Machine, Effect, step_running}
use Rattle.resolver_model_peer.specs.PeerRun.{Fed}
use Rattle.resolver_model_peer.specs.PeerSteps.{MayWant, is_refused, step_on, takes_no_memory}
use Rattle.resolver_model_peer.specs.declared.effects.Effect.{Effect as Told}
use Rattle.resolver_model_peer.specs.declared.inputs.Input.{Input as CodeInput}
use Rattle.resolver_model_peer.specs.declared.inputs.Input.TheVariants as inputs
use Rattle.resolver_peer_step.specs.declared.parts.Parts.{Parts}
use Rattle.resolver_peer_step.specs.Said.{Codec, fed_of, written}
use Rattle.resolver_peer_step.specs.Tied.{Agrees}

module _ {K S P : Type 0} (a : Parties K S P) where
  -- what a machine that runs makes of an input
  abbrev pub running : Machine K S P → Fed K S P → Result (List (Effect K S P)) Fault × Machine K S P
  running m fed = step_running a (is_over m.scan) m fed.now fed.input

module _ {K S P : Type 0} (a : Parties K S P) (c : Codec K) where
  -- an answer with the bytes of its messages
  abbrev pub written_of : Result (List (Effect K S P)) Fault → Result (List (Told K P S)) Fault
  written_of (Ok effects) = Ok (map (written c) effects)
  written_of (Err fault) = Err fault

  abbrev pub step_written : Machine K S P → Fed K S P → Result (List (Told K P S)) Fault × Machine K S P
  step_written m fed = (written_of (step_on a m fed).0, (step_on a m fed).1)

  abbrev pub Takes : (old : Machine K S P) → Fed K S P → Result (List (Told K P S)) Fault → (new : Machine K S P) → Type 0
  Takes = steps.Takes step_written (MayWant a) (λ m. m.status ≡ Failed)

  abbrev pub Runs : (old : Machine K S P) → List (Fed K S P) → List (Result (List (Told K P S)) Fault) → (new : Machine K S P) → Type 0
  Runs = steps.Runs step_written (MayWant a) (λ m. m.status ≡ Failed)

  -- the machine told this, and the parts are what it is then
  pub record Stepped (m : Machine K S P) (fed : Fed K S P) (before after : List (Told K P S)) (e : Parts K P S) : Type 0 where
    pub effects : List (Effect K S P)
    pub machine : Machine K S P
    pub is : running a m fed ≡ (Ok effects, machine)
    pub told : after ≡ before ++ map (written c) effects
    pub agrees : Agrees a e machine

  -- What an input does to the parts, and to the effects. What is refused changes nothing.
  abbrev pub Taken : Machine K S P → Fed K S P → (before after : List (Told K P S)) → Parts K P S → Result (Unit {0}) Fault → Type 0
  Taken m fed before after e (Ok _) = Stepped m fed before after e
  Taken m fed before after e (Err faults.OutOfMemory) = (is_refused a m fed.input ≡ false) × (takes_no_memory a m fed.now fed.input ≡ false)
  Taken m fed before after e (Err faults.Exhausted) = (running a m fed).0 ≡ Err faults.Exhausted
  Taken m fed before after e (Err fault) = (running a m fed ≡ (Err fault, m)) × (after ≡ before) × Agrees a e m

module _ {K P S Q : Type 0} (c : Codec K) (keeps : Q → K → S → Bool) where
  -- the moment of the last event, once this input was taken
  abbrev pub later : (moment : ℕ) → CodeInput K P S Q → ℕ
  later moment (inputs.Happens happening) = happening.now
  later moment (inputs.Answers answer) = moment

  -- inputs one after another: an answer has the moment of the event before it, or else this one
  abbrev pub all_fed : (moment : ℕ) → List (CodeInput K P S Q) → List (Fed K S P)
  all_fed moment [] = []
  all_fed moment (input ∷ inputs) = fed_of c keeps moment input ∷ all_fed (later moment input) inputs
