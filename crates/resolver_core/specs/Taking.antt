-- What a core took, call by call, from a machine that it matched.
use Rattle.std.specs.Prelude.{◌≡◌, ℕ, Bool, true, false, List, [], ◌∷◌, ◌++◌, map, Result}
use Rattle.std.specs.List.{list_any}
use Rattle.std.specs.declared.vec.Vec.{Vec}
use Rattle.std.specs.declared.alloc.Global.{Global}
use Rattle.resolver_base.specs.declared.fault.Fault.{Fault}
use Rattle.resolver_model.specs.Steps.{stops}
use Rattle.resolver_model_peer.specs.Parties.{Parties}
use Rattle.resolver_model_peer.specs.Peer.{Machine, Effect}
use Rattle.resolver_model_peer.specs.PeerSteps as machines
use Rattle.resolver_model_peer.specs.declared.effects.Effect.{Effect as Told}
use Rattle.resolver_model_peer.specs.declared.inputs.Input.{Input as CodeInput}
use Rattle.resolver_peer_step.specs.EngineSteps.{Takes, all_fed, later, written_of}
use Rattle.resolver_peer_step.specs.Said.{Codec, answer_of, fed_of}
use Rattle.resolver_core.specs.EngineLaws.{HaveNewIds, RunsWell}
use Rattle.resolver_core.specs.Matching.{Engine, Matches}

-- a core's answers
abbrev pub Answers : (K P S : Type 0) → Type 0
Answers K P S = List (Result (Vec (Told K P S) Global) Fault)

module _ {K P S Q : Type 0} (c : Codec K) (keeps : Q → K → S → Bool) where
  -- the moment of the last event among these inputs, or else this one
  abbrev pub latest : (moment : ℕ) → List (CodeInput K P S Q) → ℕ
  latest moment [] = moment
  latest moment (input ∷ inputs) = latest (later c keeps moment input) inputs

module _ {K P S Q : Type 0} (a : Parties K S P) (c : Codec K) (keeps : Q → K → S → Bool) where
  -- From this machine a core took the inputs, with these answers: a run of the machine, bytes included. It matches the machine that came of it.
  pub record Took (m : Machine K S P) (moment : ℕ) (inputs : List (CodeInput K P S Q)) (answers : Answers K P S) (e : Engine K S P) : Type 0 where
    pub machine : Machine K S P
    pub said : List (Result (List (Effect K S P)) Fault)
    pub written : map answer_of answers ≡ map (written_of a c) said
    pub runs : machines.Runs a m (all_fed c keeps moment inputs) said machine
    pub matches : Matches a e machine
    pub ids : HaveNewIds a m (all_fed c keeps moment inputs) said

  -- Whoever steps a core, or has it run, in any number of calls, has a run of each machine that it matched.
  pub record CoresTake : Type 0 where
    -- no input so far
    pub none : (m : Machine K S P) (moment : ℕ) (e : Engine K S P) → Matches a e m → Took m moment [] [] e
    -- one, by a step
    pub one : (m : Machine K S P) (moment : ℕ) (input : CodeInput K P S Q) (answer : Result (Vec (Told K P S) Global) Fault) (e : Engine K S P)
        → ((n : Machine K S P) × Takes a c m (fed_of c keeps moment input) (answer_of answer) n × Matches a e n)
        → Took m moment (input ∷ []) (answer ∷ []) e
    -- some, and then more
    pub both : (m : Machine K S P) (moment : ℕ) (inputs more : List (CodeInput K P S Q)) (answers others : Answers K P S) (e f : Engine K S P)
        → (took : Took m moment inputs answers e) → list_any stops answers ≡ false → Took took.machine (latest c keeps moment inputs) more others f
        → Took m moment (inputs ++ more) (answers ++ others) f
    -- of more inputs, none was taken behind an answer that ended it
    pub ends : (m : Machine K S P) (moment : ℕ) (inputs more : List (CodeInput K P S Q)) (answers : Answers K P S) (e : Engine K S P)
        → Took m moment inputs answers e → list_any stops answers ≡ true → Took m moment (inputs ++ more) answers e
    -- what holds of every run holds of this one
    pub well : (m : Machine K S P) (moment : ℕ) (inputs : List (CodeInput K P S Q)) (answers : Answers K P S) (e : Engine K S P)
        → Took m moment inputs answers e → RunsWell a c m (all_fed c keeps moment inputs) (map answer_of answers) e
