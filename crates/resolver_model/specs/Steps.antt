-- Steps and runs of a machine, with what the code may refuse. `step` gives the answer and the machine after it.
use Rattle.std.specs.Prelude.{◌≡◌, Bool, true, false, MatchBool, List, [], ◌∷◌, ◌++◌, Result, Ok, Err}
use Rattle.std.specs.List.{list_any}
use Rattle.resolver_base.specs.declared.fault.Fault.{Fault}
use Rattle.resolver_base.specs.declared.fault.Fault.TheVariants as faults

-- whether a run ends with this answer
abbrev pub stops : {A : Type 0} → Result A Fault → Bool
stops (Ok effects) = false
stops (Err faults.OutOfMemory) = true
stops (Err faults.Exhausted) = true
stops (Err fault) = false

-- `MayWant m input`: memory may be wanting in this step. In each other step success is promised, or its refusal.
module _ {M I E : Type 0} (step : M → I → Result (List E) Fault × M) (MayWant : M → I → Type 0) (HasFailed : M → Type 0) where
  -- From old, the machine may give this answer to the input, and be new then.
  abbrev pub Takes : (old : M) → I → Result (List E) Fault → (new : M) → Type 0
  -- memory is wanting, and the machine has failed
  Takes old input (Err faults.OutOfMemory) new = MayWant old input × HasFailed new
  -- no number is left, and the machine has failed
  Takes old input (Err faults.Exhausted) new = ((step old input).0 ≡ Err faults.Exhausted) × HasFailed new
  Takes old input answer new = step old input ≡ (answer, new)

  -- These are the answers to the inputs, one after another, up to the first for want of memory or of numbers.
  abbrev pub Runs : (old : M) → List I → List (Result (List E) Fault) → (new : M) → Type 0
  Runs old [] [] new = new ≡ old
  Runs old [] (answer ∷ answers) new = ⊥
  Runs old (input ∷ inputs) [] new = ⊥
  Runs old (input ∷ inputs) (answer ∷ answers) new =
      (mid : M) × Takes old input answer mid × MatchBool (stops answer) ((answers ≡ []) × (new ≡ mid)) (Runs mid inputs answers new)

  -- A step is a run of one input. A run goes on where no answer ended it, and both are one run then. A run that an answer ended is the run of more inputs, too.
  pub record RunsJoin : Type 0 where
    pub one : (old new : M) (input : I) (answer : Result (List E) Fault) → Takes old input answer new → Runs old (input ∷ []) (answer ∷ []) new
    pub both : (old mid new : M) (inputs more : List I) (answers later : List (Result (List E) Fault))
        → Runs old inputs answers mid → list_any stops answers ≡ false → Runs mid more later new → Runs old (inputs ++ more) (answers ++ later) new
    pub ends : (old new : M) (inputs more : List I) (answers : List (Result (List E) Fault))
        → Runs old inputs answers new → list_any stops answers ≡ true → Runs old (inputs ++ more) answers new
