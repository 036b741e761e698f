-- A step of an actor whose inputs and effects are bytes.
use Rattle.std.specs.Prelude.{◌≡◌, ℕ, List, [], Some, None, Result, Ok, Err}
use Rattle.resolver_base.specs.declared.fault.Fault.{Fault}
use Rattle.resolver_model_opaque.specs.declared.effects.Effect.{Effect}
use Rattle.resolver_model_opaque.specs.Opaque.{Machine, opening}
use Rattle.resolver_model_opaque.specs.OpaqueSteps.{Input, Takes}
use Rattle.resolver_flat.specs.declared.reading.Misread.{Misread}
use Rattle.resolver_flat.specs.Reading.{Refuses, moment_at, whole}
use Rattle.resolver_flat.specs.declared.refusal.Refusal.{Refusal}
use Rattle.resolver_flat.specs.declared.refusal.Refusal.TheVariants as refusals
use Rattle.resolver_flat.specs.Naming.{Shape, by_name}
use Rattle.resolver_flat_actor.specs.Inputs.{input_from}

abbrev pub Told : Type 0 → Type 0
Told K = List (Effect K (List ℕ) ℕ)

-- an actor, and the effects of its last step
pub record Flat (K : Type 0) : Type 0 where
  pub machine : Machine K (List ℕ) ℕ
  pub told : Told K

-- What opening answers: an actor without demand, whose delay the bytes are, or that they are no delay.
abbrev pub Opened : {K : Type 0} → List ℕ → Result (Flat K) Misread → Type 0
Opened bytes (Ok flat) = (delay : ℕ) × (whole (moment_at bytes) ≡ Some delay) × (flat ≡ record { machine = opening delay; told = [] })
Opened bytes (Err misread) = Refuses misread (whole (moment_at bytes))

-- `n` is how names look
module _ {K : Type 0} (n : Shape K) where
  -- The bytes are an input, and the machine takes it with this answer.
  pub record Took (bytes : List ℕ) (old : Machine K (List ℕ) ℕ) (answer : Result (Told K) Fault) (new : Machine K (List ℕ) ℕ) : Type 0 where
    pub input : Input K (List ℕ) ℕ
    pub spelled : input_from n bytes ≡ Some input
    pub takes : Takes (by_name n) old input answer new

  -- What a step answers. What is no input, and what there is no memory to read, changes the machine nothing; after a refusal there are no effects.
  abbrev pub Stepped : List ℕ → (old : Flat K) → Result (Unit {0}) Refusal → (new : Flat K) → Type 0
  Stepped bytes old (Ok _) new = Took bytes old.machine (Ok new.told) new.machine
  Stepped bytes old (Err (refusals.Fault fault)) new = Took bytes old.machine (Err fault) new.machine × (new.told ≡ [])
  Stepped bytes old (Err refusals.Misspelled) new = (input_from n bytes ≡ None) × (new.machine ≡ old.machine) × (new.told ≡ [])
  Stepped bytes old (Err refusals.Unread) new = (new.machine ≡ old.machine) × (new.told ≡ [])
