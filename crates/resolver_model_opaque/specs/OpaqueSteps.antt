-- Steps and runs of the opaque machine, with what the code may refuse.
use Rattle.std.specs.Prelude.{◌≡◌, ℕ, Bool, false, ◌++◌, List, Option, None, Some, Result, Ok, Err, ⊤}
use Rattle.std.specs.declared.vec.Vec.{Vec}
use Rattle.std.specs.declared.alloc.Global.{Global}
use Rattle.resolver_base.specs.declared.fault.Fault.{Fault}
use Rattle.resolver_base.specs.declared.fault.Fault.TheVariants as faults
use Rattle.resolver_types.specs.Names.{Names}
use Rattle.resolver_model_opaque.specs.declared.effects.Effect.{Effect}
use Rattle.resolver_model.specs.Steps as steps
use Rattle.std.specs.Prelude.{Bool, false, is_none, length, ◌==◌}
use Rattle.std.specs.Map.{lookup}
use Rattle.std.specs.BTreeMap.{is_at}
use Rattle.std.specs.Ordering.{nat_cmp}
use Rattle.resolver_model.specs.declared.status.Status.TheVariants.{Running, Failed}
use Rattle.resolver_model_opaque.specs.Opaque.{Fetch, Retain, Fetched, Verdict, RetriesDue, End, waiting_by_due, Machine, Event, Done, step}

-- an event, and its moment
pub record Input (K V S : Type 0) : Type 0 where
  pub now : ℕ
  pub event : Event K V S

module _ {K V S : Type 0} where
  -- more effects in front
  abbrev pub onto : List (Effect K V S) → Option (Done K V S) → Option (Done K V S)
  onto before None = None
  onto before (Some d) = Some (record { machine = d.machine; effects = before ++ d.effects })

  -- What a part of a step does: the effects grow from before to after, and m is the machine then. Memory may be wanting.
  abbrev pub Goes : Option (Done K V S) → (before after : List (Effect K V S)) → Machine K V S → Result (Unit {0}) Fault → Type 0
  Goes going before after m (Ok _) = onto before going ≡ Some (record { machine = m; effects = after })
  Goes going before after m (Err faults.OutOfMemory) = ⊤
  Goes going before after m (Err faults.Exhausted) = going ≡ None
  Goes going before after m (Err other) = ⊥

  -- an answer without where its list lies in memory
  abbrev pub answer_of : Result (Vec (Effect K V S) Global) Fault → Result (List (Effect K V S)) Fault
  answer_of (Ok effects) = Ok effects.items
  answer_of (Err fault) = Err fault

module _ {K V S : Type 0} where
  -- A machine that runs may want memory, but for a verdict that is passed over, and where no retry is due.
  abbrev pub takes_no_memory : Machine K V S → (now : ℕ) → Event K V S → Bool
  takes_no_memory m now (Verdict number outcome) = is_none (lookup (is_at (nat_cmp number)) m.deliveries)
  takes_no_memory m now RetriesDue = length (waiting_by_due now m.rows) == 0
  takes_no_memory m now (Fetch items) = false
  takes_no_memory m now (Retain keep) = false
  takes_no_memory m now (Fetched attempt value) = false
  takes_no_memory m now End = false

  abbrev pub MayWant : Machine K V S → Input K V S → Type 0
  MayWant m input = (m.status ≡ Running) × (takes_no_memory m input.now input.event ≡ false)

module _ {K V S : Type 0} (n : Names K S) where
  abbrev pub step_on : Machine K V S → Input K V S → Result (List (Effect K V S)) Fault × Machine K V S
  step_on m input = step n m input.now input.event

  abbrev pub Takes : (old : Machine K V S) → Input K V S → Result (List (Effect K V S)) Fault → (new : Machine K V S) → Type 0
  Takes = steps.Takes step_on MayWant (λ m. m.status ≡ Failed)

  abbrev pub Runs : (old : Machine K V S) → List (Input K V S) → List (Result (List (Effect K V S)) Fault) → (new : Machine K V S) → Type 0
  Runs = steps.Runs step_on MayWant (λ m. m.status ≡ Failed)

-- runs of the opaque machine go on
abbrev pub RunsJoin : {K S : Type 0} → Names K S → (V : Type 0) → Type 0
RunsJoin {K} {S} n V = steps.RunsJoin (step_on {K = K} {V = V} {S = S} n) MayWant (λ m. m.status ≡ Failed)
