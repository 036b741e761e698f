-- What holds of every run of the opaque machine.
use Rattle.std.specs.Prelude.{◌≡◌, ◌≢◌, ◌==◌, ℕ, Bool, false, List, [], ◌∷◌, map, Option, None, Some, Result, Ok, Err}
use Rattle.std.specs.Map.{lookup}
use Rattle.std.specs.BTreeMap.{is_at}
use Rattle.std.specs.Ordering.{nat_cmp}
use Rattle.resolver_types.specs.declared.outcome.Outcome.{Outcome}
use Rattle.resolver_base.specs.declared.fault.Fault.{Fault}
use Rattle.resolver_types.specs.Names.{Names}
use Rattle.resolver_types.specs.Demand.{all_pairs_of, IsSameDemand}
use Rattle.resolver_model_opaque.specs.declared.effects.Effect.{Effect}
use Rattle.resolver_model_opaque.specs.declared.effects.Effect.TheVariants.{Deliver}
use Rattle.resolver_model.specs.Account.{Change, Adds, Keeps, Judges, Empties, Leaves, Handed, pairs, nothing_asked, account_of}
use Rattle.resolver_model.specs.declared.status.Status.TheVariants.{Running, Failed}
use Rattle.resolver_model_opaque.specs.Opaque.{Machine, Row, Event, Fetch, Retain, Fetched, Verdict, RetriesDue, End, opening, row_of, closed, step}
use Rattle.resolver_model_opaque.specs.OpaquePhases.{Phase, Judged}
use Rattle.resolver_model_opaque.specs.declared.inputs.Input.{Input as CodeInput}
use Rattle.resolver_model_opaque.specs.OpaqueSteps.{Input, Runs}
use Rattle.resolver_model_opaque.specs.OpaqueInputs.{input_of}
use Rattle.resolver_model.specs.Lawful.{Each, IsLawful}

module _ {K V S : Type 0} where
  -- what an event says of the demand
  abbrev pub change_of : Event K V S → Change K S
  change_of (Fetch items) = Adds (map (λ item. (item.key, item.subscribers)) items)
  change_of (Retain keep) = Keeps keep
  change_of (Verdict number outcome) = Judges number outcome
  change_of End = Empties
  change_of (Fetched attempt value) = Leaves
  change_of RetriesDue = Leaves

  -- what some effects hand out
  abbrev pub handed_out : List (Effect K V S) → List (ℕ × Handed K S)
  handed_out [] = []
  handed_out (Deliver number response delivery value ∷ effects) =
      (number, record { response = response; key = delivery.key; subscribers = delivery.subscribers }) ∷ handed_out effects
  handed_out (effect ∷ effects) = handed_out effects

  -- the inputs that were taken, with what each handed out
  abbrev pub taken : List (Input K V S) → List (Result (List (Effect K V S)) Fault) → List (Change K S × List (ℕ × Handed K S))
  taken (input ∷ inputs) (Ok effects ∷ answers) = (change_of input.event, handed_out effects) ∷ taken inputs answers
  taken (input ∷ inputs) (Err fault ∷ answers) = taken inputs answers
  taken inputs answers = []

  -- who is asked for, as the rows have it
  abbrev pub demanded : List (K × Row V S) → List (K × List (S × ℕ))
  demanded rows = map (λ r. (r.0, r.1.subscribers)) rows

module _ {K V S : Type 0} (n : Names K S) where
  -- The rows have the pairs that were fetched and not since retired, by the inputs taken alone.
  abbrev pub HasDemand : List (Input K V S) → List (Result (List (Effect K V S)) Fault) → Machine K V S → Type 0
  HasDemand inputs answers m = IsSameDemand n (all_pairs_of (demanded m.rows)) (account_of (pairs n) (nothing_asked (pairs n)) (taken inputs answers)).demand

  -- So they do after a run from an opening state, wherever its attempts begin, that did not fail.
  abbrev pub KeepsDemand : (old : Machine K V S) → List (Input K V S) → List (Result (List (Effect K V S)) Fault) → (new : Machine K V S) → Type 0
  KeepsDemand old inputs answers new =
      (delay attempts : ℕ) → old ≡ record (opening delay) { next_attempt = attempts } → new.status ≢ Failed → HasDemand inputs answers new

  -- inputs as their types have them
  abbrev pub AllLawful : List (Input K V S) → Type 0
  AllLawful inputs = Each (λ input. IsLawful n (change_of input.event)) inputs

-- Each run keeps the demand, by however many calls it came about.
abbrev pub RunsKeepDemand : {K S : Type 0} → Names K S → (V : Type 0) → Type 0
RunsKeepDemand {K} {S} n V =
    (old : Machine K V S) (inputs : List (Input K V S)) (answers : List (Result (List (Effect K V S)) Fault)) (new : Machine K V S)
    → AllLawful n inputs → Runs n old inputs answers new → KeepsDemand n old inputs answers new

-- What the code takes is lawful by its types.
abbrev pub InputsAreLawful : {K S Q : Type 0} → Names K S → (V : Type 0) → (keeps : Q → K → S → Bool) → Type 0
InputsAreLawful {K} {S} {Q} n V keeps = (inputs : List (CodeInput K V S Q)) → AllLawful n (map (input_of keeps) inputs)

abbrev pub is_judged_under : {V : Type 0} → (number : ℕ) → Phase V → Bool
is_judged_under number (Judged j) = number == j.number
is_judged_under number phase = false

abbrev pub row_judged_under : {V S : Type 0} → (number : ℕ) → Option (Row V S) → Bool
row_judged_under number None = false
row_judged_under number (Some row) = is_judged_under number row.phase

module _ {K V S : Type 0} (n : Names K S) where
  abbrev pub is_live_as : Machine K V S → (number : ℕ) → Option (Handed K S) → Bool
  is_live_as m number None = false
  is_live_as m number (Some h) = row_judged_under number (row_of n m h.key)

  -- whether a number is open, and its key is judged under it
  abbrev pub is_live : Machine K V S → (number : ℕ) → Bool
  is_live m number = is_live_as m number (lookup (is_at (nat_cmp number)) m.deliveries)

-- A verdict that is not live closes its number and does nothing else: it retires no pair, changes no phase and hands out nothing.
abbrev pub DeadVerdictsPass : {K S : Type 0} → Names K S → (V : Type 0) → Type 0
DeadVerdictsPass {K} {S} n V =
    (m : Machine K V S) (now number : ℕ) (outcome : Option Outcome) → m.status ≡ Running → is_live n m number ≡ false
    → step n m now (Verdict number outcome) ≡ (Ok [], closed m number)
