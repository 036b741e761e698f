-- A run, one step after another.
use Rattle.std.proofs.Common.{◌≡◌, refl, subst, Bool, true, false, ◌||◌, List, [], ◌∷◌, ◌++◌, Result, Err}
use Rattle.std.specs.Prelude.{MatchBool}
use Rattle.std.specs.List.{list_any}
use Rattle.resolver_base.specs.declared.fault.Fault.{Fault}
use Rattle.resolver_model.specs.Steps.{Takes, Runs, RunsJoin, stops}

-- where nothing is left, nothing changes, whether a run ends there or goes on
ended : {M A : Type 0} (m : M) (b : Bool) (none : List A) → MatchBool b ((none ≡ none) × (m ≡ m)) (m ≡ m)
ended m true none = (refl, refl)
ended m false none = refl

pub goes-on : (a b : Bool) → (a || b) ≡ false → (a ≡ false) × (b ≡ false)
goes-on true b is = cc
goes-on false b is = (refl, is)

-- where the first answer doesn't end a run, a later one does
ends-later : (a b : Bool) → (a || b) ≡ true → a ≡ false → b ≡ true
ends-later true b is goes = cc
ends-later false b is goes = is

module _ {M I E : Type 0} (step : M → I → Result (List E) Fault × M) (MayWant : M → I → Type 0) (HasFailed : M → Type 0) where
  -- a step, and a run from there
  pub Runs-step : (old mid new : M) (input : I) (inputs : List I) (answer : Result (List E) Fault) (answers : List (Result (List E) Fault))
      → Takes step MayWant HasFailed old input answer mid → stops answer ≡ false → Runs step MayWant HasFailed mid inputs answers new
      → Runs step MayWant HasFailed old (input ∷ inputs) (answer ∷ answers) new
  Runs-step old mid new input inputs answer answers takes goes runs = (mid, takes, rw goes runs)

  -- a step that ends the run
  pub Runs-last : (old new : M) (input : I) (inputs : List I) (answer : Result (List E) Fault)
      → Takes step MayWant HasFailed old input answer new → stops answer ≡ true → Runs step MayWant HasFailed old (input ∷ inputs) (answer ∷ []) new
  Runs-last old new input inputs answer takes ends = (new, takes, rw ends (refl, refl))

  pub runs-join : RunsJoin step MayWant HasFailed
  runs-join = record { one = once; both = joined; ends = ended-on }
    where
      once : (old new : M) (input : I) (answer : Result (List E) Fault) → Takes step MayWant HasFailed old input answer new → Runs step MayWant HasFailed old (input ∷ []) (answer ∷ []) new
      once old new input answer takes = (new, takes, ended new (stops answer) [])

      joined : (old mid new : M) (inputs more : List I) (answers later : List (Result (List E) Fault))
          → Runs step MayWant HasFailed old inputs answers mid → list_any stops answers ≡ false → Runs step MayWant HasFailed mid more later new → Runs step MayWant HasFailed old (inputs ++ more) (answers ++ later) new
      joined old mid new [] more [] later runs goes then = subst (λ m. Runs step MayWant HasFailed m more later new) runs then
      joined old mid new [] more (answer ∷ answers) later runs goes then = absurd runs
      joined old mid new (input ∷ inputs) more [] later runs goes then = absurd runs
      joined old mid new (input ∷ inputs) more (answer ∷ answers) later runs goes then =
          let on = goes-on (stops answer) (list_any stops answers) goes in
          let rest = rw on.0 at runs.2 in
          Runs-step old runs.0 new input (inputs ++ more) answer (answers ++ later) runs.1 on.0 (joined runs.0 mid new inputs more answers later rest on.1 then)

      ended-on : (old new : M) (inputs more : List I) (answers : List (Result (List E) Fault))
          → Runs step MayWant HasFailed old inputs answers new → list_any stops answers ≡ true → Runs step MayWant HasFailed old (inputs ++ more) answers new
      ended-on old new [] more [] runs ends = cc
      ended-on old new [] more (answer ∷ answers) runs ends = absurd runs
      ended-on old new (input ∷ inputs) more [] runs ends = absurd runs
      ended-on old new (input ∷ inputs) more (answer ∷ answers) runs ends = at (stops answer) refl runs.2 (λ goes rest. ended-on runs.0 new inputs more answers rest (ends-later (stops answer) (list_any stops answers) ends goes))
        where
          at : (b : Bool) → stops answer ≡ b → MatchBool b ((answers ≡ []) × (new ≡ runs.0)) (Runs step MayWant HasFailed runs.0 inputs answers new)
              → (stops answer ≡ false → Runs step MayWant HasFailed runs.0 inputs answers new → Runs step MayWant HasFailed runs.0 (inputs ++ more) answers new)
              → Runs step MayWant HasFailed old (input ∷ inputs ++ more) (answer ∷ answers) new
          at true stops last next = (runs.0, runs.1, rw stops last)
          at false goes rest next = (runs.0, runs.1, rw goes (next goes rest))
