-- Runs of an actor's machine, by the lists that its code has.
use Rattle.std.proofs.Common.{◌≡◌, ap, sym, ◌∙◌, subst, Bool, true, false, List, [], ◌∷◌, ◌++◌, map, Result}
use Rattle.std.proofs.lemmas.List.{map-append}
use Rattle.std.specs.List.{list_any}
use Rattle.std.specs.declared.vec.Vec.{Vec}
use Rattle.std.specs.declared.alloc.Global.{Global}
use Rattle.resolver_base.specs.declared.fault.Fault.{Fault}
use Rattle.resolver_types.specs.Names.{Names}
use Rattle.resolver_model.specs.Steps.{stops}
use Rattle.resolver_model_opaque.specs.declared.effects.Effect.{Effect}
use Rattle.resolver_model_opaque.specs.declared.inputs.Input.{Input}
use Rattle.resolver_model_opaque.specs.Opaque.{Machine}
use Rattle.resolver_model_opaque.specs.OpaqueInputs.{input_of}
use Rattle.resolver_model_opaque.specs.OpaqueSteps.{Runs, RunsJoin, Takes, answer_of}
use Rattle.examples_laws.proofs.Lists.{last-decides}

module _ {K V S Q : Type 0} (n : Names K S) (keeps : Q → K → S → Bool) (join : RunsJoin n V) where
  -- code's inputs are answered so
  abbrev pub Answered : (old : Machine K V S) → List (Input K V S Q) → List (Result (Vec (Effect K V S) Global) Fault) → (new : Machine K V S) → Type 0
  Answered old inputs answers new = Runs n old (map (input_of keeps) inputs) (map answer_of answers) new

  abbrev pub GoesOn : List (Result (Vec (Effect K V S) Global) Fault) → Type 0
  GoesOn answers = list_any stops (map answer_of answers) ≡ false

  pub run-on : (old mid new : Machine K V S) (inputs more : List (Input K V S Q)) (answers others : List (Result (Vec (Effect K V S) Global) Fault))
      → Answered old inputs answers mid → GoesOn answers → Answered mid more others new → Answered old (inputs ++ more) (answers ++ others) new
  run-on old mid new inputs more answers others runs goes rest =
      subst (λ fed. Runs n old fed (map answer_of (answers ++ others)) new) (sym (map-append (input_of keeps) inputs more))
      (subst (λ told. Runs n old (map (input_of keeps) inputs ++ map (input_of keeps) more) told new) (sym (map-append answer_of answers others))
      (join.both old mid new (map (input_of keeps) inputs) (map (input_of keeps) more) (map answer_of answers) (map answer_of others) runs goes rest))

  pub run-ended : (old new : Machine K V S) (inputs more : List (Input K V S Q)) (answers : List (Result (Vec (Effect K V S) Global) Fault))
      → Answered old inputs answers new → list_any stops (map answer_of answers) ≡ true → Answered old (inputs ++ more) answers new
  run-ended old new inputs more answers runs over =
      subst (λ fed. Runs n old fed (map answer_of answers) new) (sym (map-append (input_of keeps) inputs more))
      (join.ends old new (map (input_of keeps) inputs) (map (input_of keeps) more) (map answer_of answers) runs over)

  pub step-on : (old mid new : Machine K V S) (inputs : List (Input K V S Q)) (input : Input K V S Q) (answers : List (Result (Vec (Effect K V S) Global) Fault)) (answer : Result (Vec (Effect K V S) Global) Fault)
      → Answered old inputs answers mid → GoesOn answers → Takes n mid (input_of keeps input) (answer_of answer) new → Answered old (inputs ++ input ∷ []) (answers ++ answer ∷ []) new
  step-on old mid new inputs input answers answer runs goes takes =
      run-on old mid new inputs (input ∷ []) answers (answer ∷ []) runs goes (join.one mid new (input_of keeps input) (answer_of answer) takes)

  pub last-ends : (answers : List (Result (Vec (Effect K V S) Global) Fault)) (answer : Result (Vec (Effect K V S) Global) Fault) (b : Bool)
      → GoesOn answers → stops (answer_of answer) ≡ b → list_any stops (map answer_of (answers ++ answer ∷ [])) ≡ b
  last-ends answers answer b goes is = ap (list_any stops) (map-append answer_of answers (answer ∷ [])) ∙ last-decides stops (map answer_of answers) (answer_of answer) b goes is
