-- The phases of the kept keys, and what is found by them.
use Rattle.std.specs.Prelude.{ℕ, List, [], ◌∷◌, Option, None, Some, find, option_map}
use Rattle.resolver_delivery.specs.declared.entry.Response.{Response}
use Rattle.resolver_model_opaque.specs.declared.phase.Stage.{Stage}
use Rattle.resolver_model_opaque.specs.declared.phase.Stage.TheVariants as stages
use Rattle.resolver_model_opaque.specs.declared.phase.Phase.{Phase as ListedPhase}
use Rattle.resolver_model_opaque.specs.declared.phase.Phase.TheVariants as phases
use Rattle.resolver_model_opaque.specs.OpaquePhases.{Phase, Waiting, Asked, Judged, is_asked_by, least_due}
use Rattle.resolver_model_opaque.specs.OpaqueStages.{Kept}

abbrev pub staged : {V : Type 0} → Stage → Phase V
staged (stages.Waiting due) = Waiting due
staged (stages.Asked attempt) = Asked attempt

module _ {V : Type 0} where
  abbrev pub judged_in : Stage → (number : ℕ) → Option (Response V (Unit {0})) → Phase V
  judged_in stage number None = staged stage
  judged_in stage number (Some r) = Judged (record { number = number; response = r.name; value = r.value; accepted = r.accepted })

  abbrev pub phase_in : Stage → Option ℕ → Option (Response V (Unit {0})) → Phase V
  phase_in stage None response = staged stage
  phase_in stage (Some number) response = judged_in stage number response

  -- A key with a delivery in progress is judged. Another one is at its stage.
  abbrev pub phase_of : Kept V → Phase V
  phase_of e = phase_in e.state e.number e.response

-- a phase as the actor lists it
abbrev pub listed_phase : {V : Type 0} → Phase V → ListedPhase
listed_phase (Waiting due) = phases.Waiting due
listed_phase (Asked attempt) = phases.Asked attempt
listed_phase (Judged j) = phases.Judged j.number

module _ {K V : Type 0} where
  -- the least due
  abbrev pub first_due : List (K × Kept V) → Option ℕ
  first_due [] = None
  first_due (e ∷ es) = least_due (phase_of e.1) (first_due es)

  -- the key that is asked for by this attempt
  abbrev pub asked_key : (attempt : ℕ) → List (K × Kept V) → Option K
  asked_key attempt es = option_map (λ e. e.0) (find (λ e. is_asked_by attempt (phase_of e.1)) es)
