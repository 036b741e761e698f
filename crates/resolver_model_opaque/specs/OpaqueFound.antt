-- What is found of the rows by the entries alone.
use Rattle.std.specs.Prelude.{List, [], ◌∷◌, ◌++◌, Option, None, Some}
use Rattle.std.specs.Map.{lookup, remove_entry}
use Rattle.std.specs.BTreeMap.{is_at}
use Rattle.std.specs.declared.cmp.Ordering.{Ordering}
use Rattle.resolver_model_opaque.specs.declared.effects.Effect.{Effect}
use Rattle.resolver_model_opaque.specs.Opaque.{Row, called_off}
use Rattle.resolver_model_opaque.specs.OpaquePhases.{Phase, Asked, Judged}
use Rattle.resolver_model_opaque.specs.OpaqueStages.{Kept}
use Rattle.resolver_model_opaque.specs.OpaqueByPhase.{phase_of}

module _ {K V S : Type 0} where
  abbrev pub called_off_at : Option (Kept V) → List (Effect K V S)
  called_off_at None = []
  called_off_at (Some e) = called_off (phase_of e)

  -- what is called off where these keys end
  abbrev pub each_called_off : (K → K → Ordering) → List (K × Kept V) → List K → List (Effect K V S)
  each_called_off cmp es [] = []
  each_called_off cmp es (k ∷ ks) = called_off_at (lookup (is_at (cmp k)) es) ++ each_called_off cmp es ks

  -- what every key calls off
  abbrev pub all_kept_called_off : List (K × Kept V) → List (Effect K V S)
  all_kept_called_off [] = []
  all_kept_called_off (e ∷ es) = called_off (phase_of e.1) ++ all_kept_called_off es

-- without these keys
abbrev pub without_each : {K X : Type 0} → (K → K → Ordering) → List K → List (K × X) → List (K × X)
without_each cmp [] es = es
without_each cmp (k ∷ ks) es = without_each cmp ks (remove_entry (is_at (cmp k)) es)

-- whether a row is there that no delivery is in progress of
abbrev pub IsIdlePhase : {V : Type 0} → Phase V → Type 0
IsIdlePhase (Judged j) = ⊥
IsIdlePhase phase = Unit {0}

abbrev pub IsIdle : {V S : Type 0} → Option (Row V S) → Type 0
IsIdle None = ⊥
IsIdle (Some row) = IsIdlePhase row.phase

-- whether a row is there that is asked for
abbrev pub IsAskedPhase : {V : Type 0} → Phase V → Type 0
IsAskedPhase (Asked attempt) = Unit {0}
IsAskedPhase phase = ⊥

abbrev pub IsAskedFor : {V S : Type 0} → Option (Row V S) → Type 0
IsAskedFor None = ⊥
IsAskedFor (Some row) = IsAskedPhase row.phase
