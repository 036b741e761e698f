-- The waiting keys that are due.
use Rattle.std.specs.Prelude.{ℕ, nat_le, List, [], ◌∷◌, Option, None, Some, if◌then◌else◌}
use Rattle.resolver_model_opaque.specs.OpaquePhases.{Phase, Waiting}
use Rattle.resolver_model_opaque.specs.OpaqueStages.{Kept}
use Rattle.resolver_model_opaque.specs.OpaqueByPhase.{phase_of}

-- a waiting key, and when it is due
pub record Overdue (K : Type 0) : Type 0 where
  pub due : ℕ
  pub key : K

module _ {K V : Type 0} where
  -- before the others, if it is due
  abbrev pub with_due : (now : ℕ) → K → Phase V → List (Overdue K) → List (Overdue K)
  with_due now key (Waiting due) others = if nat_le due now then record { due = due; key = key } ∷ others else others
  with_due now key phase others = others

  -- in the order of the keys
  abbrev pub due_of : (now : ℕ) → List (K × Kept V) → List (Overdue K)
  due_of now [] = []
  due_of now (e ∷ es) = with_due now e.0 (phase_of e.1) (due_of now es)

module _ {K : Type 0} where
  -- at its place by due: before the first that isn't due earlier
  abbrev pub placed : Overdue K → List (Overdue K) → List (Overdue K)
  placed o [] = o ∷ []
  placed o (p ∷ ps) = if nat_le o.due p.due then o ∷ p ∷ ps else p ∷ placed o ps

  -- from the earliest due on
  abbrev pub by_due : List (Overdue K) → List (Overdue K)
  by_due [] = []
  by_due (o ∷ os) = placed o (by_due os)

  -- the key of the first
  abbrev pub first_key : List (Overdue K) → Option K
  first_key [] = None
  first_key (o ∷ os) = Some o.key
