-- What the opaque machine stands at.
use Rattle.std.specs.Prelude.{Option, None, Some, map}
use Rattle.resolver_model.specs.Standing.{Judgment, Held, Standing}
use Rattle.resolver_model_opaque.specs.Opaque.{Machine, Row}
use Rattle.resolver_model_opaque.specs.OpaquePhases.{Phase, Waiting, Asked, Judged}

abbrev pub judgment_of : {V : Type 0} → Phase V → Option Judgment
judgment_of (Waiting due) = None
judgment_of (Asked attempt) = None
judgment_of (Judged j) = Some (record { number = j.number; response = j.response; accepted = j.accepted })

abbrev pub held_of : {V S : Type 0} → Row V S → Held S
held_of row = record { subscribers = row.subscribers; judging = judgment_of row.phase }

abbrev pub standing_of : {K V S : Type 0} → Machine K V S → Standing K S
standing_of m = record { rows = map (λ r. (r.0, held_of r.1)) m.rows; deliveries = m.deliveries; next_number = m.next_number }
