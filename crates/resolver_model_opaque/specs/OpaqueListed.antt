-- The machine's rows as the actor lists them.
use Rattle.resolver_model_opaque.specs.declared.rows.Row.{Row as ListedRow}
use Rattle.resolver_model_opaque.specs.Opaque.{Row}
use Rattle.resolver_model_opaque.specs.OpaqueByPhase.{listed_phase}

abbrev pub listed : {K V S : Type 0} → K × Row V S → ListedRow K S
listed r = record { key = r.0; subscribers = r.1.subscribers; phase = listed_phase r.1.phase }
