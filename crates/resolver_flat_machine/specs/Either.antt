-- What each machine does, told by the definitions of its own.
use Rattle.std.specs.Prelude.{◌≡◌, ◌≢◌, ⊤, ℕ, List, map, Option, Some, None, Result, Ok, Err}
use Rattle.resolver_metrics.specs.declared.metrics.Metrics.{Metrics}
use Rattle.resolver_model_opaque.specs.Opaque.{next_retry}
use Rattle.resolver_model_opaque.specs.OpaqueListed.{listed}
use Rattle.resolver_flat.specs.Naming.{of_bytes}
use Rattle.resolver_names.specs.declared.name.Name.{Name}
use Rattle.resolver_flat.specs.declared.reading.Misread.{Misread}
use Rattle.resolver_flat.specs.declared.reading.Misread.TheVariants.{Misspelled}
use Rattle.resolver_flat.specs.declared.refusal.Refusal.{Refusal}
use Rattle.resolver_flat_actor.specs.Effects as actor_effects
use Rattle.resolver_flat_actor.specs.Steps as actors
use Rattle.resolver_flat_machine.specs.Effects as core_effects
use Rattle.resolver_flat_machine.specs.Steps as cores
use Rattle.resolver_flat_machine.specs.declared.machine.Machine.{Machine}
use Rattle.resolver_flat_machine.specs.declared.machine.Machine.TheVariants.{Actor, Core, ShortActor, ShortCore}

-- Why no machine of a kind is opened: its settings are refused, or there is no such kind. The kinds are 0 to 3.
pub record Unopened (kind : ℕ) (bytes : List ℕ) (misread : Misread) : Type 0 where
  pub core : kind ≡ 0 → cores.Opened (of_bytes {N = 32}) bytes (Err misread)
  pub actor : kind ≡ 1 → actors.Opened {K = Name 32} bytes (Err misread)
  pub short_core : kind ≡ 2 → cores.Opened (of_bytes {N = 8}) bytes (Err misread)
  pub short_actor : kind ≡ 3 → actors.Opened {K = Name 8} bytes (Err misread)
  pub other : kind ≢ 0 → kind ≢ 1 → kind ≢ 2 → kind ≢ 3 → misread ≡ Misspelled

-- what opening a machine of this kind answers: 0 is a core, 1 an actor, and 2 and 3 are the same over short names
abbrev pub Opened : (kind : ℕ) → List ℕ → Result Machine Misread → Type 0
Opened kind bytes (Ok (Core new)) = (kind ≡ 0) × cores.Opened of_bytes bytes (Ok new)
Opened kind bytes (Ok (Actor new)) = (kind ≡ 1) × actors.Opened bytes (Ok new)
Opened kind bytes (Ok (ShortCore new)) = (kind ≡ 2) × cores.Opened of_bytes bytes (Ok new)
Opened kind bytes (Ok (ShortActor new)) = (kind ≡ 3) × actors.Opened bytes (Ok new)
Opened kind bytes (Err misread) = Unopened kind bytes misread

-- a step of the machine that it is, and stays
abbrev pub Stepped : List ℕ → (old : Machine) → Result (Unit {0}) Refusal → (new : Machine) → Type 0
Stepped bytes (Core old) result (Core new) = cores.Stepped of_bytes bytes old result new
Stepped bytes (Actor old) result (Actor new) = actors.Stepped of_bytes bytes old result new
Stepped bytes (ShortCore old) result (ShortCore new) = cores.Stepped of_bytes bytes old result new
Stepped bytes (ShortActor old) result (ShortActor new) = actors.Stepped of_bytes bytes old result new
Stepped bytes old result new = ⊥

-- the effects of its last step
abbrev pub told : Machine → List ℕ
told (Core machine) = core_effects.all_spelled of_bytes.bytes_of machine.told
told (Actor machine) = actor_effects.all_spelled of_bytes.bytes_of machine.told
told (ShortCore machine) = core_effects.all_spelled of_bytes.bytes_of machine.told
told (ShortActor machine) = actor_effects.all_spelled of_bytes.bytes_of machine.told

-- these bytes are its rows
abbrev pub Lists : Machine → List ℕ → Type 0
Lists (Core machine) bytes = cores.Lists of_bytes machine bytes
Lists (Actor machine) bytes = bytes ≡ actor_effects.all_rows of_bytes.bytes_of (map listed machine.machine.rows)
Lists (ShortCore machine) bytes = cores.Lists of_bytes machine bytes
Lists (ShortActor machine) bytes = bytes ≡ actor_effects.all_rows of_bytes.bytes_of (map listed machine.machine.rows)

-- this is when a scan may do something, or a waiting key is due
abbrev pub Waits : Machine → Option ℕ → Type 0
Waits (Core machine) moment = cores.Waits of_bytes machine moment
Waits (Actor machine) moment = moment ≡ next_retry machine.machine.rows
Waits (ShortCore machine) moment = cores.Waits of_bytes machine moment
Waits (ShortActor machine) moment = moment ≡ next_retry machine.machine.rows

-- this is when the time of a request is over next
abbrev pub Expires : Machine → Option ℕ → Type 0
Expires (Core machine) moment = cores.Expires of_bytes machine moment
Expires (Actor machine) moment = moment ≡ None
Expires (ShortCore machine) moment = cores.Expires of_bytes machine moment
Expires (ShortActor machine) moment = moment ≡ None

-- a core has counted, an actor counts nothing
abbrev pub Counts : Machine → Option Metrics → Type 0
Counts (Core machine) (Some metrics) = cores.Counts of_bytes machine metrics
Counts (Actor machine) None = ⊤
Counts (ShortCore machine) (Some metrics) = cores.Counts of_bytes machine metrics
Counts (ShortActor machine) None = ⊤
Counts machine counted = ⊥
