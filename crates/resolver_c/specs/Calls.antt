-- What each call does, told by the definitions of the machine that the slot holds.
use Rattle.std.specs.Prelude.{◌≡◌, ◌⊎◌, ℕ, nat_lt, if◌then◌else◌, List, ◌++◌, drop, length, Option, Some, None, Result, Ok, Err}
use Rattle.std.specs.declared.alloc.Global.{Global}
use Rattle.std.specs.declared.boxed.Box.{Box}
use Rattle.resolver_base.specs.Faults as faults
use Rattle.resolver_base.specs.declared.fault.Fault.{Fault}
use Rattle.resolver_base.specs.declared.fault.Fault.TheVariants.{OutOfMemory}
use Rattle.resolver_flat.specs.Refusals as refusals
use Rattle.resolver_flat.specs.declared.reading.Misread.{Misread}
use Rattle.resolver_flat.specs.declared.reading.Misread.TheVariants as misreads
use Rattle.resolver_flat.specs.declared.refusal.Refusal.{Refusal}
use Rattle.resolver_metrics.specs.declared.metrics.Metrics.{Metrics}
use Rattle.resolver_flat_machine.specs.declared.machine.Machine.{Machine}
use Rattle.resolver_flat_machine.specs.Either as either
use Rattle.resolver_c.specs.declared.counts.Counts.{Counts}
use Rattle.resolver_c.specs.declared.deadline.Deadline.{Deadline}
use Rattle.resolver_c.specs.Halves.{counts_of, due_of}

-- why no machine was opened
abbrev pub number_of : Misread → ℕ
number_of misreads.Misspelled = 64
number_of misreads.OutOfMemory = 1

-- a machine on the heap that was opened so, or why there is none
abbrev pub Puts : (kind : ℕ) → List ℕ → Result (Box Machine Global) Misread → Type 0
Puts kind bytes (Ok held) = either.Opened kind bytes (Ok held.value)
Puts kind bytes (Err misread) = either.Opened kind bytes (Err misread)

-- 0, and a machine that was opened so; or why there is none
abbrev pub Opens : (kind : ℕ) → List ℕ → (code : ℕ) → Option Machine → Type 0
Opens kind bytes code (Some machine) = (code ≡ 0) × either.Opened kind bytes (Ok machine)
Opens kind bytes code None = (misread : Misread) × (code ≡ number_of misread) × either.Opened kind bytes (Err misread)

-- 0, or the number of the refusal
abbrev pub code_of : Result (Unit {0}) Refusal → ℕ
code_of (Ok _) = 0
code_of (Err refusal) = refusals.number_of refusal

-- a step with an answer of this number
abbrev pub Walks : List ℕ → (old : Machine) → (code : ℕ) → (new : Machine) → Type 0
Walks bytes old code new = (answer : Result (Unit {0}) Refusal) × (code ≡ code_of answer) × either.Stepped bytes old answer new

-- what was held steps so, and is held after that
abbrev pub Steps : List ℕ → (old : Option Machine) → (code : ℕ) → (new : Option Machine) → Type 0
Steps bytes (Some old) code (Some new) = Walks bytes old code new
Steps bytes old code new = ⊥

-- a code, the room after the call, and how many bytes there are
abbrev pub Said : Type 0
Said = ℕ × List ℕ × ℕ

-- at the front of the room, if it has so many places
abbrev pub handed : (bytes room : List ℕ) → Said
handed bytes room = if nat_lt (length room) (length bytes) then (66, room, length bytes) else (0, bytes ++ drop (length bytes) room, length bytes)

-- nothing was spelled
abbrev pub unspelled : Fault → (room : List ℕ) → Said
unspelled fault room = (faults.number_of fault, room, 0)

-- the effects of the last step are handed out, unless there is no memory to spell them
abbrev pub Tells : Machine → (room : List ℕ) → Said → Type 0
Tells machine room said = (said ≡ handed (either.told machine) room) ⊎ (said ≡ unspelled OutOfMemory room)

-- its rows are handed out, unless they were refused
abbrev pub Lists : Machine → (room : List ℕ) → Said → Type 0
Lists machine room said =
    ((bytes : List ℕ) × either.Lists machine bytes × (said ≡ handed bytes room)) ⊎ ((fault : Fault) × (said ≡ unspelled fault room))

-- what it has counted is handed out, if it counts
abbrev pub Counted : Machine → (old : Counts) → (said : ℕ × Counts) → Type 0
Counted machine old said =
    ((metrics : Metrics) × either.Counts machine (Some metrics) × (said ≡ (0, counts_of metrics))) ⊎ (either.Counts machine None × (said ≡ (67, old)))

-- when to step it next
abbrev pub Dues : Machine → (pending active : Deadline) → Type 0
Dues machine pending active =
    ((moment : Option ℕ) × either.Waits machine moment × (pending ≡ due_of moment)) × ((moment : Option ℕ) × either.Expires machine moment × (active ≡ due_of moment))
