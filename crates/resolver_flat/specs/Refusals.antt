-- The numbers of refusals.
use Rattle.std.specs.Prelude.{ℕ}
use Rattle.resolver_base.specs.Faults as faults
use Rattle.resolver_flat.specs.declared.reading.Misread.{Misread}
use Rattle.resolver_flat.specs.declared.reading.Misread.TheVariants as misreads
use Rattle.resolver_flat.specs.declared.refusal.Refusal.{Refusal}
use Rattle.resolver_flat.specs.declared.refusal.Refusal.TheVariants.{Fault, Misspelled, Unread}

abbrev pub number_of : Refusal → ℕ
number_of (Fault fault) = faults.number_of fault
number_of Misspelled = 64
number_of Unread = 65

abbrev pub refused : Misread → Refusal
refused misreads.Misspelled = Misspelled
refused misreads.OutOfMemory = Unread
