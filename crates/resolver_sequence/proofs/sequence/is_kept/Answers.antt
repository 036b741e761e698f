use Rattle.std.proofs.Common.{refl}
use Rattle.resolver_sequence.proofs.sequence.is_kept.Goals as goal

pub returns-in-Some : goal.returns-in-Some
returns-in-Some g c = rw (← c.value.ensures, c.in-Some.is) (record { shown = _; shows = refl; says = record { met = c.keep.ensures } })
