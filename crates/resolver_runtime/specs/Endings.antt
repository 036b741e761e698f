-- How a loop ends, and what its owner is told.
use Rattle.std.specs.Prelude.{Option, Some, None, Result, Ok, Err}
use Rattle.resolver_base.specs.declared.fault.Fault.{Fault}
use Rattle.resolver_base.specs.declared.fault.Fault.TheVariants as faults
use Rattle.resolver_base.specs.declared.fault.Fault.TheVariants.{OutOfMemory, Exhausted}
use Rattle.resolver_runtime.specs.declared.running.ending.Ending.{Ending}
use Rattle.resolver_runtime.specs.declared.running.ending.Ending.TheVariants.{Complete, OutOfMemory as Starved, Exhausted as Spent}

-- what the owner of a loop that ended so is told
abbrev pub refusal_of : Ending → Result (Unit {0}) Fault
refusal_of Complete = Ok tt
refusal_of Starved = Err OutOfMemory
refusal_of Spent = Err Exhausted

-- how a loop ends whose machine refuses a step so, if it ends
abbrev pub ending_of : Fault → Option Ending
ending_of OutOfMemory = Some Starved
ending_of Exhausted = Some Spent
ending_of faults.Failed = None
ending_of faults.Ended = None
ending_of faults.Busy = None
ending_of faults.Unasked = None
ending_of faults.OutOfRange = None
ending_of faults.EndOfBuffer = None
ending_of faults.InvalidTag = None
ending_of faults.InvalidVarint = None
ending_of faults.ExtraData = None
ending_of faults.Key = None
ending_of faults.Uneven = None
