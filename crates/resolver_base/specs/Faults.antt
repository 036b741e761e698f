-- The numbers and the names of the refusals.
use Rattle.std.specs.Prelude.{ℕ, List, codes}
use Rattle.resolver_base.specs.declared.fault.Fault.{Fault}
use Rattle.resolver_base.specs.declared.fault.Fault.TheVariants as faults

abbrev pub number_of : Fault → ℕ
number_of faults.OutOfMemory = 1
number_of faults.Failed = 2
number_of faults.Ended = 3
number_of faults.Busy = 4
number_of faults.Unasked = 5
number_of faults.OutOfRange = 6
number_of faults.Exhausted = 7
number_of faults.EndOfBuffer = 8
number_of faults.InvalidTag = 9
number_of faults.InvalidVarint = 10
number_of faults.ExtraData = 11
number_of faults.Key = 12
number_of faults.Uneven = 13

abbrev pub name_of : Fault → List ℕ
name_of faults.OutOfMemory = codes "OutOfMemory"
name_of faults.Failed = codes "Failed"
name_of faults.Ended = codes "Ended"
name_of faults.Busy = codes "Busy"
name_of faults.Unasked = codes "Unasked"
name_of faults.OutOfRange = codes "OutOfRange"
name_of faults.Exhausted = codes "Exhausted"
name_of faults.EndOfBuffer = codes "EndOfBuffer"
name_of faults.InvalidTag = codes "InvalidTag"
name_of faults.InvalidVarint = codes "InvalidVarint"
name_of faults.ExtraData = codes "ExtraData"
name_of faults.Key = codes "Key"
name_of faults.Uneven = codes "Uneven"
