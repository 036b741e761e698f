-- What holds of whatever is made holds of what was made, if it was.
use Rattle.std.proofs.Common.{Result, Ok, Err, IfOk}

pub if-made : {A E : Type 0} (P : A → Type 0) → ((made : A) → P made) → (result : Result A E) → IfOk result P
if-made P holds (Ok made) = holds made
if-made P holds (Err fault) = tt
