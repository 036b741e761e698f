-- The phases of a demanded key in the opaque machine.
use Rattle.std.specs.Prelude.{ℕ, Bool, false, ◌==◌, Option, None, Some, min}

-- a response at its consumer, under the number of the delivery in progress. `accepted`: it was judged Complete before
pub record Judging (V : Type 0) : Type 0 where
  pub number : ℕ
  pub response : ℕ
  pub value : V
  pub accepted : Bool

-- what is being done for a demanded key
pub data Phase (V : Type 0) : Type 0 where
  Waiting : (due : ℕ) → Phase V
  Asked : (attempt : ℕ) → Phase V
  Judged : Judging V → Phase V

-- whether a key is asked for by this attempt
abbrev pub is_asked_by : {V : Type 0} → ℕ → Phase V → Bool
is_asked_by attempt (Asked a) = attempt == a
is_asked_by attempt phase = false

abbrev pub least : ℕ → Option ℕ → Option ℕ
least due None = Some due
least due (Some other) = Some (min due other)

abbrev pub least_due : {V : Type 0} → Phase V → Option ℕ → Option ℕ
least_due (Waiting due) later = least due later
least_due phase later = later
