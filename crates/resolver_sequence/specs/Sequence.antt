-- Values under numbers, each in a slot; a slot whose value was taken is empty.
use denote.Param.Members.{Shared}
use Rattle.std.specs.Borrow.{Bor}
use Rattle.std.specs.Fn.{FnReturnsAt}
use Rattle.std.specs.Prelude.{◌≡◌, ◌<◌, ℕ, zero, suc, Bool, false, List, [], ◌∷◌, length, map, filter_map, Option, None, Some, option_map, is_none, MatchOption, Result, MatchResult}
use Rattle.std.specs.List.Sorted.{IsStrictlySortedBy}
use Rattle.std.specs.Ordering.{nat_cmp}
use Rattle.resolver_sequence.specs.declared.sequence.Slot.{Slot}
use Rattle.resolver_sequence.specs.declared.sequence.Slot.TheVariants.{Held, Taken}

module _ {T : Type 0} where
  abbrev pub number_of : Slot T → ℕ
  number_of (Held number value) = number
  number_of (Taken number) = number

  -- the value in a slot, unless it was taken
  abbrev pub value_of : Slot T → Option T
  value_of (Held number value) = Some value
  value_of (Taken number) = None

  -- the slot of a number, with this value or none
  abbrev pub slot_of : (number : ℕ) → Option T → Slot T
  slot_of number None = Taken number
  slot_of number (Some value) = Held number value

  -- what a slot holds, with its number
  abbrev pub entry_in : Slot T → Option (ℕ × T)
  entry_in slot = option_map (λ value. (number_of slot, value)) (value_of slot)

  -- what the slots hold, in their order
  abbrev pub entries_of : List (Slot T) → List (ℕ × T)
  entries_of slots = filter_map entry_in slots

  abbrev pub numbers_of : List (Slot T) → List ℕ
  numbers_of slots = map number_of slots

  -- whether there is a first slot that is empty
  abbrev pub begins_empty : List (Slot T) → Bool
  begins_empty [] = false
  begins_empty (slot ∷ slots) = is_none (value_of slot)

  -- The numbers rise, the values are counted, and the first slot has one.
  pub record AreKept (slots : List (Slot T)) (count : ℕ) : Type 0 where
    pub rising : IsStrictlySortedBy nat_cmp (numbers_of slots)
    pub counted : count ≡ length (entries_of slots)
    pub full : begins_empty slots ≡ false

  -- the slot at this place has this number
  abbrev pub IsAt : List (Slot T) → (number at : ℕ) → Type 0
  IsAt [] number at = ⊥
  IsAt (slot ∷ slots) number zero = number_of slot ≡ number
  IsAt (slot ∷ slots) number (suc at) = IsAt slots number at

  -- the slots before this place have smaller numbers, and the next one a greater
  abbrev pub IsBetween : List (Slot T) → (number at : ℕ) → Type 0
  IsBetween [] number at = at ≡ zero
  IsBetween (slot ∷ slots) number zero = number < number_of slot
  IsBetween (slot ∷ slots) number (suc at) = (number_of slot < number) × IsBetween slots number at

  -- where a number stands, or else would stand
  abbrev pub IsPlaced : List (Slot T) → (number : ℕ) → Result ℕ ℕ → Type 0
  IsPlaced slots number place = MatchResult place (IsAt slots number) (IsBetween slots number)

  abbrev pub value_at : List (Slot T) → (at : ℕ) → Option T
  value_at [] at = None
  value_at (slot ∷ slots) zero = value_of slot
  value_at (slot ∷ slots) (suc at) = value_at slots at

  -- with this value, or none, in the slot at a place
  abbrev pub with_value : List (Slot T) → (at : ℕ) → Option T → List (Slot T)
  with_value [] at value = []
  with_value (slot ∷ slots) zero value = slot_of (number_of slot) value ∷ slots
  with_value (slot ∷ slots) (suc at) value = slot ∷ with_value slots at value

-- A closure answers whether a slot is kept: of an empty one `false`, of another what `keep` answers of the value.
abbrev pub IsKeptBy : {F T : Type 0} → Shared F (Bor T × Unit {0}) Bool → F → Slot T → Bool → Type 0
IsKeptBy g keep slot answer = MatchOption (value_of slot) (answer ≡ false) (λ value. FnReturnsAt g keep value answer)
