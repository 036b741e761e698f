-- Numbers as a script writes them: decimal digits, without a sign or leading zeros.
use Rattle.std.specs.Prelude.{ℕ, Bool, false, not, ◌&&◌, ◌||◌, ◌==◌, nat_lt, nat_le, List, [], ◌∷◌, map, length, get_or, Option, None, Some, Result, Ok, Err, if◌then◌else◌}
use Rattle.std.specs.Char.{is_ascii_digit}
use Rattle.std.specs.List.{list_all, slice_split}
use Rattle.std.specs.Str.Parse.{digits_value}
use Rattle.resolver_script.specs.declared.script.Unread.{Unread}
use Rattle.resolver_script.specs.declared.script.Unread.TheVariants.{Unreadable}
use Rattle.resolver_script.specs.declared.script.wrong.Why.TheVariants.{Above, Missing, NoList, NoNumber}

-- digits, of which 0 comes first only where it stands alone
abbrev pub is_plain : List ℕ → Bool
is_plain ds = nat_lt 0 (length ds) && (length ds == 1 || not (get_or ds 0 0 == 48)) && list_all is_ascii_digit ds

-- a digit comes first, which is 0 only where it stands alone
abbrev pub begins_plainly : List ℕ → Bool
begins_plainly ds = nat_lt 0 (length ds) && (length ds == 1 || not (get_or ds 0 0 == 48)) && is_ascii_digit (get_or ds 0 0)

-- whether these digits write a number within its limit
abbrev pub is_number : (digits : List ℕ) → (most : ℕ) → Bool
is_number digits most = is_plain digits && nat_le (digits_value 10 digits) most

-- a number that is within its limit
abbrev pub within : (number : ℕ) → (most : ℕ) → Result ℕ Unread
within number most = if nat_le number most then Ok number else Err (Unreadable (Above most))

-- the number that the digits write, if they write one within its limit
abbrev pub number_in : (digits : List ℕ) → (most : ℕ) → Result ℕ Unread
number_in digits most =
    if is_plain digits then within (digits_value 10 digits) most else Err (Unreadable NoNumber)

-- what a field says; there may be none
abbrev pub number_of : Option (List ℕ) → (most : ℕ) → Result ℕ Unread
number_of None most = Err (Unreadable Missing)
number_of (Some digits) most = number_in digits most

-- the parts of a list, between its commas
abbrev pub parts_of : List ℕ → List (List ℕ)
parts_of text = slice_split (λ byte. byte == 44) text

-- the numbers that all parts write, if they do
abbrev pub numbers_in : (parts : List (List ℕ)) → (most : ℕ) → Result (List ℕ) Unread
numbers_in parts most =
    if list_all (λ digits. is_number digits most) parts then Ok (map (digits_value 10) parts) else Err (Unreadable NoList)

-- the empty list is a dash
abbrev pub is_dash : List ℕ → Bool
is_dash (byte ∷ []) = byte == 45
is_dash _ = false

-- the numbers of a list, within their limit; there may be no field
abbrev pub list_of : Option (List ℕ) → (most : ℕ) → Result (List ℕ) Unread
list_of None most = Err (Unreadable Missing)
list_of (Some text) most = if is_dash text then Ok [] else numbers_in (parts_of text) most
