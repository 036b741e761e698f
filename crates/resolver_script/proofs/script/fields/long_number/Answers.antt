use Rattle.std.proofs.Common.{◌≡◌, ℕ, ◌<◌, ◌≤◌, ◌^◌, Bool, List, [], ◌∷◌, length, nat_le, refl, true, false, arith, rules}
use Rattle.std.proofs.lemmas.Bool.{leb-true}
use Rattle.std.proofs.lemmas.Grind.{common_steps}
use Rattle.std.proofs.lemmas.Str.Parse.{numerals_by_value, parse_digits, tells_all_ascii_digits}
use Rattle.std.specs.Char.{is_ascii_digit}
use Rattle.std.specs.List.{list_all}
use Rattle.std.specs.Str.{all_ascii_digits}
use Rattle.std.specs.Str.Parse.{digits_value}
use Rattle.resolver_script.specs.Numbers.{begins_plainly, is_plain}
use Rattle.resolver_script.proofs.script.fields.long_number.Goals as goal

all-digits : (ds : List ℕ) → list_all is_ascii_digit ds ≡ all_ascii_digits ds
all-digits [] = refl
all-digits (d ∷ ds) = rw (all-digits ds) refl

-- what is too great for its type is no less than the type's bound
over : (number count : ℕ) → 0 < count → ((0 < count) × (number < 2 ^ 128) → ⊥) → 2 ^ 128 ≤ number
over number count some never = at (nat_le (2 ^ 128) number) refl
  where
    at : (b : Bool) → nat_le (2 ^ 128) number ≡ b → 2 ^ 128 ≤ number
    at true is = leb-true (2 ^ 128) number is
    at false is = absurd (never (some, grind (arith, common_steps, is)))

pub returns-in-Err : goal.returns-in-Err
returns-in-Err c =
    let ds = c.args.digits.now in
    let begins : begins_plainly ds ≡ true = search rules in
    let digits : list_all is_ascii_digit ds ≡ true = search rules in
    let some : 0 < length ds = grind (arith, common_steps, begins) in
    let plain : is_plain ds ≡ true = grind (arith, common_steps, begins, digits) in
    let read = parse_digits (numerals_by_value (λ ds. all_ascii_digits ds ≡ true) tells_all_ascii_digits) 128 ds c.parse.result c.parse.ensures.value.0 (rw (all-digits ds) at digits) in
    let above = over (digits_value 10 ds) (length ds) some (rw c.in-Err.is at read) in
    let most = c.ranges.most.fits in
    rw plain (grind (arith, common_steps, above, most))
