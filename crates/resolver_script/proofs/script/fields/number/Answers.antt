use Rattle.std.proofs.Common.{◌≡◌, ℕ, ◌<◌, ◌==◌, suc, Bool, List, [], ◌∷◌, length, drop, cond, refl, true, false, ap, ◌∙◌, arith, rules}
use Rattle.std.proofs.lemmas.Grind.{common_steps}
use Rattle.std.specs.Prelude.{slice_index, ◌≢◌}
use Rattle.std.specs.Int.{IsInRange}
use Rattle.std.specs.Char.{is_ascii_digit}
use Rattle.std.specs.List.{list_all}
use Rattle.std.specs.Str.Parse.{AllDigitsAfterFirst, digits_value, without_leading_plus}
use Rattle.resolver_script.specs.Numbers.{begins_plainly, is_plain}
use Rattle.resolver_script.proofs.script.fields.number.Goals as goal

-- bytes of which each is a digit
all-digits : (ds : List ℕ) → ((k : ℕ) → k < length ds → IsInRange 48 57 (slice_index ds k)) → list_all is_ascii_digit ds ≡ true
all-digits [] each = refl
all-digits (d ∷ ds) each =
    let first = each 0 (search rules) in
    let rest = all-digits ds (λ k in_range. each (suc k) (omega arith)) in
    grind (arith, common_steps, first, rest)

-- digits that a number was read from
read-plain : (ds : List ℕ) → begins_plainly ds ≡ true → AllDigitsAfterFirst (slice_index ds 0 ≢ 43) ds → is_plain ds ≡ true
read-plain [] begins after = begins
read-plain (d ∷ ds) begins after =
    let rest = all-digits ds (λ k in_range. after.2 (suc k) (omega arith) (omega arith)) in
    grind (arith, common_steps, begins, rest)

-- a digit that comes first is no sign
unsigned : (ds : List ℕ) → begins_plainly ds ≡ true → without_leading_plus ds ≡ ds
unsigned [] begins = refl
unsigned (d ∷ ds) begins = at (d == 43) refl
  where
    at : (b : Bool) → (d == 43) ≡ b → drop (cond b 1 0) (d ∷ ds) ≡ d ∷ ds
    at true is = absurd (let clash : false ≡ true = grind (arith, common_steps, begins, is) in cc)
    at false is = refl

pub returns-in-Ok-clause-is : goal.returns-in-Ok-clause-is
returns-in-Ok-clause-is c =
    let ds = c.in_ok-digits.digits.now in
    let begins : begins_plainly ds ≡ true = search rules in
    let plain = read-plain ds begins c.in-Ok.ensures.value.2 in
    let value = c.in-Ok.ensures.value.0.1 ∙ ap (digits_value 10) (unsigned ds begins) in
    rw (c.within.ensures, c.from.ensures, value) (search rules)
