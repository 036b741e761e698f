use Rattle.std.proofs.Common.{rules, arith, ◌≡◌, ◌<◌, map, get_or, Ok, Err, ℕ, length, true, false, List, Bor, refl, sym, ◌∙◌}
use Rattle.std.proofs.lemmas.Grind.{common_steps}
use Rattle.std.proofs.lemmas.List.Folds.{list_all-map, list_all_at}
use Rattle.std.proofs.lemmas.Simd.{map-map}
use Rattle.std.specs.List.{list_all}
use Rattle.std.specs.Str.Parse.{digits_value}
use Rattle.resolver_script.specs.Numbers.{is_number, number_in, numbers_in}
use Rattle.resolver_script.specs.declared.script.Unread.{Unread}
use Rattle.resolver_script.specs.declared.script.Unread.TheVariants.{Unreadable}
use Rattle.resolver_script.specs.declared.script.wrong.Why.TheVariants.{NoList}
use Rattle.resolver_script.proofs.script.fields.numbers.Goals as goal

-- what all parts write
all_read : (parts : List (Bor (List ℕ))) (read : List ℕ) → list_all (λ part. is_number part.now 255) parts ≡ true → read ≡ map (λ part. digits_value 10 part.now) parts → numbers_in (map (λ part. part.now) parts) 255 ≡ Ok read
all_read parts read written is =
    let each = list_all-map (λ digits. is_number digits 255) (λ part. part.now) parts in
    let values = map-map (digits_value 10) (λ part. part.now) parts in
    rw (each, written, values, is) refl

-- digits that write no number
no_number : (digits : List ℕ) (unread : Unread) → number_in digits 255 ≡ Err unread → is_number digits 255 ≡ false
no_number digits unread is = grind (arith, common_steps, is)

-- a part that writes none
one_unread : (parts : List (Bor (List ℕ))) (place : ℕ) (unread : Unread) (other : Bor (List ℕ)) → place < length parts → number_in (get_or parts place other).now 255 ≡ Err unread → numbers_in (map (λ part. part.now) parts) 255 ≡ Err (Unreadable NoList)
one_unread parts place unread other within is =
    let none = no_number (get_or parts place other).now unread is in
    let each = list_all-map (λ digits. is_number digits 255) (λ part. part.now) parts in
    let some = list_all_at (λ part. is_number part.now 255) parts place other within none in
    rw (each, some) refl

pub returns-in-Err-clause-err : goal.returns-in-Err-clause-err
returns-in-Err-clause-err c =
    let unread = one_unread c.args.parts.now c.loop-part.part-index c.in-Err.field-0 _ c.loop-part-test.true (sym c.peer.ensures ∙ c.in-Err.is) in
    search (rules, unread)

pub returns-clause-is : goal.returns-clause-is
returns-clause-is c = all_read c.args.parts.now c.loop-part.numbers.items (grind (arith, common_steps, c.loop-part.invariant)) (grind (arith, common_steps, c.loop-part.invariant))
