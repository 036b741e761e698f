-- Inputs that are read, seen as the machine sees them.
use Rattle.std.specs.Prelude.{◌==◌, nat_lt, option_map, if◌then◌else◌}
use Rattle.std.proofs.Common.{◌≡◌, ℕ, ◌<◌, Bool, true, false, List, length, Option, None, Some, Result, Ok, Err, refl, ap, ◌∙◌, rules}
use Rattle.resolver_flat.specs.declared.reading.Misread.{Misread}
use Rattle.resolver_flat.specs.declared.reading.Misread.TheVariants as misreads
use Rattle.resolver_flat.specs.Naming.{Shape}
use Rattle.resolver_flat.specs.Reading.{◌>>=◌, Gives, octet_at, whole}
use Rattle.resolver_flat_machine.specs.Inputs.{answers_at, happens_at, input_at}

module _ {A B : Type 0} (view : A → B) where
  if_said : (a : A) (is : Bool) → (if is then Some (view a) else None) ≡ option_map view (if is then Some a else None)
  if_said a true = refl
  if_said a false = refl

  -- what is read, all of it, seen by a view
  whole_said : (read : Option (B × List ℕ)) (a : A) (rest : List ℕ) (found : Option A) → read ≡ Some (view a, rest) → whole (Some (a, rest)) ≡ found
      → whole read ≡ option_map view found
  whole_said read a rest found is all = ap whole is ∙ if_said a (length rest == 0) ∙ ap (option_map view) all

  pub gives_whole : (read : Option (B × List ℕ)) (a : A) (rest : List ℕ) (result : Result A Misread) → read ≡ Some (view a, rest)
      → Gives (λ x. x) result (whole (Some (a, rest))) → Gives view result (whole read)
  gives_whole read a rest (Ok b) is gives = whole_said read a rest (Some b) is gives
  gives_whole read a rest (Err misreads.Misspelled) is gives = whole_said read a rest None is gives
  gives_whole read a rest (Err misreads.OutOfMemory) is gives = tt

below_is : (tag : ℕ) → tag < 16 → nat_lt tag 16 ≡ true
below_is tag below = search rules

-- a tag below 16 is that of an event
pub event_read : {K : Type 0} (n : Shape K) (moment tag : ℕ) (bytes rest : List ℕ) → octet_at bytes ≡ Some (tag, rest) → tag < 16
    → input_at n moment bytes ≡ happens_at n tag rest
unfolding input_at
event_read n moment tag bytes rest read below =
    ap (λ found. found >>= (λ tag. if nat_lt tag.0 16 then happens_at n tag.0 tag.1 else answers_at n moment tag.0 tag.1)) read
    ∙ ap (λ is. if is then happens_at n tag rest else answers_at n moment tag rest) (below_is tag below)
