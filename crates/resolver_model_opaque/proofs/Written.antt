-- What is written into a map twice.
use Rattle.std.proofs.Common.{◌≡◌, refl, Bool, true, false, cond, List, [], ◌∷◌, Some}
use Rattle.std.specs.Map.{lookup, set_value, remove_entry}

module _ {K X : Type 0} where
  -- the last write stays
  pub set-set : (test : K → Bool) (es : List (K × X)) (v w : X) → set_value test (set_value test es v) w ≡ set_value test es w
  set-set test [] v w = refl
  set-set test (e ∷ es) v w = at (test e.0) refl (set-set test es v w)
    where
      at : (b : Bool) → test e.0 ≡ b → set_value test (set_value test es v) w ≡ set_value test es w
          → set_value test (cond b ((e.0, v) ∷ es) (e ∷ set_value test es v)) w ≡ cond b ((e.0, w) ∷ es) (e ∷ set_value test es w)
      at true is rest = rw is refl
      at false is rest = rw (is, rest) refl

  pub remove-set : (test : K → Bool) (es : List (K × X)) (v : X) → remove_entry test (set_value test es v) ≡ remove_entry test es
  remove-set test [] v = refl
  remove-set test (e ∷ es) v = at (test e.0) refl (remove-set test es v)
    where
      at : (b : Bool) → test e.0 ≡ b → remove_entry test (set_value test es v) ≡ remove_entry test es
          → remove_entry test (cond b ((e.0, v) ∷ es) (e ∷ set_value test es v)) ≡ cond b es (e ∷ remove_entry test es)
      at true is rest = rw is refl
      at false is rest = rw (is, rest) refl

  pub lookup-set_self : (test : K → Bool) (es : List (K × X)) (v w : X) → lookup test es ≡ Some v → lookup test (set_value test es w) ≡ Some w
  lookup-set_self test [] v w found = cc
  lookup-set_self test (e ∷ es) v w found = at (test e.0) refl found (λ later. lookup-set_self test es v w later)
    where
      at : (b : Bool) → test e.0 ≡ b → cond b (Some e.1) (lookup test es) ≡ Some v → (lookup test es ≡ Some v → lookup test (set_value test es w) ≡ Some w)
          → lookup test (cond b ((e.0, w) ∷ es) (e ∷ set_value test es w)) ≡ Some w
      at true is found rest = rw is refl
      at false is found rest = rw (is, rest found) refl
