-- A list that takes the items of another one, one after another.
use Rattle.std.proofs.Common.{◌≡◌, refl, ap, sym, ◌∙◌, true, false, Bool, not, ◌||◌, cond, ℕ, ◌≤◌, List, [], ◌∷◌, ◌++◌, length, length-append, take, arith}
use Rattle.std.proofs.lemmas.Grind.{common_steps}
use Rattle.std.proofs.lemmas.List.{take-append-le}
use Rattle.std.proofs.lemmas.List.Folds.{list_any-append}
use Rattle.std.specs.List.{list_any}
use Rattle.resolver_types.specs.Joined.{joined}

-- what is new wasn't there
pub wasnt : (new there : Bool) → new ≡ not there → new ≡ true → there ≡ false
wasnt new there is first = grind (arith, common_steps, is, first)

-- what isn't new was there
pub was : (new there : Bool) → new ≡ not there → new ≡ false → there ≡ true
was new there is again = grind (arith, common_steps, is, again)

-- either of two, in either order
swapped : (a b : Bool) → (a || (b || false)) ≡ (b || a)
swapped true true = refl
swapped true false = refl
swapped false true = refl
swapped false false = refl

module _ {A : Type 0} where
  -- tests that agree find the same
  any-same : (p q : A → Bool) (list : List A) → ((a : A) → p a ≡ q a) → list_any p list ≡ list_any q list
  any-same p q [] alike = refl
  any-same p q (a ∷ list) alike = ap (λ b. b || list_any p list) (alike a) ∙ ap (λ b. q a || b) (any-same p q list alike)

  -- the index of a list gets what goes last there
  pub indexed-new : (p : A → Bool) (list after : List A) (one : A) (had has is : Bool) → after ≡ list ++ one ∷ [] → p one ≡ is
      → had ≡ list_any p list → has ≡ (is || had) → has ≡ list_any p after
  indexed-new p list after one had has is pushed here before noted =
      noted
      ∙ ap (λ b. is || b) before
      ∙ ap (λ b. b || list_any p list) (sym here)
      ∙ sym (swapped (list_any p list) (p one))
      ∙ sym (list_any-append p list (one ∷ []))
      ∙ ap (list_any p) (sym pushed)

  -- the index of a list gets what is there already
  pub indexed-there : (p q : A → Bool) (list : List A) (had has is : Bool) → (is ≡ true → (a : A) → p a ≡ q a) → list_any q list ≡ true
      → had ≡ list_any p list → has ≡ (is || had) → has ≡ list_any p list
  indexed-there p q list had has true alike there before noted = noted ∙ sym (any-same p q list (alike refl) ∙ there)
  indexed-there p q list had has false alike there before noted = noted ∙ before

  -- those that were there first come first
  pub first-more : (count : ℕ) (start list after : List A) (one : A) → after ≡ list ++ one ∷ [] → count ≡ length start → length start ≤ length list
      → take count list ≡ start → take count after ≡ start
  first-more count start list after one pushed counted grows first =
      ap (take count) pushed ∙ take-append-le count list (one ∷ []) (rw counted grows) ∙ first

  -- a list that takes one more has no fewer
  pub grows-more : (start list after : List A) (one : A) → after ≡ list ++ one ∷ [] → length start ≤ length list → length start ≤ length after
  grows-more start list after one pushed grows = omega (arith, grows, ap length pushed, length-append list (one ∷ []))

  module _ (same : A → A → Bool) where
    -- a new one goes last
    pub joined-new : (list after left rest all : List A) (one : A) → left ≡ one ∷ rest → list_any (λ other. same other one) list ≡ false
        → after ≡ list ++ one ∷ [] → joined same list left ≡ all → joined same after rest ≡ all
    joined-new list after left rest all one steps new pushed before =
        ap (λ items. joined same items rest) (pushed ∙ ap (λ is. cond is list (list ++ one ∷ [])) (sym new)) ∙ ap (joined same list) (sym steps) ∙ before

    -- one that is there is passed over
    pub joined-there : (list left rest all : List A) (one : A) → left ≡ one ∷ rest → list_any (λ other. same other one) list ≡ true
        → joined same list left ≡ all → joined same list rest ≡ all
    joined-there list left rest all one steps there before =
        ap (λ is. joined same (cond is list (list ++ one ∷ [])) rest) (sym there) ∙ ap (joined same list) (sym steps) ∙ before

    -- where none is left, all are joined
    pub joined-end : (list left all : List A) → length left ≡ 0 → joined same list left ≡ all → list ≡ all
    joined-end list [] all none before = before
    joined-end list (one ∷ left) all none before = absurd (omega (arith, none))
