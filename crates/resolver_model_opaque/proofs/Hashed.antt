-- Keys by numbers in a hash table, looked up as in an ordered one.
use Rattle.std.proofs.Common.{◌≡◌, ◌∙◌, ap, refl, sym, ℕ, cond, List, [], ◌∷◌, Option, Some, ◌==◌, arith}
use Rattle.std.proofs.lemmas.Bool.Decides.{nat_tests}
use Rattle.std.specs.Map.{lookup}
use Rattle.std.specs.BTreeMap.{is_at}
use Rattle.std.specs.Ordering.{nat_cmp}

at-eq : (a k : ℕ) → (a == k) ≡ is_at (nat_cmp a) k
at-eq a k = grind (arith, nat_tests)

module _ {X : Type 0} where
  -- a number is found alike
  pub hashed : (a : ℕ) (es : List (ℕ × X)) → lookup (λ k. a == k) es ≡ lookup (is_at (nat_cmp a)) es
  hashed a [] = refl
  hashed a (e ∷ es) =
      ap (λ b. cond b (Some e.1) (lookup (λ k. a == k) es)) (at-eq a e.0)
      ∙ ap (cond (is_at (nat_cmp a) e.0) (Some e.1)) (hashed a es)

  -- one number leads elsewhere
  pub hashed-put : (n : ℕ) (w : Option X) (es fs : List (ℕ × X)) → ((a : ℕ) → lookup (λ k. a == k) fs ≡ cond (n == a) w (lookup (λ k. a == k) es))
      → (a : ℕ) → lookup (is_at (nat_cmp a)) fs ≡ cond (is_at (nat_cmp n) a) w (lookup (is_at (nat_cmp a)) es)
  hashed-put n w es fs puts a =
      sym (hashed a fs)
      ∙ puts a
      ∙ ap (λ b. cond b w (lookup (λ k. a == k) es)) (at-eq n a)
      ∙ ap (cond (is_at (nat_cmp n) a) w) (hashed a es)
