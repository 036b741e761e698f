-- What is found under a number once a value was put, or taken.
use Rattle.std.proofs.Common.{◌≡◌, refl, ℕ, List, [], ◌∷◌, None, Some, cond, arith}
use Rattle.std.proofs.lemmas.Grind.{common_steps}
use Rattle.std.proofs.lemmas.Bool.Decides.{nat_tests}
use Rattle.std.specs.List.Sorted.{IsStrictlySortedBy}
use Rattle.std.specs.Map.{keys_of, lookup, remove_entry}
use Rattle.std.specs.BTreeMap.{insert_entry, is_at}
use Rattle.std.specs.Ordering.{match_ordering, nat_cmp}
use Rattle.std.specs.declared.cmp.Ordering.{Ordering}
use Rattle.std.specs.declared.cmp.Ordering.TheVariants.{Less, Equal, Greater}
use Rattle.resolver_sequence.proofs.Slots.{lookup-none}

module _ {T : Type 0} where
  pub lookup-put : (n : ℕ) (x : T) (q : ℕ) (es : List (ℕ × T)) → lookup (is_at (nat_cmp q)) (insert_entry nat_cmp es n x) ≡ cond (is_at (nat_cmp n) q) (Some x) (lookup (is_at (nat_cmp q)) es)
  lookup-put n x q [] = grind (arith, nat_tests, common_steps)
  lookup-put n x q (e ∷ es) = by (nat_cmp n e.0) refl (lookup-put n x q es)
    where
      by : (o : Ordering) → nat_cmp n e.0 ≡ o → lookup (is_at (nat_cmp q)) (insert_entry nat_cmp es n x) ≡ cond (is_at (nat_cmp n) q) (Some x) (lookup (is_at (nat_cmp q)) es)
          → lookup (is_at (nat_cmp q)) (match_ordering o ((n, x) ∷ e ∷ es) ((e.0, x) ∷ es) (e ∷ insert_entry nat_cmp es n x)) ≡ cond (is_at (nat_cmp n) q) (Some x) (lookup (is_at (nat_cmp q)) (e ∷ es))
      by Less is rest = grind (arith, nat_tests, common_steps, is)
      by Equal is rest = grind (arith, nat_tests, common_steps, is)
      by Greater is rest = grind (arith, nat_tests, common_steps, is, rest)

  pub lookup-taken : (n q : ℕ) (es : List (ℕ × T)) → IsStrictlySortedBy nat_cmp (keys_of es) → lookup (is_at (nat_cmp q)) (remove_entry (is_at (nat_cmp n)) es) ≡ cond (is_at (nat_cmp n) q) None (lookup (is_at (nat_cmp q)) es)
  unfolding IsStrictlySortedBy
  lookup-taken n q [] sorted = grind (arith, nat_tests, common_steps)
  lookup-taken n q (e ∷ es) sorted =
      let none = lookup-none e.0 es sorted.0 in
      let rest = lookup-taken n q es sorted.1 in
      grind (arith, nat_tests, common_steps, none, rest)
