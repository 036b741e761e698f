-- What a key's subscribers are once some of them are served.
use Rattle.std.proofs.Common.{◌≡◌, ◌∙◌, ◌<◌, ℕ, List, [], ◌∷◌, None, Some, length, arith, refl, ap}
use Rattle.std.specs.Map.{lookup, remove_entry, set_value}
use Rattle.resolver_types.specs.Names.{Names, same_key}
use Rattle.resolver_types.specs.Subscribers.{without}
use Rattle.resolver_types.specs.Table.{left_with, rest_of, some_of, without_named, without_these}

module _ {K S : Type 0} (n : Names K S) (key : K) where
  left-some : (d : List (K × List (S × ℕ))) (left : List (S × ℕ)) → 0 < length left → left_with n key left d ≡ set_value (same_key n key) d left
  left-some d [] some = absurd (omega (arith, some))
  left-some d (s ∷ rest) some = refl

  some-is : (left : List (S × ℕ)) → 0 < length left → some_of left ≡ Some left
  some-is [] some = absurd (omega (arith, some))
  some-is (s ∷ rest) some = refl

  module _ (named : List (S × ℕ)) (d : List (K × List (S × ℕ))) where
    -- some are left
    pub named-some : (subscribers : List (S × ℕ)) → lookup (same_key n key) d ≡ Some subscribers → 0 < length (without n.subscriber named subscribers)
        → without_named n key named d ≡ set_value (same_key n key) d (without n.subscriber named subscribers)
    named-some subscribers there some = ap (without_these n key named d) there ∙ left-some d (without n.subscriber named subscribers) some

    pub rest-some : (subscribers : List (S × ℕ)) → lookup (same_key n key) d ≡ Some subscribers → 0 < length (without n.subscriber named subscribers)
        → rest_of n key named d ≡ Some (without n.subscriber named subscribers)
    rest-some subscribers there some = rw there (some-is (without n.subscriber named subscribers) some)

    -- none is left
    pub named-none : (subscribers : List (S × ℕ)) → lookup (same_key n key) d ≡ Some subscribers → without n.subscriber named subscribers ≡ []
        → without_named n key named d ≡ remove_entry (same_key n key) d
    named-none subscribers there none = ap (without_these n key named d) there ∙ ap (λ left. left_with n key left d) none

    pub rest-none : (subscribers : List (S × ℕ)) → lookup (same_key n key) d ≡ Some subscribers → without n.subscriber named subscribers ≡ []
        → rest_of n key named d ≡ None
    rest-none subscribers there none = rw there (ap some_of none)

    -- the key isn't there
    pub named-absent : lookup (same_key n key) d ≡ None → without_named n key named d ≡ d
    named-absent absent = ap (without_these n key named d) absent

    pub rest-absent : lookup (same_key n key) d ≡ None → rest_of n key named d ≡ None
    rest-absent absent = rw absent refl
