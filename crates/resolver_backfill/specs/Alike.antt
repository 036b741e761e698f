-- Equal keys and subscribers are kept alike.
use Rattle.std.proofs.Common.{◌≡◌, ◌∙◌, sym, ap, refl, true, not, ◌&&◌, ◌||◌, List, [], ◌∷◌, Option, None, Some, true≢false}
use Rattle.std.specs.Cmp.{IsTotalOrder}
use Rattle.std.specs.Ordering.{is_eq, is_lt}
use Rattle.std.specs.declared.cmp.Ordering.{Ordering}
use Rattle.std.specs.declared.cmp.Ordering.TheVariants.{Less, Equal, Greater}
use Rattle.resolver_types.specs.Names.{Names, same_key, same_subscriber}
use Rattle.resolver_backfill.specs.Plans.{Without, has, is_below, is_below_any, keeps, is_gone}

equal_by : (o : Ordering) → is_eq o ≡ true → o ≡ Equal
equal_by Less h = absurd (true≢false (sym h))
equal_by Equal h = refl
equal_by Greater h = absurd (true≢false (sym h))

module _ {K : Type 0} (cmp : K → K → Ordering) (total : IsTotalOrder cmp) where
  pub has_alike : (keys : List K) (k l : K) → is_eq (cmp k l) ≡ true → has cmp keys k ≡ has cmp keys l
  has_alike [] k l same = refl
  has_alike (x ∷ keys) k l same =
      ap (λ o. is_eq o || has cmp keys k) (total.congr k l x (equal_by (cmp k l) same))
      ∙ ap (λ b. is_eq (cmp l x) || b) (has_alike keys k l same)

  pub below_alike : (bound k l : K) → is_eq (cmp k l) ≡ true → is_below cmp bound k ≡ is_below cmp bound l
  below_alike bound k l same = ap is_lt (total.congr k l bound (equal_by (cmp k l) same))

  below_any_alike : (bound : Option K) (k l : K) → is_eq (cmp k l) ≡ true → is_below_any cmp bound k ≡ is_below_any cmp bound l
  below_any_alike None k l same = refl
  below_any_alike (Some bound) k l same = below_alike bound k l same

module _ {K S : Type 0} (n : Names K S) (by_key : IsTotalOrder n.key) (by_subscriber : IsTotalOrder n.subscriber) where
  gone_alike : (without : Without K S) (k l : K) → same_key n k l ≡ true → is_gone n.key without k ≡ is_gone n.key without l
  gone_alike without k l same =
      ap (λ b. b || is_below_any n.key without.below k) (has_alike n.key by_key without.keys k l same)
      ∙ ap (λ b. has n.key without.keys l || b) (below_any_alike n.key by_key without.below k l same)

  pub keeps_alike : (without : Without K S) (k l : K) (s t : S) → same_key n k l ≡ true → same_subscriber n s t ≡ true → keeps n without k s ≡ keeps n without l t
  keeps_alike without k l s t same same_too =
      ap (λ o. not (is_eq o && is_gone n.key without k)) (by_subscriber.congr s t without.subscriber (equal_by (n.subscriber s t) same_too))
      ∙ ap (λ b. not (same_subscriber n t without.subscriber && b)) (gone_alike without k l same)
