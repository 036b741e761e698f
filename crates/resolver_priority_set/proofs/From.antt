-- The pairs from a priority on begin at that priority with the least item.
use Rattle.std.proofs.Common.{◌≡◌, refl, ap, sym, ◌∙◌, true, false, List, [], ◌∷◌, is_some, filter, arith}
use Rattle.std.proofs.lemmas.Grind.{common_steps}
use Rattle.std.proofs.lemmas.Cmp.{alike_right, tied_itself}
use Rattle.std.proofs.lemmas.List.Elements.{All-head, All-tail}
use Rattle.std.specs.Cmp.{IsTotalOrder, Equal-is}
use Rattle.std.specs.List.{All}
use Rattle.std.specs.Ordering.{is_gt, ordering_then}
use Rattle.std.specs.declared.cmp.Ordering.{Ordering}
use Rattle.std.specs.declared.cmp.Ordering.TheVariants.{Less, Equal, Greater}
use Rattle.std.specs.declared.ops.Bound.TheVariants.{Included, Unbounded}
use Rattle.std.specs.BTreeMap.{is_at}
use Rattle.std.specs.BTreeMap.Range.{IsLeBy, range_contains}
use Rattle.std.specs.Map.{keys_of, lookup}
use Rattle.resolver_priority_set.specs.Priorities.{IsIndexed, from, has_item, pair_order}
use Rattle.resolver_priority_set.proofs.Priorities.{has_item-some}

module _ {I R : Type 0} {by_item : I → I → Ordering} (o : IsTotalOrder by_item) where
  -- no item that is found is less than the least
  least-found : (least item : I) (index : List (I × R)) → All (IsLeBy by_item least) (keys_of index)
      → is_some (lookup (is_at (by_item item)) index) ≡ true → is_gt (by_item least item) ≡ false
  least-found least item [] all there = cc
  least-found least item (e ∷ index) all there =
      let first = All-head (IsLeBy by_item least) e.0 (keys_of index) all in
      let rest = least-found least item index (All-tail (IsLeBy by_item least) e.0 (keys_of index) all) in
      let tied = Equal-is (by_item item e.0) in
      let alike : by_item item e.0 ≡ Equal → is_gt (by_item least item) ≡ is_gt (by_item least e.0) = λ same. ap is_gt (alike_right o item e.0 least same) in
      grind (arith, common_steps, first, rest, tied, alike, there)

  module _ (by_priority : R → R → Ordering) (priority : R) (least : I) where
    start-same : (x y : Ordering) → is_gt y ≡ false → is_gt (ordering_then x y) ≡ is_gt x
    start-same Less y le = refl
    start-same Equal y le = le
    start-same Greater y le = refl

    begins-from : (pairs : List (R × I)) → ((item : I) → has_item by_item pairs item ≡ true → is_gt (by_item least item) ≡ false)
        → filter (range_contains (pair_order by_priority by_item) (Included (priority, least)) Unbounded) pairs ≡ from by_priority priority pairs
    begins-from [] at_least = refl
    begins-from (p ∷ pairs) at_least =
        let rest = begins-from pairs (λ item there. at_least item (grind (arith, common_steps, there))) in
        let here : is_gt (by_item least p.1) ≡ false = at_least p.1 (rw (tied_itself o p.1) refl) in
        let same = start-same (by_priority priority p.0) (by_item least p.1) here in
        grind (arith, common_steps, rest, same)

    -- the pairs from a priority and the least item on are those from the priority on
    pub from-least : (pairs : List (R × I)) (index : List (I × R)) → IsIndexed by_priority by_item pairs index → All (IsLeBy by_item least) (keys_of index)
        → filter (range_contains (pair_order by_priority by_item) (Included (priority, least)) Unbounded) pairs ≡ from by_priority priority pairs
    from-least pairs index indexed all =
        begins-from pairs (λ item there. least-found least item index all (sym (has_item-some o item pairs (lookup (is_at (by_item item)) index) (indexed.same item)) ∙ there))

  -- where the index is empty there are no pairs
  pub none-indexed : (by_priority : R → R → Ordering) (pairs : List (R × I)) → IsIndexed by_priority by_item pairs [] → pairs ≡ []
  none-indexed by_priority [] indexed = refl
  none-indexed by_priority (p ∷ pairs) indexed =
      let none = indexed.same p.1 in
      let at = tied_itself o p.1 in
      absurd (grind (arith, common_steps, none, at))
