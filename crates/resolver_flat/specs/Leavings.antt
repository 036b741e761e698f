-- Pairs of a key and a subscriber that leave.
use Rattle.std.specs.Prelude.{◌≡◌, Bool, true, not, ◌||◌, List, [], ◌∷◌}
use Rattle.std.proofs.Common.{refl, ap, ◌∙◌, sym, true≢false}
use Rattle.std.specs.Cmp.{IsTotalOrder}
use Rattle.std.specs.BTreeSet.{insert_key}
use Rattle.std.specs.List.{list_any}
use Rattle.std.specs.Ordering.{is_eq, ordering_then}
use Rattle.std.specs.declared.cmp.Ordering.{Ordering}
use Rattle.std.specs.declared.cmp.Ordering.TheVariants.{Less, Equal, Greater}
use Rattle.resolver_types.specs.Names.{Names, same_key, same_subscriber}

module _ {K S : Type 0} (n : Names K S) where
  -- by the key, and then by the subscriber
  abbrev pub by_pair : K × S → K × S → Ordering
  by_pair p q = ordering_then (n.key p.0 q.0) (n.subscriber p.1 q.1)

  -- these pairs and more
  abbrev pub with_pairs : List (K × S) → List (K × S) → List (K × S)
  with_pairs held [] = held
  with_pairs held (p ∷ pairs) = with_pairs (insert_key by_pair held p) pairs

  -- these pairs, each once and in order
  abbrev pub set_of : List (K × S) → List (K × S)
  set_of = with_pairs []

  -- who is none of the pairs stays
  abbrev pub stays : List (K × S) → K → S → Bool
  stays pairs k s = not (list_any (λ p. is_eq (by_pair (k, s) p)) pairs)

equal_by : (o : Ordering) → is_eq o ≡ true → o ≡ Equal
equal_by Less h = absurd (true≢false (sym h))
equal_by Equal h = refl
equal_by Greater h = absurd (true≢false (sym h))

module _ {K S : Type 0} (n : Names K S) (by_key : IsTotalOrder n.key) (by_subscriber : IsTotalOrder n.subscriber) where
  has_alike : (pairs : List (K × S)) (k l : K) (s t : S) → n.key k l ≡ Equal → n.subscriber s t ≡ Equal
      → list_any (λ p. is_eq (by_pair n (k, s) p)) pairs ≡ list_any (λ p. is_eq (by_pair n (l, t) p)) pairs
  has_alike [] k l s t same same_too = refl
  has_alike (p ∷ pairs) k l s t same same_too =
      ap (λ o. is_eq (ordering_then o (n.subscriber s p.1)) || list_any (λ q. is_eq (by_pair n (k, s) q)) pairs) (by_key.congr k l p.0 same)
      ∙ ap (λ o. is_eq (ordering_then (n.key l p.0) o) || list_any (λ q. is_eq (by_pair n (k, s) q)) pairs) (by_subscriber.congr s t p.1 same_too)
      ∙ ap (λ b. is_eq (by_pair n (l, t) p) || b) (has_alike pairs k l s t same same_too)

  -- equal keys and equal subscribers stay alike
  pub stays_alike : (pairs : List (K × S)) (k l : K) (s t : S) → same_key n k l ≡ true → same_subscriber n s t ≡ true → stays n pairs k s ≡ stays n pairs l t
  stays_alike pairs k l s t same same_too =
      ap not (has_alike pairs k l s t (equal_by (n.key k l) same) (equal_by (n.subscriber s t) same_too))
