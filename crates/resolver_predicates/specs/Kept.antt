-- Who is kept by the predicates of day by day.
use Rattle.std.specs.Prelude.{◌≡◌, Bool, true, ◌||◌, List, [], ◌∷◌}
use Rattle.std.proofs.Common.{refl, ap, ◌∙◌, sym, true≢false}
use Rattle.std.specs.Cmp.{IsTotalOrder}
use Rattle.std.specs.List.{list_any}
use Rattle.std.specs.Ordering.{is_eq}
use Rattle.std.specs.declared.cmp.Ordering.{Ordering}
use Rattle.std.specs.declared.cmp.Ordering.TheVariants.{Less, Equal, Greater}

equal_by : (o : Ordering) → is_eq o ≡ true → o ≡ Equal
equal_by Less h = absurd (true≢false (sym h))
equal_by Equal h = refl
equal_by Greater h = absurd (true≢false (sym h))

module _ {K : Type 0} (cmp : K → K → Ordering) where
  -- whether this is the one
  abbrev pub is_one : (one : K) → K → Bool
  is_one one k = is_eq (cmp k one)

  -- whether this is one of them
  abbrev pub has : List K → K → Bool
  has ones k = list_any (λ one. is_one one k) ones

  module _ (total : IsTotalOrder cmp) where
    pub is_alike : (one k l : K) → is_eq (cmp k l) ≡ true → is_one one k ≡ is_one one l
    is_alike one k l same = ap is_eq (total.congr k l one (equal_by (cmp k l) same))

    pub has_alike : (ones : List K) (k l : K) → is_eq (cmp k l) ≡ true → has ones k ≡ has ones l
    has_alike [] k l same = refl
    has_alike (one ∷ ones) k l same = ap (λ b. b || has ones k) (is_alike one k l same) ∙ ap (λ b. is_one one l || b) (has_alike ones k l same)
