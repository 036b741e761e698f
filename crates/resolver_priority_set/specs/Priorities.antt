-- A set that is ordered by priority, as its pairs of a priority and an item: each item once, in the order of the pairs.
use Rattle.std.specs.Prelude.{◌≡◌, Bool, not, List, [], ◌∷◌, filter, map, Option, None, Some, is_some, find}
use Rattle.std.specs.List.{list_any}
use Rattle.std.specs.Option.{option_map_or}
use Rattle.std.specs.List.Sorted.{IsStrictlySortedBy}
use Rattle.std.specs.Ordering.{is_eq, is_le, is_lt, ordering_then}
use Rattle.std.specs.declared.cmp.Ordering.{Ordering}
use Rattle.std.specs.BTreeMap.{is_at}
use Rattle.std.specs.BTreeSet.{insert_key}
use Rattle.std.specs.Map.{lookup}

-- by priority, and then by item
abbrev pub pair_order : {I R : Type 0} → (R → R → Ordering) → (I → I → Ordering) → R × I → R × I → Ordering
pair_order by_priority by_item p q = ordering_then (by_priority p.0 q.0) (by_item p.1 q.1)

-- what there is, as a list
abbrev pub listed : {R : Type 0} → Option R → List R
listed None = []
listed (Some r) = r ∷ []

module _ {I R : Type 0} (by_item : I → I → Ordering) where
  -- whether a pair is that of the item
  abbrev pub is_of : I → R × I → Bool
  is_of item p = is_eq (by_item item p.1)

  abbrev pub has_item : List (R × I) → I → Bool
  has_item pairs item = list_any (is_of item) pairs

  abbrev pub without : I → List (R × I) → List (R × I)
  without item pairs = filter (λ p. not (is_of item p)) pairs

  -- the priorities of an item: one, if it is there
  abbrev pub priorities_of : List (R × I) → I → List R
  priorities_of pairs item = map (λ p. p.0) (filter (is_of item) pairs)

  -- an item as it is there, or else as it is given
  abbrev pub first_of : List (R × I) → I → I
  first_of pairs item = option_map_or (λ p. p.1) (find (is_of item) pairs) item

  -- the pairs whose item the index has
  abbrev pub indexed : List (I × R) → List (R × I) → List (R × I)
  indexed index pairs = filter (λ p. is_some (lookup (is_at (by_item p.1)) index)) pairs

-- only the items that pass
abbrev pub retained : {I R : Type 0} → (I → Bool) → List (R × I) → List (R × I)
retained test pairs = filter (λ p. test p.1) pairs

-- the pairs whose priority is no less than this one
abbrev pub from : {I R : Type 0} → (R → R → Ordering) → R → List (R × I) → List (R × I)
from by_priority priority pairs = filter (λ p. is_le (by_priority priority p.0)) pairs

module _ {I R : Type 0} (by_priority : R → R → Ordering) (by_item : I → I → Ordering) where
  -- the pairs that follow a pair
  abbrev pub after : R × I → List (R × I) → List (R × I)
  after pair pairs = filter (λ p. is_lt (pair_order by_priority by_item pair p)) pairs

  -- a pair at its place, as the only one of its item
  abbrev pub placed : List (R × I) → R × I → List (R × I)
  placed pairs p = insert_key (pair_order by_priority by_item) (without by_item p.1 pairs) p

  -- An item that is there stays, and takes the priority.
  abbrev pub put : List (R × I) → R × I → List (R × I)
  put pairs p = placed pairs (p.0, first_of by_item pairs p.1)

  -- the pairs in order, and a map that has each item with its priority
  pub record IsIndexed (pairs : List (R × I)) (index : List (I × R)) : Type 0 where
    pub ordered : IsStrictlySortedBy (pair_order by_priority by_item) pairs
    pub same : (item : I) → priorities_of by_item pairs item ≡ listed (lookup (is_at (by_item item)) index)
