-- A table whose keys each have subscribers, in the subscribers' order.
use Rattle.std.specs.Prelude.{ℕ, ◌<◌, List, [], ◌∷◌, length}
use Rattle.std.specs.Map.{keys_of}
use Rattle.std.specs.List.Sorted.{IsStrictlySortedBy}
use Rattle.std.specs.declared.cmp.Ordering.{Ordering}

module _ {S : Type 0} (cmp : S → S → Ordering) where
  -- some subscribers, in their order, each once
  pub record IsListed (ts : List (S × ℕ)) : Type 0 where
    pub some : 0 < length ts
    pub ordered : IsStrictlySortedBy cmp (keys_of ts)

  abbrev pub AreListed : {K : Type 0} → List (K × List (S × ℕ)) → Type 0
  AreListed [] = Unit {0}
  AreListed (e ∷ d) = IsListed e.1 × AreListed d
