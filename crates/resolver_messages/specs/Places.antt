-- Where the keys of a batch are found.
use Rattle.std.specs.Prelude.{◌≡◌, ℕ, List, ◌++◌, length}
use Rattle.std.specs.declared.cmp.Ordering.{Ordering}
use Rattle.std.specs.List.{position_from}
use Rattle.std.specs.Map.{lookup}
use Rattle.std.specs.BTreeMap.{is_at}
use Rattle.resolver_types.specs.Undone.{without_each}

module _ {K : Type 0} (cmp : K → K → Ordering) where
  -- A key is found exactly where the first equal key stands, and no other key is there.
  pub record IsPlaced (places : List (K × ℕ)) (keys : List K) : Type 0 where
    pub found : (key : K) → lookup (is_at (cmp key)) places ≡ position_from (is_at (cmp key)) 0 keys
    pub counted : length places ≡ length keys

  -- The keys that were there come first. Without those behind them, the last one first, the places are as they were.
  abbrev pub Grows : List K → List (K × ℕ) → List K → List (K × ℕ) → Type 0
  Grows keys places grown after = (more : List K) × (grown ≡ keys ++ more) × (without_each cmp more after ≡ places)
