-- What was put is taken back.
use Rattle.std.specs.Prelude.{ℕ, List, [], ◌∷◌}
use Rattle.std.specs.declared.cmp.Ordering.{Ordering}
use Rattle.std.specs.Map.{remove_entry}
use Rattle.std.specs.BTreeMap.{is_at}

-- without each of these subscribers, the last one first
abbrev pub without_each : {S : Type 0} → (S → S → Ordering) → List S → List (S × ℕ) → List (S × ℕ)
without_each cmp [] ts = ts
without_each cmp (s ∷ ss) ts = remove_entry (is_at (cmp s)) (without_each cmp ss ts)
