-- Trees of sums: node 1 is the root, the nodes below node i are 2i and 2i + 1, and the leaves come last.
use Rattle.std.specs.Prelude.{◌≡◌, ℕ, ◌+◌, ◌*◌, ◌^◌, ◌<◌, ◌≤◌, nat_lt, List, drop, length, slice_index, if◌then◌else◌}

-- each node that is no leaf is the sum of the two below it; a leaf that is not stored is zero
abbrev pub AreSummed : (leaves : ℕ) → (nodes : List ℕ) → Type 0
AreSummed leaves nodes = (i : ℕ) → 0 < i → i < leaves
    → slice_index nodes i ≡ slice_index nodes (2 * i) + slice_index nodes (2 * i + 1)

abbrev pub AreWeights : List ℕ → Type 0
AreWeights numbers = (place : ℕ) → slice_index numbers place < 2 ^ 64

-- a power of two of leaves that has room for the numbers, and no more levels than their count has binary digits
pub record IsShape (depth leaves stored : ℕ) : Type 0 where
  pub power : leaves ≡ 2 ^ depth
  pub from : leaves ≤ stored
  pub room : stored ≤ leaves + leaves
  pub small : leaves ≤ 2 ^ 63
  pub low : (digits : ℕ) → stored < leaves + 2 ^ digits → depth ≤ digits

pub record IsTree (depth leaves : ℕ) (nodes : List ℕ) (total : ℕ) : Type 0 where
  pub shape : IsShape depth leaves (length nodes)
  pub summed : AreSummed leaves nodes
  pub weights : AreWeights (drop leaves nodes)
  pub root : total ≡ slice_index nodes 1

-- one for a positive weight, zero for none
abbrev pub mark : (weight : ℕ) → ℕ
mark weight = if nat_lt 0 weight then 1 else 0
