-- Peers with what they weigh, as a scan draws from them.
use Rattle.std.specs.Prelude.{◌≡◌, ℕ, ◌+◌, ◌-◌, ◌<◌, Bool, true, false, zero, suc, nat_lt, List, [], ◌∷◌, length, filter, All, Option, None, Some, IfSome, if◌then◌else◌}
use Rattle.std.specs.BTreeMap.{is_at}
use Rattle.std.specs.List.{list_any}
use Rattle.std.specs.List.Sorted.{IsStrictlySortedBy}
use Rattle.std.specs.Map.{lookup, set_value}
use Rattle.std.specs.Ordering.{is_eq}
use Rattle.std.specs.declared.cmp.Ordering.{Ordering}
use Rattle.resolver_fetch_scan.specs.Known.{Known, weight_in}
use Rattle.resolver_fetch_scan.specs.Trying.{sampled}

-- peers in their order with what they weigh: all of them, of which some may weigh nothing, and those that are left to draw
pub record Pool (P : Type 0) : Type 0 where
  pub all : List (P × ℕ)
  pub left : List (P × ℕ)

module _ {P : Type 0} where
  -- those that weigh something
  abbrev pub weighing : List (P × ℕ) → List (P × ℕ)
  weighing ps = filter (λ p. nat_lt 0 p.1) ps

  -- all that weigh something are left
  abbrev pub whole : List (P × ℕ) → Pool P
  whole ps = record { all = ps; left = weighing ps }

  -- names, with what they weigh
  abbrev pub weighted : List P → (weights : List ℕ) → List (P × ℕ)
  weighted [] weights = []
  weighted (name ∷ names) [] = []
  weighted (name ∷ names) (weight ∷ weights) = (name, weight) ∷ weighted names weights

-- whether what weighs this is drawn
abbrev pub weighs : (weight : Option ℕ) → Bool
weighs None = false
weighs (Some weight) = nat_lt 0 weight

-- how many are drawn, where one weighs this that weighed that before
abbrev pub recounted : (before now : Option ℕ) → (count : ℕ) → ℕ
recounted before now count =
    if weighs now then (if weighs before then count else count + 1) else (if weighs before then count - 1 else count)

module _ {P : Type 0} (by_peer : P → P → Ordering) where
  -- whether a peer is one of some names
  abbrev pub is_named : List P → P → Bool
  is_named names peer = list_any (λ name. is_eq (by_peer name peer)) names

  -- the name at this place is the peer's
  abbrev pub IsNamed : List P → (place : ℕ) → P → Type 0
  IsNamed [] place peer = ⊥
  IsNamed (name ∷ names) zero peer = is_eq (by_peer name peer) ≡ true
  IsNamed (name ∷ names) (suc place) peer = IsNamed names place peer

  -- the place of a peer, if it is one of the names
  abbrev pub IsFound : List P → P → Option ℕ → Type 0
  IsFound names peer None = is_named names peer ≡ false
  IsFound names peer (Some place) = IsNamed names place peer

  -- all are left, and the peer weighs this, if it is one of them
  abbrev pub reweighed : P → (weight : Option ℕ) → Pool P → Pool P
  reweighed peer None pool = pool
  reweighed peer (Some weight) pool = whole (set_value (is_at (by_peer peer)) pool.all weight)

  -- all are left, and the peer weighs this, if it is one of them and weighs something
  abbrev pub revalued : P → (weight : ℕ) → Pool P → Pool P
  revalued peer weight pool =
      if weighs (lookup (is_at (by_peer peer)) pool.all) then whole (set_value (is_at (by_peer peer)) pool.all weight) else whole pool.all

  -- peers, of which this one has what it weighs now, if it is in the set
  abbrev pub resampled : Known P → Option P → List (P × ℕ) → List (P × ℕ)
  resampled known None ps = ps
  resampled known (Some peer) ps = (reweighed peer (weight_in by_peer known peer) (whole ps)).all

  -- a pool that is at hand has all of the set
  abbrev pub IsWhole : Known P → Option (Pool P) → Type 0
  IsWhole known at_hand = IfSome at_hand (λ pool. pool ≡ whole (sampled by_peer known))

-- names in their order, each with what it weighs
pub record IsPool {P : Type 0} (by_peer : P → P → Ordering) (names : List P) (weights : List ℕ) (taken : List (ℕ × ℕ)) : Type 0 where
  pub ordered : IsStrictlySortedBy by_peer names
  pub many : length names ≡ length weights
  pub within : All (λ one. one.0 < length weights) taken
