-- Two lists of subscribers of which one is over.
use Rattle.std.proofs.Common.{◌≡◌, refl, ℕ, zero, suc, ◌<◌, List, [], ◌∷◌, length, drop, map, arith}
use Rattle.std.specs.declared.cmp.Ordering.{Ordering}
use Rattle.std.specs.declared.cmp.Ordering.TheVariants.{Less, Greater}
use Rattle.std.specs.declared.option.Option.{Option}
use Rattle.std.specs.declared.option.Option.TheVariants.{Some}
use Rattle.std.specs.Cmp.Lexicographic.{slice_cmp, slice_partial_cmp}

module _ {S : Type 0} (cmp : S → S → Ordering) where
  -- the first list goes on
  pub slice_cmp-longer : (mine theirs : List (S × ℕ)) (i : ℕ) → i < length mine → i ≡ length theirs
      → slice_cmp cmp (map (λ s. s.0) (drop i mine)) (map (λ s. s.0) (drop i theirs)) ≡ Greater
  slice_cmp-longer [] theirs i below over = absurd (omega arith)
  slice_cmp-longer (s ∷ mine) [] zero below over = refl
  slice_cmp-longer (s ∷ mine) [] (suc i) below over = absurd (omega arith)
  slice_cmp-longer (s ∷ mine) (t ∷ theirs) zero below over = absurd (omega arith)
  slice_cmp-longer (s ∷ mine) (t ∷ theirs) (suc i) below over = slice_cmp-longer mine theirs i (omega arith) (omega arith)

  -- the second list goes on
  pub slice_cmp-shorter : (mine theirs : List (S × ℕ)) (i : ℕ) → i ≡ length mine → i < length theirs
      → slice_cmp cmp (map (λ s. s.0) (drop i mine)) (map (λ s. s.0) (drop i theirs)) ≡ Less
  slice_cmp-shorter mine [] i over below = absurd (omega arith)
  slice_cmp-shorter [] (t ∷ theirs) zero over below = refl
  slice_cmp-shorter [] (t ∷ theirs) (suc i) over below = absurd (omega arith)
  slice_cmp-shorter (s ∷ mine) (t ∷ theirs) zero over below = absurd (omega arith)
  slice_cmp-shorter (s ∷ mine) (t ∷ theirs) (suc i) over below = slice_cmp-shorter mine theirs i (omega arith) (omega arith)

-- the same of a comparison that may have no answer
module _ {S : Type 0} (cmp : S → S → Option Ordering) where
  pub slice_partial_cmp-longer : (mine theirs : List (S × ℕ)) (i : ℕ) → i < length mine → i ≡ length theirs
      → slice_partial_cmp cmp (map (λ s. s.0) (drop i mine)) (map (λ s. s.0) (drop i theirs)) ≡ Some Greater
  slice_partial_cmp-longer [] theirs i below over = absurd (omega arith)
  slice_partial_cmp-longer (s ∷ mine) [] zero below over = refl
  slice_partial_cmp-longer (s ∷ mine) [] (suc i) below over = absurd (omega arith)
  slice_partial_cmp-longer (s ∷ mine) (t ∷ theirs) zero below over = absurd (omega arith)
  slice_partial_cmp-longer (s ∷ mine) (t ∷ theirs) (suc i) below over = slice_partial_cmp-longer mine theirs i (omega arith) (omega arith)

  pub slice_partial_cmp-shorter : (mine theirs : List (S × ℕ)) (i : ℕ) → i ≡ length mine → i < length theirs
      → slice_partial_cmp cmp (map (λ s. s.0) (drop i mine)) (map (λ s. s.0) (drop i theirs)) ≡ Some Less
  slice_partial_cmp-shorter mine [] i over below = absurd (omega arith)
  slice_partial_cmp-shorter [] (t ∷ theirs) zero over below = refl
  slice_partial_cmp-shorter [] (t ∷ theirs) (suc i) over below = absurd (omega arith)
  slice_partial_cmp-shorter (s ∷ mine) (t ∷ theirs) zero over below = absurd (omega arith)
  slice_partial_cmp-shorter (s ∷ mine) (t ∷ theirs) (suc i) over below = slice_partial_cmp-shorter mine theirs i (omega arith) (omega arith)
