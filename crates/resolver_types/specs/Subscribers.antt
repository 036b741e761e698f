-- A key's subscribers, in their order, with their marks.
use Rattle.std.specs.Prelude.{ℕ, Bool, not, List, [], ◌∷◌, filter}
use Rattle.std.specs.List.{list_any}
use Rattle.std.specs.Ordering.{is_eq, match_ordering}
use Rattle.resolver_types.specs.Joined.{joined}
use Rattle.std.specs.declared.cmp.Ordering.{Ordering}

module _ {S : Type 0} (cmp : S → S → Ordering) where
  -- one subscriber more, at its place; one that is there keeps its mark
  abbrev pub attached : List (S × ℕ) → S × ℕ → List (S × ℕ)
  attached [] s = s ∷ []
  attached (t ∷ ts) s = match_ordering (cmp s.0 t.0) (s ∷ t ∷ ts) (t ∷ ts) (t ∷ attached ts s)

  abbrev pub attached_all : List (S × ℕ) → List (S × ℕ) → List (S × ℕ)
  attached_all ts [] = ts
  attached_all ts (s ∷ ss) = attached_all (attached ts s) ss

  -- new subscribers go last, and those that are there keep their marks
  abbrev pub joined_subscribers : List (S × ℕ) → List (S × ℕ) → List (S × ℕ)
  joined_subscribers = joined (λ other one. is_eq (cmp one.0 other.0))

  abbrev pub is_among : List (S × ℕ) → S → Bool
  is_among ts s = list_any (λ t. is_eq (cmp s t.0)) ts

  -- without the named ones
  abbrev pub without : List (S × ℕ) → List (S × ℕ) → List (S × ℕ)
  without named = filter (λ s. not (is_among named s.0))

module _ {S : Type 0} (keep : S → Bool) where
  abbrev pub all_kept : List (S × ℕ) → List (S × ℕ)
  all_kept = filter (λ s. keep s.0)

  -- whether one of them is kept
  abbrev pub keeps_any : List (S × ℕ) → Bool
  keeps_any = list_any (λ s. keep s.0)
