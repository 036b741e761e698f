-- Demand: a finite map from a key and a subscriber to a mark, as the list of its pairs.
use Rattle.std.specs.Prelude.{◌≡◌, ℕ, Bool, not, ◌&&◌, List, [], ◌∷◌, ◌++◌, Option, None, Some, is_some, if◌then◌else◌, filter}
use Rattle.std.specs.List.{list_any}
use Rattle.resolver_types.specs.Names.{Names, same_key, same_subscriber}
use Rattle.resolver_types.specs.Subscribers.{is_among}

-- a subscriber's demand for a key, with its mark
pub record Pair (K S : Type 0) : Type 0 where
  pub key : K
  pub subscriber : S
  pub mark : ℕ

-- what a message asks for: pairs to add, or which pairs to keep
pub data Act (K S : Type 0) : Type 0 where
  Adds : List (Pair K S) → Act K S
  Keeps : (K → S → Bool) → Act K S

module _ {K S : Type 0} where
  -- the pairs of one key
  abbrev pub pairs_of : K → List (S × ℕ) → List (Pair K S)
  pairs_of k [] = []
  pairs_of k (s ∷ ss) = record { key = k; subscriber = s.0; mark = s.1 } ∷ pairs_of k ss

  -- the pairs of some keys, each with its subscribers
  abbrev pub all_pairs_of : List (K × List (S × ℕ)) → List (Pair K S)
  all_pairs_of [] = []
  all_pairs_of (e ∷ es) = pairs_of e.0 e.1 ++ all_pairs_of es

  -- the pairs that a test keeps
  abbrev pub kept : (K → S → Bool) → List (Pair K S) → List (Pair K S)
  kept keep d = filter (λ p. keep p.key p.subscriber) d

module _ {K S : Type 0} (n : Names K S) where
  -- whether a pair is that of this key and this subscriber
  abbrev pub is_pair : K → S → Pair K S → Bool
  is_pair k s p = same_key n k p.key && same_subscriber n s p.subscriber

  -- the mark of a key and a subscriber
  abbrev pub mark_of : List (Pair K S) → K → S → Option ℕ
  mark_of [] k s = None
  mark_of (p ∷ d) k s = if is_pair k s p then Some p.mark else mark_of d k s

  -- whether a key has a pair
  abbrev pub has_pair : List (Pair K S) → K → Bool
  has_pair d k = list_any (λ p. same_key n k p.key) d

  -- with one pair more; a pair that is there keeps its mark
  abbrev pub added : List (Pair K S) → Pair K S → List (Pair K S)
  added d p = if is_some (mark_of d p.key p.subscriber) then d else d ++ p ∷ []

  abbrev pub added_all : List (Pair K S) → List (Pair K S) → List (Pair K S)
  added_all d [] = d
  added_all d (p ∷ ps) = added_all (added d p) ps

  -- the demand after some messages
  abbrev pub acts : List (Act K S) → List (Pair K S) → List (Pair K S)
  acts [] d = d
  acts (Adds ps ∷ messages) d = acts messages (added_all d ps)
  acts (Keeps keep ∷ messages) d = acts messages (kept keep d)

  -- without the pairs of a key
  abbrev pub without_key : K → List (Pair K S) → List (Pair K S)
  without_key key d = kept (λ k s. not (same_key n key k)) d

  -- without the pairs of a key and the named subscribers
  abbrev pub without_named : K → List (S × ℕ) → List (Pair K S) → List (Pair K S)
  without_named key named d = kept (λ k s. not (same_key n key k && is_among n.subscriber named s)) d

  -- two lists that are one demand
  abbrev pub IsSameDemand : List (Pair K S) → List (Pair K S) → Type 0
  IsSameDemand d e = (k : K) (s : S) → mark_of d k s ≡ mark_of e k s
