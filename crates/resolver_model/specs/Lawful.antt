-- What the types of the code's inputs say of what the machines take.
use Rattle.std.specs.Prelude.{◌≡◌, ◌<◌, Bool, true, List, [], ◌∷◌, length, ⊤}
use Rattle.resolver_types.specs.Names.{Names, same_key, same_subscriber}
use Rattle.resolver_model.specs.Account.{Change, Adds, Keeps}

-- each of these is so
abbrev pub Each : {X : Type 0} → (X → Type 0) → List X → Type 0
Each P [] = ⊤
Each P (x ∷ xs) = P x × Each P xs

module _ {K S : Type 0} (n : Names K S) where
  -- a predicate answers alike on equal keys and subscribers
  abbrev pub AnswersAlike : (K → S → Bool) → Type 0
  AnswersAlike keep = (k l : K) (s t : S) → same_key n k l ≡ true → same_subscriber n s t ≡ true → keep l t ≡ keep k s

  -- Each item has a subscriber, and each predicate answers alike.
  abbrev pub IsLawful : Change K S → Type 0
  IsLawful (Adds items) = Each (λ item. 0 < length item.1) items
  IsLawful (Keeps keep) = AnswersAlike keep
  IsLawful change = ⊤
