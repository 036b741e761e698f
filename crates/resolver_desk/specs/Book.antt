-- The calls on a desk that changed it, in their order.
use Rattle.std.specs.Prelude.{◌≡◌, ◌≤◌, ℕ, zero, suc, ◌+◌, Bool, true, ◌&&◌, nat_eq, if◌then◌else◌, List, [], ◌∷◌, ◌++◌, length}
use Rattle.resolver_types.specs.Names.{Names}
use Rattle.resolver_messages.specs.Waiting.{IsRight, Told, told_of}
use Rattle.resolver_desk.specs.declared.entry.Entry.{Entry}
use Rattle.resolver_desk.specs.declared.entry.Entry.TheVariants as entries

-- a put by a handle, at its place among those of the handle, and whether it was answered Ok
pub data Call (K S M Q : Type 0) : Type 0 where
  Put : ℕ → ℕ → Told K S M Q → Bool → Call K S M Q
  Take : Told K S M Q → Call K S M Q
  Close : Call K S M Q

module _ {K S M Q : Type 0} where
  abbrev pub call_of : Entry K S M Q → Call K S M Q
  call_of (entries.Put posted) = Put posted.handle posted.place (told_of posted.message) posted.is_ok
  call_of (entries.Take message) = Take (told_of message)
  call_of (entries.Close) = Close

  abbrev pub puts : List (Call K S M Q) → List (Told K S M Q)
  puts [] = []
  puts (Put handle place told is_ok ∷ calls) = told ∷ puts calls
  puts (Take told ∷ calls) = puts calls
  puts (Close ∷ calls) = puts calls

  abbrev pub takes : List (Call K S M Q) → List (Told K S M Q)
  takes [] = []
  takes (Put handle place told is_ok ∷ calls) = takes calls
  takes (Take told ∷ calls) = told ∷ takes calls
  takes (Close ∷ calls) = takes calls

  -- the puts of one handle
  abbrev pub puts_of : ℕ → List (Call K S M Q) → List (Told K S M Q)
  puts_of h [] = []
  puts_of h (Put handle place told is_ok ∷ calls) = if nat_eq handle h then told ∷ puts_of h calls else puts_of h calls
  puts_of h (Take told ∷ calls) = puts_of h calls
  puts_of h (Close ∷ calls) = puts_of h calls

  -- the places of one handle's puts
  abbrev pub places_of : ℕ → List (Call K S M Q) → List ℕ
  places_of h [] = []
  places_of h (Put handle place told is_ok ∷ calls) = if nat_eq handle h then place ∷ places_of h calls else places_of h calls
  places_of h (Take told ∷ calls) = places_of h calls
  places_of h (Close ∷ calls) = places_of h calls

  abbrev pub closes : List (Call K S M Q) → ℕ
  closes [] = 0
  closes (Put handle place told is_ok ∷ calls) = closes calls
  closes (Take told ∷ calls) = closes calls
  closes (Close ∷ calls) = 1 + closes calls

  -- the puts behind the first close
  abbrev pub late : List (Call K S M Q) → List (Told K S M Q)
  late [] = []
  late (Put handle place told is_ok ∷ calls) = late calls
  late (Take told ∷ calls) = late calls
  late (Close ∷ calls) = puts calls

  -- every put was answered Ok
  abbrev pub all_ok : List (Call K S M Q) → Bool
  all_ok [] = true
  all_ok (Put handle place told is_ok ∷ calls) = is_ok && all_ok calls
  all_ok (Take told ∷ calls) = all_ok calls
  all_ok (Close ∷ calls) = all_ok calls

-- 0, 1, .. below a number
abbrev pub below : ℕ → List ℕ
below zero = []
below (suc n) = below n ++ n ∷ []

-- A book is legal for the messages that are ready and those that wait behind them.
pub record IsLegal {K S M Q : Type 0} (n : Names K S) (keeps : Q → K → S → Bool) (calls : List (Call K S M Q)) (ready behind : List (Told K S M Q)) : Type 0 where
  -- on every demand, what was taken and then what waits do what was put
  pub meaning : IsRight n keeps (puts calls) ((takes calls ++ ready) ++ behind)
  pub places : (h : ℕ) → places_of h calls ≡ below (length (puts_of h calls))
  pub in_time : late calls ≡ []
  pub closed_once : closes calls ≤ 1
  pub in_order : all_ok calls ≡ true → takes calls ++ ready ≡ puts calls
  pub none_behind : all_ok calls ≡ true → behind ≡ []

-- The book of a desk at some moment.
abbrev pub IsBook : {K S M Q : Type 0} → Names K S → (Q → K → S → Bool) → List (Call K S M Q) → Type 0
IsBook {K = K} {S = S} {M = M} {Q = Q} n keeps calls = (ready : List (Told K S M Q)) × (behind : List (Told K S M Q)) × IsLegal n keeps calls ready behind
