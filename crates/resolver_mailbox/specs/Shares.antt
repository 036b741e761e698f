-- What a handle has put, and the counts that it shares with the desk.
use Rattle.std.specs.Prelude.{◌≡◌, ◌<◌, ℕ, ◌+◌, ◌-◌, ◌^◌, Bool, false, true, List, [], ◌∷◌, ◌++◌, length, Option, MatchOption}
use Rattle.std.specs.List.{All}
use Rattle.std.specs.Option.{option_map_or}
use Rattle.resolver_messages.specs.Waiting.{Told}
use Rattle.resolver_desk.specs.Book.{Call, closes, puts, puts_of, takes}
use Rattle.resolver_desk.specs.Desk.{Desk, calls_of}

-- the messages that a handle put, in their order, and whether it was answered Closed since
pub record Share (K S M Q : Type 0) : Type 0 where
  pub handle : ℕ
  pub puts : List (Told K S M Q)
  pub is_closed : Bool

module _ {K S M Q : Type 0} where
  -- with another message
  abbrev pub with_message : Told K S M Q → Share K S M Q → Share K S M Q
  with_message told share = record share { puts = share.puts ++ told ∷ [] }

  -- the share of a handle that has put one message
  abbrev pub first_share : ℕ → Told K S M Q → Share K S M Q
  first_share handle told = record { handle = handle; puts = told ∷ []; is_closed = false }

  -- its handle was answered Closed
  abbrev pub marked : Share K S M Q → Share K S M Q
  marked share = record share { is_closed = true }

  -- A message goes last in its handle's share; the first one makes the share.
  abbrev pub IsAdded : Told K S M Q → Option (Share K S M Q) → Option (Share K S M Q) → Type 0
  IsAdded told was now = MatchOption now ⊥ (λ share. share ≡ option_map_or (with_message told) was (first_share share.handle told))

  -- The book has the messages of the share as the puts of its handle, and a close where it is marked.
  abbrev pub AgreesWith : List (Call K S M Q) → Share K S M Q → Type 0
  AgreesWith calls share = (puts_of share.handle calls ≡ share.puts) × (share.is_closed ≡ true → 0 < closes calls)

  -- The book has what was taken as its takes, and agrees with each share.
  abbrev pub Agrees : List (Call K S M Q) → List (Told K S M Q) → List (Share K S M Q) → Type 0
  Agrees calls taken shares = (takes calls ≡ taken) × All (AgreesWith calls) shares

  -- The book doesn't agree with what was taken and the shares.
  abbrev pub Differs : List (Call K S M Q) → List (Told K S M Q) → List (Share K S M Q) → Type 0
  Differs calls taken shares = Agrees calls taken shares → ⊥

  -- how many puts a desk's book has
  abbrev pub puts_in : Desk K S M Q → ℕ
  puts_in desk = length (puts (calls_of desk))

  -- how many takes a desk's book has
  abbrev pub takes_in : Desk K S M Q → ℕ
  takes_in desk = length (takes (calls_of desk))

  -- how many handles have a number
  abbrev pub numbered : Desk K S M Q → ℕ
  numbered desk = option_map_or (λ book. book.next_handle) desk.book 0

  -- The totals are those of the book, and there is a part for each handle that may still come.
  abbrev pub IsCounted : ℕ → ℕ → ℕ → Desk K S M Q → Type 0
  IsCounted put taken spare desk = (put ≡ puts_in desk) × (taken ≡ takes_in desk) × (spare + numbered desk ≡ 2 ^ 64 - 1)
