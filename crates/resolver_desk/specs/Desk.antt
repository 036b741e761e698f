-- A desk: messages that are ready to be taken, and what waits while there is no room for more.
use Rattle.std.specs.Prelude.{◌≡◌, ◌≤◌, ◌<◌, ℕ, ◌+◌, Bool, false, true, List, [], ◌∷◌, ◌++◌, length, map, take, nat_lt, if◌then◌else◌, Option, None, Some, is_some, unwrap_or}
use Rattle.std.specs.Option.{ForSome, option_map, option_map_or}
use Rattle.resolver_base.specs.declared.feedback.Feedback.{Feedback}
use Rattle.resolver_base.specs.declared.feedback.Feedback.TheVariants as feedbacks
use Rattle.resolver_types.specs.Names.{Names}
use Rattle.resolver_messages.specs.declared.message.Message.{Message}
use Rattle.resolver_desk.specs.declared.book.Book.{Book as Kept}
use Rattle.resolver_messages.specs.Waiting.{Backlog, Told, behind_first, handled, no_backlog, told_of, waiting}
use Rattle.resolver_desk.specs.Book.{Call, Close, IsLegal, Put, Take, call_of, closes, puts_of}

-- the calls so far, and the number of the next handle
pub record Book (K S M Q : Type 0) : Type 0 where
  pub calls : List (Call K S M Q)
  pub next_handle : ℕ

-- a desk that isn't recorded has no book
pub record Desk (K S M Q : Type 0) : Type 0 where
  pub capacity : ℕ
  pub ready : List (Told K S M Q)
  pub backlog : Backlog K S M Q
  pub is_closed : Bool
  pub book : Option (Book K S M Q)

module _ {K S M Q : Type 0} where
  abbrev pub book_of : Kept K S M Q → Book K S M Q
  book_of book = record { calls = map call_of book.calls.items; next_handle = book.next_handle }

  abbrev pub desk_of : ℕ → List (Message K S M Q) → Backlog K S M Q → Bool → Option (Kept K S M Q) → Desk K S M Q
  desk_of capacity ready backlog is_closed book = record {
    capacity = capacity;
    ready = map told_of ready;
    backlog = backlog;
    is_closed = is_closed;
    book = option_map book_of book;
  }

  abbrev pub empty_desk : ℕ → Option (Book K S M Q) → Desk K S M Q
  empty_desk capacity book = record { capacity = capacity; ready = []; backlog = no_backlog; is_closed = false; book = book }

  abbrev pub empty_book : Book K S M Q
  empty_book = record { calls = []; next_handle = 0 }

  abbrev pub calls_of : Desk K S M Q → List (Call K S M Q)
  calls_of desk = option_map_or (λ book. book.calls) desk.book []

  abbrev pub has_room : Desk K S M Q → Bool
  has_room desk = nat_lt (length desk.ready) desk.capacity

  -- it was closed, and nothing is left to be taken
  abbrev pub IsOver : Desk K S M Q → Type 0
  IsOver desk = (desk.is_closed ≡ true) × (desk.ready ≡ []) × (waiting desk.backlog ≡ [])

  abbrev pub feedback_of : Desk K S M Q → Feedback
  feedback_of desk = if desk.is_closed then feedbacks.Closed else if has_room desk then feedbacks.Ok else feedbacks.Backoff

  -- the number of a handle that puts: its own, or the next one where it has none
  abbrev pub number_of : Option ℕ → Book K S M Q → ℕ
  number_of handle book = unwrap_or handle book.next_handle

  -- what a put answers of its handle
  abbrev pub answered : Option ℕ → Desk K S M Q → Option ℕ
  answered handle desk = if desk.is_closed then handle else option_map (number_of handle) desk.book

  -- the number of the next handle then
  abbrev pub next_of : Option ℕ → Book K S M Q → ℕ
  next_of handle book = if is_some handle then book.next_handle else book.next_handle + 1

  -- with a put by the handle of this number
  abbrev pub with_put_of : ℕ → ℕ → Told K S M Q → Bool → Book K S M Q → Book K S M Q
  with_put_of number next told is_ok book = record {
    calls = book.calls ++ Put number (length (puts_of number book.calls)) told is_ok ∷ [];
    next_handle = next;
  }

  -- with a put
  abbrev pub with_put : Option ℕ → Told K S M Q → Bool → Book K S M Q → Book K S M Q
  with_put handle told is_ok book = with_put_of (number_of handle book) (next_of handle book) told is_ok book

  -- with another call
  abbrev pub with_call : Call K S M Q → Book K S M Q → Book K S M Q
  with_call call book = record book { calls = book.calls ++ call ∷ [] }

  -- The first message that waits moves into the room that a take leaves.
  abbrev pub desk_taken : Desk K S M Q → Option (Told K S M Q) × Desk K S M Q
  desk_taken desk = front desk.ready where
    front : List (Told K S M Q) → Option (Told K S M Q) × Desk K S M Q
    front [] = (None, desk)
    front (told ∷ ready) = (
      Some told,
      record desk {
        ready = ready ++ take 1 (waiting desk.backlog);
        backlog = behind_first desk.backlog;
        book = option_map (with_call (Take told)) desk.book;
      },
    )

  abbrev pub desk_closed : Desk K S M Q → Desk K S M Q
  desk_closed desk = if desk.is_closed then desk else record desk {
    is_closed = true;
    book = option_map (with_call Close) desk.book;
  }

module _ {K S M Q : Type 0} (n : Names K S) (merged : M → M → M) (keeps : Q → K → S → Bool) where
  -- a message goes last in the ready list where it has room, and else to what waits
  abbrev pub placed : Told K S M Q → Desk K S M Q → Desk K S M Q
  placed told desk = if has_room desk then record desk { ready = desk.ready ++ told ∷ [] } else record desk { backlog = handled n merged keeps desk.backlog told }

  -- a put; a closed desk takes none
  abbrev pub desk_put : Option ℕ → Told K S M Q → Desk K S M Q → Desk K S M Q
  desk_put handle told desk = if desk.is_closed then desk else record (placed told desk) { book = option_map (with_put handle told (has_room desk)) desk.book }

-- What is so between the calls.
pub record IsKept {K S M Q : Type 0} (n : Names K S) (keeps : Q → K → S → Bool) (desk : Desk K S M Q) : Type 0 where
  pub some : 0 < desk.capacity
  pub within : length desk.ready ≤ desk.capacity
  -- nothing waits while there is room
  pub full : has_room desk ≡ true → waiting desk.backlog ≡ []
  pub legal : ForSome desk.book (λ book. IsLegal n keeps book.calls desk.ready (waiting desk.backlog))
  -- a book has a close exactly where the desk is closed
  pub closed : ForSome desk.book (λ book. closes book.calls ≡ (if desk.is_closed then 1 else 0))
