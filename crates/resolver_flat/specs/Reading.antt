-- What bytes begin with, piece by piece.
use Rattle.std.specs.Prelude.{◌≡◌, ℕ, zero, suc, ◌^◌, Bool, true, false, ⊤, ◌==◌, List, [], ◌∷◌, length, take, drop, ltb, Option, Some, None, Result, Ok, Err, nat_lt, if◌then◌else◌}
use Rattle.std.specs.Int.{Width, byte_len, from_le_bytes, w32, w64, w128}
use Rattle.std.proofs.Common.{refl}
use Rattle.std.proofs.lemmas.Bool.{ltb-true}
use Rattle.resolver_messages.specs.declared.message.FetchKey.{FetchKey}
use Rattle.resolver_types.specs.declared.outcome.Outcome.{Outcome}
use Rattle.resolver_types.specs.declared.outcome.Outcome.TheVariants.{Invalid, Resolved, Unresolved, Ignored}
use Rattle.resolver_types.specs.declared.outcome.Resolution.TheVariants.{Complete, Partial}
use Rattle.resolver_flat.specs.declared.reading.Misread.{Misread}
use Rattle.resolver_flat.specs.declared.reading.Misread.TheVariants as misreads
use Rattle.resolver_flat.specs.Naming.{Shape}

infixl 10 ◌>>=◌
abbrev pub ◌>>=◌ : {A B : Type 0} → Option A → (A → Option B) → Option B
None >>= f = None
(Some x) >>= f = f x

-- what bytes begin with, and the bytes after it; none: they begin with no such thing
abbrev pub Reads : Type 0 → Type 0
Reads X = List ℕ → Option (X × List ℕ)

-- Nothing was read. Of a call for which memory was wanting nothing is said.
abbrev pub Refuses : {Y : Type 0} → Misread → Option Y → Type 0
Refuses misreads.Misspelled read = read ≡ None
Refuses misreads.OutOfMemory read = ⊤

-- what a call returned, seen by view, is what reading gives
abbrev pub Gives : {X Y : Type 0} → (X → Y) → Result X Misread → Option Y → Type 0
Gives view (Ok x) read = read ≡ Some (view x)
Gives view (Err misread) read = Refuses misread read

-- n bytes
unfoldable pub chunk_at : ℕ → Reads (List ℕ)
chunk_at n bytes = if nat_lt (length bytes) n then None else Some (take n bytes, drop n bytes)

-- one byte
unfoldable pub octet_at : Reads ℕ
octet_at [] = None
octet_at (b ∷ bytes) = Some (b, bytes)

-- a number of this width, the low byte first
unfoldable pub number_at : Width → Reads ℕ
number_at w bytes = do
  chunk ← chunk_at (byte_len w) bytes
  Some (from_le_bytes w chunk.0, chunk.1)

-- a name
unfoldable pub name_at : {K : Type 0} → Shape K → Reads K
name_at n bytes = do
  chunk ← chunk_at n.size bytes
  name ← n.read_from chunk.0
  Some (name, chunk.1)

-- 0 or 1
unfoldable pub flag_at : Reads Bool
flag_at bytes = do
  flag ← octet_at bytes
  if flag.0 == 0 then Some (false, flag.1) else if flag.0 == 1 then Some (true, flag.1) else None

-- a moment or a duration: below 2^94
unfoldable pub moment_at : Reads ℕ
moment_at bytes = do
  moment ← number_at w128 bytes
  if nat_lt moment.0 (2 ^ 94) then Some moment else None

-- one thing, and another behind it
unfoldable pub both_at : {A B : Type 0} → Reads A → Reads B → Reads (A × B)
both_at first second bytes = do
  a ← first bytes
  b ← second a.1
  Some ((a.0, b.0), b.1)

-- so many, one behind the other
unfoldable pub many_at : {A : Type 0} → Reads A → ℕ → Reads (List A)
many_at one zero bytes = Some ([], bytes)
many_at one (suc count) bytes = do
  a ← one bytes
  more ← many_at one count a.1
  Some (a.0 ∷ more.0, more.1)

-- a list behind its length, which has four bytes
unfoldable pub list_at : {A : Type 0} → Reads A → Reads (List A)
list_at one bytes = do
  count ← number_at w32 bytes
  many_at one count.0 count.1

-- a list that is not empty
unfoldable pub some_at : {A : Type 0} → Reads A → Reads (List A)
some_at one bytes = do
  list ← list_at one bytes
  if length list.0 == 0 then None else Some list

-- behind a flag, if there is one
unfoldable pub option_at : {A : Type 0} → Reads A → Reads (Option A)
option_at one bytes = do
  flag ← flag_at bytes
  if flag.0 then (do
    a ← one flag.1
    Some (Some a.0, a.1)) else Some (None, flag.1)

-- nothing, and no byte of it
abbrev pub nothing_at : Reads (Unit {0})
nothing_at bytes = Some (tt, bytes)

-- all that is left
unfoldable pub rest_at : Reads (List ℕ)
rest_at bytes = Some (bytes, [])

-- a subscriber, and its mark
abbrev pub subscriber_at : Reads (ℕ × ℕ)
subscriber_at = both_at (number_at w64) (number_at w64)

abbrev pub item_if : {K M : Type 0} → K → (subscribers : List (ℕ × ℕ)) → M → (is : Bool) → ltb 0 (length subscribers) ≡ is → Option (FetchKey K ℕ M)
item_if key subscribers metadata true e = Some (record { key = key; subscribers = subscribers; metadata = metadata; wanted = ltb-true 0 (length subscribers) e })
item_if key subscribers metadata false e = None

-- what is to be fetched, and for whom; for nobody is no item
abbrev pub item_of : {K M : Type 0} → K → (subscribers : List (ℕ × ℕ)) → M → Option (FetchKey K ℕ M)
item_of key subscribers metadata = item_if key subscribers metadata (ltb 0 (length subscribers)) refl

-- a key, its subscribers, and what else is said
unfoldable pub item_at : {K M : Type 0} → Shape K → Reads M → Reads (FetchKey K ℕ M)
item_at n more bytes = do
  key ← name_at n bytes
  subscribers ← some_at subscriber_at key.1
  metadata ← more subscribers.1
  item ← item_of key.0 subscribers.0 metadata.0
  Some (item, metadata.1)

-- how an outcome is spelled; 0: the delivery was dropped
abbrev pub outcome_of : ℕ → Option (Option Outcome)
outcome_of tag =
    if tag == 0 then Some None
    else if tag == 1 then Some (Some (Resolved Complete))
    else if tag == 2 then Some (Some (Resolved Partial))
    else if tag == 3 then Some (Some Invalid)
    else if tag == 4 then Some (Some Unresolved)
    else if tag == 5 then Some (Some Ignored)
    else None

unfoldable pub outcome_at : Reads (Option Outcome)
outcome_at bytes = do
  tag ← octet_at bytes
  outcome ← outcome_of tag.0
  Some (outcome, tag.1)

-- what was read, if no byte is left
abbrev pub whole : {A : Type 0} → Option (A × List ℕ) → Option A
whole read = do
  a ← read
  if length a.1 == 0 then Some a.0 else None
