-- How the actor's inputs are spelled: a moment, a tag, and what the tag asks for.
use Rattle.std.specs.Prelude.{ℕ, ◌==◌, List, map, Option, Some, None, if◌then◌else◌}
use Rattle.std.specs.Int.{w64}
use Rattle.resolver_model_opaque.specs.OpaqueInputs.{item_of}
use Rattle.resolver_model_opaque.specs.OpaqueSteps.{Input}
use Rattle.resolver_model_opaque.specs.Opaque.{Event, Fetch, Retain, Fetched, Verdict, RetriesDue, End}
use Rattle.resolver_flat.specs.Leavings.{set_of, stays}
use Rattle.resolver_flat.specs.Naming.{Shape, by_name}
use Rattle.resolver_flat.specs.Reading.{◌>>=◌, Reads, both_at, item_at, list_at, moment_at, name_at, nothing_at, number_at, octet_at, option_at, outcome_at, rest_at, whole}

abbrev pub Happens : Type 0 → Type 0
Happens K = Event K (List ℕ) ℕ

-- `n` is how names look
module _ {K : Type 0} (n : Shape K) where
  unfoldable pub fetch_at : Reads (Happens K)
  fetch_at bytes = do
    items ← list_at (item_at n nothing_at) bytes
    Some (Fetch (map item_of items.0), items.1)

  -- the pairs that leave
  unfoldable pub retain_at : Reads (Happens K)
  retain_at bytes = do
    pairs ← list_at (both_at (name_at n) (number_at w64)) bytes
    Some (Retain (stays (by_name n) (set_of (by_name n) pairs.0)), pairs.1)

  -- an attempt, and what the source has for it
  unfoldable pub fetched_at : Reads (Happens K)
  fetched_at bytes = do
    attempt ← number_at w64 bytes
    value ← option_at rest_at attempt.1
    Some (Fetched attempt.0 value.0, value.1)

  unfoldable pub verdict_at : Reads (Happens K)
  verdict_at bytes = do
    number ← number_at w64 bytes
    outcome ← outcome_at number.1
    Some (Verdict number.0 outcome.0, outcome.1)

  unfoldable pub event_at : (tag : ℕ) → Reads (Happens K)
  event_at tag bytes =
      if tag == 0 then fetch_at bytes
      else if tag == 1 then retain_at bytes
      else if tag == 2 then fetched_at bytes
      else if tag == 3 then verdict_at bytes
      else if tag == 4 then Some (RetriesDue, bytes)
      else if tag == 5 then Some (End, bytes)
      else None

  unfoldable pub input_at : Reads (Input K (List ℕ) ℕ)
  input_at bytes = do
    now ← moment_at bytes
    tag ← octet_at now.1
    event ← event_at tag.0 tag.1
    Some (record { now = now.0; event = event.0 }, event.1)

  -- the input that these bytes spell, all of them
  abbrev pub input_from : List ℕ → Option (Input K (List ℕ) ℕ)
  input_from bytes = whole (input_at bytes)
