-- When the time of each request is over, and how it is known whose is over first.
use Rattle.std.specs.Prelude.{◌≡◌, ℕ, ◌≤◌, List, Option, None, Some, option_map, if◌then◌else◌}
use Rattle.std.specs.Ordering.{nat_cmp, is_eq}
use Rattle.std.specs.declared.cmp.Ordering.{Ordering}
use Rattle.std.specs.Map.{keys_of}
use Rattle.std.specs.List.Sorted.{IsStrictlySortedBy}
use Rattle.resolver_priority_set.specs.Priorities.{listed, priorities_of}
use Rattle.resolver_fetch_requests.specs.declared.requests.request.Request.{Request}
use Rattle.resolver_fetch_requests.specs.declared.requests.deadlines.Deadlines.{Deadlines}
use Rattle.resolver_fetch_requests.specs.declared.requests.deadlines.Deadlines.TheVariants.{InOrder, Listed}
use Rattle.resolver_fetch_requests.specs.Requests.{AreNamed, request_of}

-- when the time of each request is over, by the ids
abbrev pub times_of : {K P : Type 0} → List (ℕ × Request K P) → (id : ℕ) → Option ℕ
times_of asked id = option_map (λ r. r.deadline) (request_of asked id)

abbrev pub with_time : (ℕ → Option ℕ) → (id time : ℕ) → ℕ → Option ℕ
with_time times id time q = if is_eq (nat_cmp id q) then Some time else times q

abbrev pub without_time : (ℕ → Option ℕ) → (id : ℕ) → ℕ → Option ℕ
without_time times id q = if is_eq (nat_cmp id q) then None else times q

-- some of the times, as they are
abbrev pub IsPart : (part whole : ℕ → Option ℕ) → Type 0
IsPart part whole = (id time : ℕ) → part id ≡ Some time → whole id ≡ Some time

-- The times come in the order of the ids: no id is greater than the last, and no time later than the latest.
pub record AreInOrder (times : ℕ → Option ℕ) (last latest : ℕ) : Type 0 where
  pub within : (id time : ℕ) → times id ≡ Some time → (id ≤ last) × (time ≤ latest)
  pub rising : (i j t u : ℕ) → times i ≡ Some t → times j ≡ Some u → i ≤ j → t ≤ u

-- Each id is listed with its time, and no other.
abbrev pub AreListed : (ℕ → Option ℕ) → List (ℕ × ℕ) → Type 0
AreListed times pairs = (id : ℕ) → priorities_of nat_cmp pairs id ≡ listed (times id)

-- How it is known whose time is over first, is right.
abbrev pub AreTimed : (ℕ → Option ℕ) → Deadlines → Type 0
AreTimed times (InOrder last latest) = AreInOrder times last latest
AreTimed times (Listed pairs) = AreListed times pairs.keys

-- The requests stand in the order of their ids, and are found by their deadlines and by their keys.
pub record AreKept {K P : Type 0} (by_key : K → K → Ordering) (asked : List (ℕ × Request K P)) (deadlines : Deadlines) (names : List (K × ℕ)) : Type 0 where
  pub ids : IsStrictlySortedBy nat_cmp (keys_of asked)
  pub timed : AreTimed (times_of asked) deadlines
  pub named : AreNamed by_key asked names
