-- Where an open scan stands.
use Rattle.std.specs.Prelude.{◌≡◌, ℕ, ◌<◌, ◌^◌, false, List, [], Option, None, Some}
use Rattle.std.specs.declared.cmp.Ordering.{Ordering}
use Rattle.resolver_fetch_requests.specs.declared.requests.request.Request.{Request}
use Rattle.resolver_fetch_requests.specs.Ids.{is_held}
use Rattle.resolver_fetch_scan.specs.declared.cursor.Cursor.{Cursor}
use Rattle.resolver_fetch_scan.specs.declared.place.Place.{Place}
use Rattle.resolver_fetch_scan.specs.declared.step.Step.{Step}
use Rattle.resolver_fetch_scan.specs.declared.step.Step.TheVariants as steps
use Rattle.resolver_fetch_scan.specs.declared.trail.Expected.{Expected}
use Rattle.resolver_fetch_scan.specs.declared.trail.Expected.TheVariants.{FirstId, Sending}
use Rattle.resolver_fetch_scan.specs.Fetcher.{EachOnce, Fetcher, IsTimely}
use Rattle.resolver_fetch_scan.specs.Orders.{Orders}
use Rattle.resolver_fetch_scan.specs.Scan.{Scan}
use Rattle.resolver_fetch.specs.Seeking.{tried_next}

module _ {K P : Type 0} where
  abbrev pub scan_of : Cursor K P → Scan K P
  scan_of cursor = record { moment = cursor.moment; trail = cursor.trail; expects = Some cursor.expects }

  -- a fetcher whose scan is open
  abbrev pub opened : Cursor K P → Fetcher K P → Fetcher K P
  opened cursor f = record f { scan = Some (scan_of cursor) }

  -- the id that a scan expects is the last that was taken, and held by no request; the first ever is asked for where there is none
  abbrev pub ExpectsNewId : List (ℕ × Request K P) → (last_id : Option ℕ) → Expected P → Type 0
  ExpectsNewId asked last_id (FirstId peer) = asked ≡ []
  ExpectsNewId asked last_id (Sending peer id) = (is_held asked id ≡ false) × (last_id ≡ Some id)
  ExpectsNewId asked last_id expected = Unit {0}

  -- nor is the id that a step takes
  abbrev pub TakesNewId : List (ℕ × Request K P) → (last_id : Option ℕ) → Step P → Type 0
  TakesNewId asked last_id (steps.Send peer id) = is_held asked id ≡ false
  TakesNewId asked last_id (steps.Accept peer id) = (is_held asked id ≡ false) × (last_id ≡ Some id)
  TakesNewId asked last_id (steps.Expect expected) = ExpectsNewId asked last_id expected
  TakesNewId asked last_id step = Unit {0}

-- an open scan knows what it tries, and expects no id that is held
pub record IsRight {K P : Type 0} (o : Orders K P) (f : Fetcher K P) (asked : List (ℕ × Request K P)) (last_id : Option ℕ) (cursor : Cursor K P) : Type 0 where
  pub moment_fits : cursor.moment < 2 ^ 94
  pub tries : tried_next o f cursor.moment cursor.trail ≡ Some cursor.trying
  pub new_id : ExpectsNewId asked last_id cursor.expects

-- what is so of every fetcher
pub record IsKept {K P : Type 0} (by_key : K → K → Ordering) (timeout delay : ℕ) (last_id : Option ℕ) (waiting : List (Place × K)) (asked : List (ℕ × Request K P)) : Type 0 where
  pub timely : IsTimely timeout delay
  pub once : EachOnce by_key waiting asked
  pub none_yet : last_id ≡ None → asked ≡ []
