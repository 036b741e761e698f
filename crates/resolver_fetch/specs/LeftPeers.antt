-- The peers that a scan draws from for a waiting key.
use Rattle.std.specs.Prelude.{ℕ, not, List, filter, Option, option_map}
use Rattle.std.specs.declared.cmp.Ordering.{Ordering}
use Rattle.resolver_fetch_requests.specs.declared.requests.request.Request.{Request}
use Rattle.resolver_fetch_requests.specs.Loads.{Load}
use Rattle.resolver_fetch_requests.specs.Requests.{requests_to}
use Rattle.resolver_fetch_scan.specs.Known.{Known}
use Rattle.resolver_fetch_scan.specs.declared.trail.Try.{Try}
use Rattle.resolver_fetch_scan.specs.Fetcher.{Fetcher, snapshot, targets_of}
use Rattle.resolver_fetch_scan.specs.Orders.{Orders}
use Rattle.resolver_fetch_scan.specs.Pools.{IsWhole, Pool, whole}
use Rattle.resolver_fetch_scan.specs.Scan.{was_tried}
use Rattle.resolver_fetch_scan.specs.Snapshot.{eligible, known}
use Rattle.resolver_fetch_scan.specs.Trying.{drawn_from, weighed}

-- each peer has as many requests as these are
abbrev pub loaded_with : {P : Type 0} → (P → ℕ) → Load P → Load P
loaded_with requests load = record load { requests = requests }

abbrev pub loaded_by : {K P : Type 0} → (P → P → Ordering) → List (ℕ × Request K P) → Known P → Known P
loaded_by by_peer asked company = record company { load = option_map (loaded_with (requests_to by_peer asked)) company.load }

module _ {K P : Type 0} (o : Orders K P) where
  -- the peers that may be asked for a key, and of them those that were not tried, with what they weigh
  abbrev pub pool_for : Fetcher K P → List (Try K P) → K → Pool P
  pool_for f trail key = record {
    all = drawn_from o.peer (known o (snapshot o f)) (targets_of o f key);
    left = weighed (filter (λ p. not (was_tried o trail key p.0)) (eligible o (snapshot o f) (targets_of o f key)));
  }

  -- all the peers that may be asked for a key
  abbrev pub whole_for : Fetcher K P → K → Pool P
  whole_for f key = whole (drawn_from o.peer (known o (snapshot o f)) (targets_of o f key))

  -- a pool that is at hand has all that may be asked for a key without targets
  abbrev pub IsAtHand : Fetcher K P → Option (Pool P) → Type 0
  IsAtHand f at_hand = IsWhole o.peer (known o (snapshot o f)) at_hand
