-- How a fetcher finds what a scan tries next, and when a scan in vain may be begun again.
use Rattle.std.specs.Prelude.{ℕ, not, nat_le, nat_lt, List, length, map, Option, None, Some, option_map, filter, find}
use Rattle.resolver_fetch_requests.specs.declared.requests.request.Request.{Request}
use Rattle.resolver_priority_set.specs.Priorities.{after}
use Rattle.resolver_fetch_scan.specs.declared.config.Config.{Config}
use Rattle.resolver_fetch_scan.specs.declared.place.Place.{Place}
use Rattle.resolver_fetch_scan.specs.declared.trail.Try.{Try}
use Rattle.resolver_fetch_scan.specs.declared.trying.Next.{Next}
use Rattle.resolver_fetch_scan.specs.declared.trying.Next.TheVariants.{Try as Tries, Wait}
use Rattle.resolver_fetch_scan.specs.Orders.{Orders}
use Rattle.resolver_fetch_scan.specs.Known.{Known}
use Rattle.resolver_fetch_scan.specs.Snapshot.{eligible, known}
use Rattle.resolver_fetch_scan.specs.Scan.{Scan, can_be_tried, trail_moment, was_tried}
use Rattle.resolver_fetch_scan.specs.Trying.{Trying, drawn_from, weighed, trying, trying_for}
use Rattle.resolver_fetch_scan.specs.Waiting.{place_order}
use Rattle.resolver_fetch_scan.specs.Fetcher.{Fetcher, opening, retries_of, snapshot, targets_of, waiting_of}

-- a scan that tried this so far
abbrev pub scan_at : {K P : Type 0} → (moment : ℕ) → List (Try K P) → Scan K P
scan_at moment trail = record { moment = moment; trail = trail; expects = None }

-- what the key to try depends on
abbrev pub searched : {K P : Type 0} → List (Place × K) → (targets : List (K × List P)) → (retries : List (K × ℕ)) → Known P → Config P → List (ℕ × Request K P) → Fetcher K P
searched waiting targets retries known configuration asked =
    record (opening configuration) {
      waiting = waiting;
      asked = asked;
      targets = targets;
      retries = retries;
      peers = known.set;
      blocked = known.blocked;
    }

module _ {K P : Type 0} (o : Orders K P) where
  -- what there is to try of a waiting key
  abbrev pub trying_key : Fetcher K P → List (Try K P) → Place × K → Trying K P
  trying_key f trail (place, key) = record {
    place = place;
    key = key;
    retries = retries_of o f key;
    all = drawn_from o.peer (known o (snapshot o f)) (targets_of o f key);
    left = weighed (filter (λ p. not (was_tried o trail key p.0)) (eligible o (snapshot o f) (targets_of o f key)));
  }

  -- what a scan of this moment tries after this trail
  abbrev pub tried_next : Fetcher K P → (moment : ℕ) → List (Try K P) → Option (Trying K P)
  tried_next f moment trail = trying o (snapshot o f) (scan_at moment trail)

  -- what a scan tries of the keys behind a waiting one
  abbrev pub tried_behind : Fetcher K P → Place × K → Scan K P → Option (Trying K P)
  tried_behind f p scan =
      option_map (trying_for o (snapshot o f) scan.trail)
      (find (can_be_tried o (snapshot o f) scan) (map (waiting_of o f) (after place_order o.key p f.waiting)))

  -- the first of some waiting keys, up to a moment, that has a peer left
  abbrev pub first_until : Fetcher K P → List (Try K P) → (moment : ℕ) → List (Place × K) → Option (Trying K P)
  first_until f trail moment pairs =
      option_map (trying_key f trail)
      (find (λ p. nat_lt 0 (length (trying_key f trail p).left)) (filter (λ p. nat_le p.0.due moment) pairs))

  abbrev pub next_for : Option (Trying K P) → (other : Option ℕ) → Next K P
  next_for None other = Wait other
  next_for (Some t) other = Tries t

  -- when what a scan tried may be tried again
  abbrev pub tried_again : Fetcher K P → Scan K P → Option ℕ
  tried_again f scan = trail_moment f.configuration.retry_delay scan.moment scan.trail

  -- what it does next where a key has no peer left: it goes on behind the key
  abbrev pub next_behind : Fetcher K P → (moment : ℕ) → List (Try K P) → Place × K → Next K P
  next_behind f moment trail p = next_for (tried_behind f p (scan_at moment trail)) (tried_again f (scan_at moment trail))

  -- what a scan of this moment does next after this trail: it tries a key, or ends in vain
  abbrev pub next_of : Fetcher K P → (moment : ℕ) → List (Try K P) → Next K P
  next_of f moment trail = next_for (tried_next f moment trail) (tried_again f (scan_at moment trail))
