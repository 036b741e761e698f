-- What a fetch makes of the fetcher.
use Rattle.std.specs.Prelude.{ℕ, List, Option, None, Some, is_some, if◌then◌else◌}
use Rattle.resolver_fetch_scan.specs.Fetcher.{Fetcher, add_ready, add_targets, clear_targets, targets_of}
use Rattle.resolver_fetch_scan.specs.Orders.{Orders}

module _ {K P : Type 0} (o : Orders K P) where
  -- a key that is there may be asked of more peers, or of any; one that may be asked of any stays so
  abbrev pub aimed : K → Option (List P) → Fetcher K P → Fetcher K P
  aimed key None f = clear_targets o key f
  aimed key (Some peers) f = if is_some (targets_of o f key) then add_targets o key peers f else f

  -- a new key waits, and may be asked of these peers, or of any
  abbrev pub readied : (now : ℕ) → K → Option (List P) → Fetcher K P → Fetcher K P
  readied now key None f = add_ready o key now f
  readied now key (Some peers) f = add_ready o key now (add_targets o key peers f)
