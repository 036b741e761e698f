-- What a step of a scan makes of the fetcher.
use Rattle.std.specs.Prelude.{ℕ, List, Option}
use Rattle.resolver_fetch_scan.specs.declared.step.Step.{Step}
use Rattle.resolver_fetch_scan.specs.declared.trail.Expected.{Expected}
use Rattle.resolver_fetch_scan.specs.declared.trail.Try.{Try}
use Rattle.resolver_fetch.specs.Seeking.{scan_at}
use Rattle.resolver_fetch_scan.specs.Orders.{Orders}
use Rattle.resolver_fetch_scan.specs.Scan.{Scan, asks_for, goes_on}
use Rattle.resolver_fetch_scan.specs.ScanSteps.{stepped}
use Rattle.resolver_fetch_scan.specs.Fetcher.{Fetcher, snapshot, turned}

module _ {K P : Type 0} (o : Orders K P) where
  -- a scan takes a step
  abbrev pub after_step : Scan K P → K → Step P → Fetcher K P → Fetcher K P
  after_step scan key step f = turned o (stepped o (snapshot o f) scan key step) f

  -- a scan expects this, and the last id is this one
  abbrev pub expecting : Scan K P → Expected P → (last_id : Option ℕ) → Fetcher K P → Fetcher K P
  expecting scan expected last_id f = turned o (record (asks_for o (snapshot o f) scan expected) { last_id = last_id }) f

  -- a scan of this moment tries what is next after this trail, or ends
  abbrev pub after_all : (moment : ℕ) → List (Try K P) → Fetcher K P → Fetcher K P
  after_all moment trail f = turned o (goes_on o (snapshot o f) (scan_at moment trail)) f
