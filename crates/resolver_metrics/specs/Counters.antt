-- Counters, each of which stops at the last number of its type.
use Rattle.std.specs.Prelude.{ℕ, ◌+◌, ◌-◌, ◌^◌, min}
use Rattle.resolver_metrics.specs.declared.metrics.Durations.{Durations}
use Rattle.resolver_metrics.specs.declared.metrics.Metrics.{Metrics}
use Rattle.resolver_metrics.specs.declared.metrics.Tally.{Tally}

abbrev pub raised : (by counter : ℕ) → ℕ
raised by counter = min (counter + by) (2 ^ 64 - 1)

-- one time more
abbrev pub measured : (nanoseconds : ℕ) → Durations → Durations
measured nanoseconds d = record { count = raised 1 d.count; nanoseconds = min (d.nanoseconds + nanoseconds) (2 ^ 128 - 1) }

abbrev pub no_tally : Tally
no_tally = record { success = 0; ambiguous = 0; failure = 0; dropped = 0 }

abbrev pub unmeasured : Durations
unmeasured = record { count = 0; nanoseconds = 0 }

-- what an engine has counted that did nothing
abbrev pub uncounted : Metrics
uncounted = record {
  fetch_pending = 0;
  fetch_active = 0;
  serve_processing = 0;
  fetch = no_tally;
  cancel = no_tally;
  serve = no_tally;
  serve_duration = unmeasured;
  fetch_duration = unmeasured;
  requests_sent = no_tally;
  resolves = unmeasured;
}
