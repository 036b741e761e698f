-- Numbers of 128 bits in two halves, and what is made of them.
use Rattle.std.specs.Prelude.{ℕ, ◌/◌, ◌%◌, ◌^◌, true, false, Option, Some, None}
use Rattle.resolver_metrics.specs.declared.metrics.Tally.{Tally}
use Rattle.resolver_metrics.specs.declared.metrics.Durations.{Durations}
use Rattle.resolver_metrics.specs.declared.metrics.Metrics.{Metrics}
use Rattle.resolver_c.specs.declared.counts.Counts.{Counts}
use Rattle.resolver_c.specs.declared.counts.Ends.{Ends}
use Rattle.resolver_c.specs.declared.counts.Lasted.{Lasted}
use Rattle.resolver_c.specs.declared.deadline.Deadline.{Deadline}

abbrev pub low_of : ℕ → ℕ
low_of number = number % 2 ^ 64

abbrev pub high_of : ℕ → ℕ
high_of number = number / 2 ^ 64

-- a moment, or none
abbrev pub due_of : Option ℕ → Deadline
due_of None = record { is = false; low = 0; high = 0 }
due_of (Some moment) = record { is = true; low = low_of moment; high = high_of moment }

abbrev pub ends_of : Tally → Ends
ends_of tally = record { success = tally.success; ambiguous = tally.ambiguous; failure = tally.failure; dropped = tally.dropped }

abbrev pub lasted_of : Durations → Lasted
lasted_of durations = record { count = durations.count; nanoseconds_low = low_of durations.nanoseconds; nanoseconds_high = high_of durations.nanoseconds }

-- the same counts, as they are handed out
abbrev pub counts_of : Metrics → Counts
counts_of metrics = record {
  fetch_pending = metrics.fetch_pending;
  fetch_active = metrics.fetch_active;
  serve_processing = metrics.serve_processing;
  fetch = ends_of metrics.fetch;
  cancel = ends_of metrics.cancel;
  serve = ends_of metrics.serve;
  requests_sent = ends_of metrics.requests_sent;
  serve_duration = lasted_of metrics.serve_duration;
  fetch_duration = lasted_of metrics.fetch_duration;
  resolves = lasted_of metrics.resolves;
}
