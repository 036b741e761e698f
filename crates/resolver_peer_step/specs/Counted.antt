-- What is counted of what happens.
use Rattle.std.specs.Prelude.{Bool, true, false, not, Option, None, Some, if◌then◌else◌, ◌==◌, ◌^◌, ℕ, nat_lt, List, length}
use Rattle.resolver_types.specs.declared.outcome.Outcome.{Outcome}
use Rattle.resolver_types.specs.declared.outcome.Outcome.TheVariants.{Invalid, Resolved, Unresolved, Ignored}
use Rattle.resolver_metrics.specs.Counters.{measured, raised}
use Rattle.resolver_metrics.specs.declared.metrics.Durations.{Durations}
use Rattle.resolver_metrics.specs.declared.metrics.Tally.{Tally}
use Rattle.resolver_fetch_scan.specs.declared.scan.Answer.{Answer}
use Rattle.resolver_fetch_scan.specs.declared.scan.Answer.TheVariants.{Drawn, Checked, Sent}

-- one success, failure, .. more where it is so
abbrev pub one_success : Bool → Tally → Tally
one_success is t = if is then record t { success = raised 1 t.success } else t

abbrev pub one_ambiguous : Bool → Tally → Tally
one_ambiguous is t = if is then record t { ambiguous = raised 1 t.ambiguous } else t

abbrev pub one_dropped : Bool → Tally → Tally
one_dropped is t = if is then record t { dropped = raised 1 t.dropped } else t

abbrev pub one_failure : Tally → Tally
one_failure t = record t { failure = raised 1 t.failure }

-- What a verdict on a response is to its fetch. The response was accepted before, or not.
abbrev pub judged : (accepted : Bool) → Option Outcome → Tally → Tally
judged accepted (Some (Resolved resolution)) t = one_success (not accepted) t
judged accepted (Some Invalid) t = one_failure t
judged accepted (Some Unresolved) t = one_ambiguous (not accepted) t
judged accepted (Some Ignored) t = t
judged accepted None t = t

-- What it is to a fetch that its key is retired: dropped, where the consumer ignored what came, or is gone and no response was accepted.
abbrev pub retired : (accepted : Bool) → Option Outcome → Tally → Tally
retired accepted (Some (Resolved resolution)) t = t
retired accepted (Some Invalid) t = t
retired accepted (Some Unresolved) t = t
retired accepted (Some Ignored) t = one_dropped true t
retired accepted None t = one_dropped (not accepted) t

-- a retain that called off so many keys
abbrev pub called_off : (ended : ℕ) → Tally → Tally
called_off ended t = if ended == 0 then one_dropped true t else record t { success = raised ended t.success }

-- Whether the producer's answer to a peer's request is a response: bytes, and no more than a message can carry.
abbrev pub is_answer : Option (List ℕ) → Bool
is_answer None = false
is_answer (Some bytes) = nat_lt (length bytes) (2 ^ 32)

-- the producer's answer to a peer's request, a response or not
abbrev pub answered : Bool → Tally → Tally
answered true t = one_success true t
answered false t = one_failure t

abbrev pub measured_if : Bool → (nanoseconds : ℕ) → Durations → Durations
measured_if is nanoseconds d = if is then measured nanoseconds d else d

-- a request that was accepted to be sent, or refused
abbrev pub sent : Answer → Tally → Tally
sent (Sent true) t = one_success true t
sent (Sent false) t = one_dropped true t
sent (Drawn number) t = t
sent (Checked check) t = t
