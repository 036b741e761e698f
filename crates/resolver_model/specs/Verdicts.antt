-- What a live verdict means, for both machines.
use Rattle.std.specs.Prelude.{Bool, true, Option, None, Some, if◌then◌else◌}
use Rattle.resolver_types.specs.declared.outcome.Outcome.{Outcome}
use Rattle.resolver_types.specs.declared.outcome.Outcome.TheVariants.{Invalid, Resolved, Unresolved, Ignored}
use Rattle.resolver_types.specs.declared.outcome.Resolution.TheVariants.{Complete, Partial}
use Rattle.resolver_model.specs.declared.ruling.Ruling.{Ruling}
use Rattle.resolver_model.specs.declared.ruling.Ruling.TheVariants.{Serve, Retry, Retire}

-- `accepted`: the response was judged Complete before. A consumer that is gone gives no outcome
abbrev pub ruling : (accepted : Bool) → Option Outcome → Ruling
ruling accepted None = Serve accepted
ruling accepted (Some (Resolved Complete)) = Serve true
ruling accepted (Some (Resolved Partial)) = Retry
ruling accepted (Some Unresolved) = Retry
ruling accepted (Some Invalid) = if accepted then Retire else Retry
ruling accepted (Some Ignored) = Retire
