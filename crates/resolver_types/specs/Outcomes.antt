-- What a plain answer says of a delivery.
use Rattle.std.specs.Prelude.{Bool, true, false}
use Rattle.resolver_types.specs.declared.outcome.Outcome.{Outcome}
use Rattle.resolver_types.specs.declared.outcome.Outcome.TheVariants.{Invalid, Resolved}
use Rattle.resolver_types.specs.declared.outcome.Resolution.TheVariants.{Complete}

-- true is complete, and false is invalid
abbrev pub outcome_of : Bool → Outcome
outcome_of true = Resolved Complete
outcome_of false = Invalid
