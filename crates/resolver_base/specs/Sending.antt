-- What becomes of a message.
use Rattle.std.specs.Prelude.{Bool, true, false}
use Rattle.resolver_base.specs.declared.feedback.Feedback.{Feedback}
use Rattle.resolver_base.specs.declared.feedback.Feedback.TheVariants.{Ok, Backoff, Closed}
use Rattle.resolver_base.specs.declared.unreliable.Unreliable.{Unreliable}
use Rattle.resolver_base.specs.declared.unreliable.Unreliable.TheVariants.{Rejected, Outcome}

-- whether it was taken
abbrev pub was_taken : Feedback → Bool
was_taken Ok = true
was_taken Backoff = true
was_taken Closed = false

-- whether one to a peer is on its way
abbrev pub is_accepted : Unreliable → Bool
is_accepted Rejected = false
is_accepted (Outcome feedback) = was_taken feedback
