-- What a receiver gives.
use Rattle.std.specs.Prelude.{ℕ, List, [], ◌∷◌, Option, None, Some, Result, Ok, Err}
use Rattle.futures.specs.declared.task.Poll.{Poll}
use Rattle.futures.specs.declared.task.Poll.TheVariants.{Pending, Ready}
use Rattle.resolver_base.specs.declared.fault.Fault.{Fault}
use Rattle.resolver_messages.specs.declared.message.Message.{Message}
use Rattle.resolver_messages.specs.Waiting.{Told, told_of}

-- what a receiver gave, in its order, and where its task is woken
pub record Inbox (K S M Q : Type 0) : Type 0 where
  pub taken : List (Told K S M Q)
  pub arrived : ℕ

-- the message that a poll gives, if any
abbrev pub given : {K S M Q : Type 0} → Poll (Option (Result (Message K S M Q) Fault)) → List (Told K S M Q)
given (Ready (Some (Ok message))) = told_of message ∷ []
given (Ready (Some (Err fault))) = []
given (Ready None) = []
given Pending = []
