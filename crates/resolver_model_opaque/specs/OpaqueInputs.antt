-- What the actor's inputs are to the machine.
use Rattle.std.specs.Prelude.{Bool, map}
use Rattle.resolver_messages.specs.declared.message.FetchKey.{FetchKey}
use Rattle.resolver_model_opaque.specs.declared.inputs.Event.{Event as CodeEvent}
use Rattle.resolver_model_opaque.specs.declared.inputs.Event.TheVariants as events
use Rattle.resolver_model_opaque.specs.declared.inputs.Input.{Input as CodeInput}
use Rattle.resolver_model_opaque.specs.OpaqueSteps.{Input}
use Rattle.resolver_model_opaque.specs.Opaque.{Event, Item, Fetch, Retain, Fetched, Verdict, RetriesDue, End}

module _ {K S : Type 0} where
  abbrev pub item_of : FetchKey K S (Unit {0}) → Item K S
  item_of item = record { key = item.key; subscribers = item.subscribers }

-- `keeps` is what the predicates keep
module _ {K V S Q : Type 0} (keeps : Q → K → S → Bool) where
  abbrev pub event_of : CodeEvent K V S Q → Event K V S
  event_of (events.Fetch items) = Fetch (map item_of items.items)
  event_of (events.Retain keep) = Retain (keeps keep)
  event_of (events.Fetched attempt value) = Fetched attempt value
  event_of (events.Verdict number outcome) = Verdict number outcome
  event_of events.RetriesDue = RetriesDue
  event_of events.End = End

  abbrev pub input_of : CodeInput K V S Q → Input K V S
  input_of input = record { now = input.now; event = event_of input.event }
