-- Which inputs end an engine.
use Rattle.std.specs.Prelude.{Bool, true, false}
use Rattle.resolver_model_peer.specs.declared.inputs.Event.{Event as CodeEvent}
use Rattle.resolver_model_peer.specs.declared.inputs.Event.TheVariants as events
use Rattle.resolver_model_peer.specs.declared.inputs.Input.{Input as CodeInput}
use Rattle.resolver_model_peer.specs.declared.inputs.Input.TheVariants as inputs

module _ {K P S Q : Type 0} where
  abbrev pub is_end_event : CodeEvent K P S Q → Bool
  is_end_event events.End = true
  is_end_event event = false

  abbrev pub is_end : CodeInput K P S Q → Bool
  is_end (inputs.Happens happening) = is_end_event happening.event
  is_end (inputs.Answers answer) = false
