-- What is drained of messages that wait, where `told` says a message as a list sees it.
use Rattle.std.specs.Prelude.{◌≡◌, List, [], ◌∷◌, ◌++◌, map, Option, None, Some, IfSome}
use Rattle.std.specs.List.{FoldsTo}

module _ {T U F : Type 0} (told : T → U) (step : F → T → Option T → F → Type 0) where
  -- a message that isn't taken is handed back
  abbrev pub HandsBack : Type 0
  HandsBack = (push : F) (message : T) (answer : Option T) (after : F) → step push message answer after → IfSome answer (λ back. told back ≡ told message)

  -- nothing is left, or the first message is handed back
  abbrev pub IsRefused : F → List U → Type 0
  IsRefused push [] = Unit {0}
  IsRefused push (first ∷ behind) = (message : T) × (back : T) × (after : F) × (told message ≡ first) × step push message (Some back) after

  -- what waits is taken in order, up to what is left
  abbrev pub Takes : F → F → List U → List U → Type 0
  Takes push last was left = (taken : List T)
      × FoldsTo (λ state message after. step state message None after) push taken last
      × (was ≡ map told taken ++ left)

  -- What waits is taken in order, until nothing is left or a message is handed back.
  abbrev pub Drains : F → List U → List U → Type 0
  Drains push was left = (last : F) × Takes push last was left × IsRefused last left
