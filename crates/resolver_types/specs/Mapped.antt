-- What a closure that may change gave for the items of a list, in turn.
use Rattle.std.specs.Borrow.{Bor}
use Rattle.std.specs.Prelude.{◌≡◌, List, length}
use Rattle.std.specs.List.{FoldsTo, zip}

-- one answer for each item, by calls one after another, the first of them on f
abbrev pub MapsInTurn : {F A B : Type 0} → (F → A → B → F → Type 0) → F → List A → List B → Type 0
MapsInTurn {F} step f items answers =
    (length answers ≡ length items)
    × ((last : F) × FoldsTo (λ g pair h. step g pair.0 pair.1 h) f (zip items answers) last)

-- the steps of a closure that is lent each item
abbrev pub lending : {F A B : Type 0} → (F → Bor A → B → F → Type 0) → F → A → B → F → Type 0
lending {F} {A} step f item answer g = (lent : Bor A) × (lent.now ≡ item) × step f lent answer g
