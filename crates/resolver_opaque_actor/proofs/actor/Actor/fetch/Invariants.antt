use Rattle.std.proofs.Common.{◌≡◌, map}
use Rattle.std.specs.Vec.Iter.{into_iter_items}
use Rattle.resolver_types.specs.Names.{names}
use Rattle.resolver_model_opaque.specs.Opaque.{fetch}
use Rattle.resolver_model_opaque.specs.OpaqueInputs.{item_of}
use Rattle.resolver_model_opaque.specs.OpaqueSteps.{onto}
use Rattle.resolver_opaque_actor.proofs.actor.Actor.fetch.Given as goal

-- what is left of the items, behind the effects so far, does what all of them do behind the first effects
abbrev pub invariant-loop-item : goal.invariant-loop-item
invariant-loop-item g l =
    let n = names g.K.Ord.cmp g.S.Ord.cmp in
    onto l.effects.items (fetch n l.self (map item_of (into_iter_items l.item-iterator)))
    ≡ onto l.fn.effects.items (fetch n l.fn.self (map item_of l.fn.items.items))
