use Rattle.std.proofs.Common.{◌≡◌, ◌∙◌, [], sym, ap, map, arith}
use Rattle.std.proofs.lemmas.List.{nil_from_length}
use Rattle.std.specs.Vec.Iter.{into_iter_items}
use Rattle.resolver_types.specs.Names.{names}
use Rattle.resolver_model_opaque.specs.Opaque.{fetch, fetch_one, row_of}
use Rattle.resolver_model_opaque.specs.OpaqueInputs.{item_of}
use Rattle.resolver_model_opaque.specs.OpaqueSteps.{onto}
use Rattle.resolver_model_opaque.proofs.ByDue.{onto-and_then}
use Rattle.resolver_model_opaque.proofs.OpaqueGoing.{quiet_goes}
use Rattle.resolver_opaque_actor.proofs.actor.Actor.fetch.Goals as goal

pub loop-item-preserved : goal.loop-item-preserved
loop-item-preserved g c =
    let n = names g.K.Ord.cmp g.S.Ord.cmp in
    let before = c.loop-item.effects.items in
    sym (onto-and_then (fetch_one n c.loop-item.self (item_of c.in-Some.item) (row_of n c.loop-item.self c.in-Some.item.key))
    (λ next. fetch n next (map item_of (into_iter_items c.next.new.self))) before c.fetch_one.new.effects.items c.fetch_one.new.self c.in_ok-fetch_one.ensures)
    ∙ ap (λ items. onto before (fetch n c.loop-item.self (map item_of items))) (sym c.in-Some.ensures.steps.0)
    ∙ c.loop-item.invariant

pub loop-item-init : goal.loop-item-init
loop-item-init g c =
    ap (λ items. onto c.args.effects.now.items (fetch (names g.K.Ord.cmp g.S.Ord.cmp) c.args.self.now (map item_of items))) c.into_iter-item-iterator.ensures.into_iter_gives.0

pub returns : goal.returns
returns g c =
    let n = names g.K.Ord.cmp g.S.Ord.cmp in
    let none : into_iter_items c.loop-item.item-iterator ≡ [] = nil_from_length _ (omega (arith, c.in-None.ensures.steps)) in
    sym c.loop-item.invariant
    ∙ (ap (λ items. onto c.loop-item.effects.items (fetch n c.loop-item.self (map item_of items))) none
    ∙ quiet_goes c.loop-item.self c.loop-item.effects.items)

pub loop-item-smaller : goal.loop-item-smaller
loop-item-smaller g c = omega (arith, c.in-Some.ensures.steps.1)
