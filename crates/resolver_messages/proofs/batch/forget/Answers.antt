use Rattle.std.proofs.Common.{◌≡◌, ◌∙◌, sym, ap, ◌∷◌, ◌++◌, []}
use Rattle.resolver_messages.specs.Waiting.{keys_of_items}
use Rattle.resolver_types.specs.Undone.{without_each}
use Rattle.resolver_types.proofs.Undone.{without_each-last}
use Rattle.resolver_messages.proofs.Queue.{keys-push}
use Rattle.resolver_messages.proofs.batch.forget.Goals as goal

pub loop-last-preserved : goal.loop-last-preserved
loop-last-preserved g c =
    let split : c.loop-last.left.now ≡ c.in-Some.rest.now ++ c.in-Some.last.now ∷ [] = c.in-Some.ensures.cases.0 in
    rw c.remove.ensures (sym (without_each-last g.K.Ord.cmp (keys_of_items c.in-Some.rest.now) c.in-Some.last.now.key c.loop-last.places)
    ∙ ap (λ keys. without_each g.K.Ord.cmp keys c.loop-last.places) (sym (ap keys_of_items split ∙ keys-push c.in-Some.rest.now c.in-Some.last.now))
    ∙ c.loop-last.invariant)
