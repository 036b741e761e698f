use Rattle.std.proofs.Common.{◌≡◌, ◌∙◌, sym, ap, rules, ◌∷◌, ◌++◌, []}
use Rattle.resolver_types.specs.Undone.{without_each}
use Rattle.resolver_types.proofs.Undone.{without_each-last}
use Rattle.resolver_demand.proofs.subscribers.many.take_back.Goals as goal

pub loop-one-preserved : goal.loop-one-preserved
loop-one-preserved g c =
    let popped : c.loop-one.added.items ≡ c.pop.new.self.items ++ c.in-Some.one ∷ [] = search rules in
    rw c.remove.ensures.entries (sym (without_each-last g.S.Ord.cmp c.pop.new.self.items c.in-Some.one c.loop-one.map.entries)
    ∙ ap (λ added. without_each g.S.Ord.cmp added c.loop-one.map.entries) (sym popped)
    ∙ c.loop-one.invariant)
