use Rattle.std.proofs.Common.{◌≡◌, ◌∙◌, sym, ap, refl, rules, false, ℕ, ◌∷◌, ◌++◌}
use Rattle.resolver_types.specs.Subscribers.{without}
use Rattle.resolver_demand.proofs.Copied.{one-more}
use Rattle.resolver_demand.proofs.subscribers.many.without.Goals as goal

-- one that is named is passed over
passed : (g : _) (c : goal.Else-not-has g) → without g.S.Ord.cmp c.args.named.now.list.now c.loop-one.one-iterator
    ≡ without g.S.Ord.cmp c.args.named.now.list.now c.next.new.self
passed g c = rw (c.in-Some.ensures.steps, ← c.if-not-has.ensures) refl

pub loop-one-preserved : goal.loop-one-preserved
loop-one-preserved g c = ap (λ left. c.loop-one.rest.items ++ left) (sym (passed g c)) ∙ c.loop-one.invariant

pub loop-one-preserved-in_ok-push : goal.loop-one-preserved-in_ok-push
loop-one-preserved-in_ok-push g c =
    let named = c.args.named.now.list.now in
    let one : _ × ℕ = (c.in-Some.one.now, c.in-Some.mark.now) in
    let not_named : c.has.result ≡ false = search rules in
    let kept : without g.S.Ord.cmp named c.loop-one.one-iterator ≡ one ∷ without g.S.Ord.cmp named c.next.new.self
    = rw (c.in-Some.ensures.steps, ← sym not_named ∙ c.has.ensures) refl in
    let same = c.requires c.in-Some.one.now c.in_ok-clone.field-0 c.in_ok-clone.ensures.cases in
    one-more c.loop-one.rest.items c.push.new.self.items (without g.S.Ord.cmp named c.loop-one.one-iterator) (without g.S.Ord.cmp named c.next.new.self) (without g.S.Ord.cmp named c.args.map.now.entries)
    one (c.in_ok-clone.field-0, c.in-Some.mark.now) c.in_ok-push.ensures.items (ap (λ one. (one, c.in-Some.mark.now)) same) kept c.loop-one.invariant
