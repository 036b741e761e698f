use Rattle.std.proofs.Common.{◌≡◌, ◌∙◌, sym, true, false, rules}
use Rattle.std.specs.List.{list_any}
use Rattle.resolver_backfill.specs.Plans.{is_below}
use Rattle.resolver_backfill.proofs.Keys.{from-all, popped}
use Rattle.resolver_backfill.proofs.plan.remove_below.Goals as goal

pub loop-set-preserved-in-loop-set : goal.loop-set-preserved-in-loop-set
loop-set-preserved-in-loop-set g c =
    let below : list_any (is_below g.K.Ord.cmp c.args.bound.now) c.loop-set.set.keys ≡ true = search rules in
    let took = popped g.K.Ord.cmp g.met.K.Ord.total c.args.bound.now c.loop-set.set.keys c.pop_first.new.self.keys c.pop_first.result c.pop_first.ensures.variant c.pop_first.ensures.removal c.loop-set.invariant.ordered below in
    record { left = took.0 ∙ c.loop-set.invariant.left; ordered = c.pop_first.ensures.ordered }

pub loop-set-smaller : goal.loop-set-smaller
loop-set-smaller g c =
    let below : list_any (is_below g.K.Ord.cmp c.args.bound.now) c.loop-set.set.keys ≡ true = search rules in
    (popped g.K.Ord.cmp g.met.K.Ord.total c.args.bound.now c.loop-set.set.keys c.pop_first.new.self.keys c.pop_first.result c.pop_first.ensures.variant c.pop_first.ensures.removal c.loop-set.invariant.ordered below).1

pub returns-clause-left : goal.returns-clause-left
returns-clause-left g c =
    let none : list_any (is_below g.K.Ord.cmp c.args.bound.now) c.loop-set.set.keys ≡ false = search rules in
    sym (from-all g.K.Ord.cmp g.met.K.Ord.total c.args.bound.now c.loop-set.set.keys none) ∙ c.loop-set.invariant.left
