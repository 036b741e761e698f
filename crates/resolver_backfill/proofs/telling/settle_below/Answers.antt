use Rattle.std.proofs.Common.{◌≡◌, sym, None, rules}
use Rattle.resolver_backfill.specs.Plans.{let_go_below}
use Rattle.resolver_backfill.proofs.Told.{settled-below-none}
use Rattle.resolver_backfill.proofs.telling.settle_below.Goals as goal

pub returns-in_default-clause-plan : goal.returns-in_default-clause-plan
returns-in_default-clause-plan g c =
    let none : let_go_below g.K.Ord.cmp c.args.plan.now c.args.bound.now ≡ None = search rules in
    sym (settled-below-none g.K.Ord.cmp g.met.K.Ord.total c.args.plan.now c.args.bound.now none)
