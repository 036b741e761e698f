use Rattle.std.proofs.Common.{◌≡◌, sym, None, rules}
use Rattle.resolver_backfill.specs.Plans.{let_go}
use Rattle.resolver_backfill.proofs.Told.{settled-none}
use Rattle.resolver_backfill.proofs.telling.settle.Goals as goal

pub returns-in_default-clause-plan : goal.returns-in_default-clause-plan
returns-in_default-clause-plan g c =
    let none : let_go g.K.Ord.cmp c.args.plan.now c.args.keys.now ≡ None = search rules in
    sym (settled-none g.K.Ord.cmp g.met.K.Ord.total c.args.plan.now c.args.keys.now none)
