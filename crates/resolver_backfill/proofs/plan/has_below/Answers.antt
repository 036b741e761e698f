use Rattle.std.proofs.Common.{rules, ◌≡◌, ◌∙◌}
use Rattle.resolver_backfill.specs.Plans.{is_below}
use Rattle.resolver_backfill.proofs.Keys.{below-got}
use Rattle.resolver_backfill.proofs.plan.has_below.Goals as goal

pub returns-in-Some : goal.returns-in-Some
returns-in-Some g c =
    let below : c.is_lt.result ≡ is_below g.K.Ord.cmp c.args.bound.now c.in-Some.first.now = search rules in
    below ∙ below-got g.K.Ord.cmp g.met.K.Ord.total c.args.bound.now c.in-Some.first.now c.args.set.now.keys c.requires.ordered c.in-Some.ensures.first
