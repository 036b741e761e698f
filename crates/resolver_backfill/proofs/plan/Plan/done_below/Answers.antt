use Rattle.resolver_types.specs.Names.{names}
use Rattle.resolver_backfill.proofs.Turning.{done-below-turns}
use Rattle.resolver_backfill.proofs.plan.Plan.done_below.Goals as goal

pub returns-clause-turns : goal.returns-clause-turns
returns-clause-turns g c =
    let turns = done-below-turns (names g.K.Ord.cmp g.S.Ord.cmp) g.met.K.Ord.total g.met.S.Ord.total c.args.self.now c.args.bound.now in
    let answer = c.in_ok-without.ensures.without in
    let after = c.forget_below.ensures in
    rw (answer, after) turns
