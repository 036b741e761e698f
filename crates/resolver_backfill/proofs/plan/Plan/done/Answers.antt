use Rattle.resolver_types.specs.Names.{names}
use Rattle.resolver_backfill.proofs.Turning.{done-turns}
use Rattle.resolver_backfill.proofs.plan.Plan.done.Goals as goal

pub returns-clause-turns : goal.returns-clause-turns
returns-clause-turns g c =
    let turns = done-turns (names g.K.Ord.cmp g.S.Ord.cmp) g.met.K.Ord.total g.met.S.Ord.total c.args.self.now c.args.keys.now in
    let answer = c.in_ok-without.ensures.without in
    let after = c.forget.ensures in
    rw (answer, after) turns
