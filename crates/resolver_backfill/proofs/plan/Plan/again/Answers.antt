use Rattle.std.proofs.Common.{◌≡◌, rules}
use Rattle.resolver_types.specs.Names.{names}
use Rattle.resolver_backfill.specs.Plans.{fetches_of}
use Rattle.resolver_backfill.proofs.Turning.{again-restores}
use Rattle.resolver_backfill.proofs.plan.Plan.again.Goals as goal

pub returns-clause-restores : goal.returns-clause-restores
returns-clause-restores g c =
    let is : c.loop-key.fetches.items ≡ fetches_of c.args.self.now c.args.self.now.wanted = search rules in
    rw is (again-restores (names g.K.Ord.cmp g.S.Ord.cmp) g.met.K.Ord.total g.met.S.Ord.total c.args.self.now)
