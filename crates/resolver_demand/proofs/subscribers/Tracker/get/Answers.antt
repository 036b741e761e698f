use Rattle.std.specs.BTreeMap.{is_at}
use Rattle.resolver_demand.proofs.ListedRows.{listed-found}
use Rattle.resolver_demand.proofs.subscribers.Tracker.get.Goals as goal

pub returns-clause-listed : goal.returns-clause-listed
returns-clause-listed g c =
    listed-found g.S.Ord.cmp (is_at (g.K.Ord.cmp c.args.key.now)) c.self.inside.demand.entries c.get.result c.get.ensures.value c.self.invariant
