use Rattle.std.proofs.Common.{◌≡◌, ◌<◌, [], length, arith, rules, ap}
use Rattle.std.specs.BTreeMap.{is_at}
use Rattle.resolver_demand.specs.Rows.{IsListed}
use Rattle.resolver_demand.proofs.ListedRows.{listed-of}
use Rattle.resolver_demand.proofs.subscribers.Tracker.pending.Goals as goal

pub unreachable-requires : goal.unreachable-requires
unreachable-requires g c =
    let some : 0 < length c.in-Some.subscribers.now = (listed-of g.S.Ord.cmp (is_at (g.K.Ord.cmp c.args.key.now)) c.self.inside.demand.entries c.in-Some.subscribers.now c.self.invariant (search rules)).some in
    let none : c.in-Some.subscribers.now ≡ [] = search rules in
    omega (arith, some, ap length none)

pub returns-clause-listed : goal.returns-clause-listed
returns-clause-listed g c =
    let listed : IsListed g.S.Ord.cmp c.in-Some.subscribers.now = listed-of g.S.Ord.cmp (is_at (g.K.Ord.cmp c.args.key.now)) c.self.inside.demand.entries c.in-Some.subscribers.now c.self.invariant (search rules) in
    let same : c.in-Ok.pending ≡ c.in-Some.subscribers.now = search rules in
    rw same listed
