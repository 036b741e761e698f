use Rattle.std.proofs.Common.{rules, ◌≡◌, ◌∙◌, ap}
use Rattle.resolver_types.specs.Names.{names}
use Rattle.resolver_backfill.specs.Plans.{fetched, lacking, met, wanting}
use Rattle.resolver_backfill.proofs.Keys.{lacking-new}
use Rattle.resolver_backfill.proofs.Turning.{want-turns}
use Rattle.resolver_backfill.proofs.plan.Plan.want.Goals as goal

pub add-requires-clause-lacked : goal.add-requires-clause-lacked
add-requires-clause-lacked g c =
    let is : c.deref-2.result.now ≡ lacking g.K.Ord.cmp c.args.self.now.wanted c.args.keys.now = search rules in
    ap (met g.K.Ord.cmp c.args.self.now.wanted) is ∙ lacking-new g.K.Ord.cmp g.met.K.Ord.total c.args.self.now.wanted c.args.keys.now

pub returns-clause-turns : goal.returns-clause-turns
returns-clause-turns g c =
    let turns = want-turns (names g.K.Ord.cmp g.S.Ord.cmp) g.met.K.Ord.total g.met.S.Ord.total c.args.self.now c.args.keys.now in
    let answer : c.in_ok-fetches.fetches.items ≡ fetched g.K.Ord.cmp c.args.self.now c.args.keys.now = search rules in
    let after : c.add.new.self ≡ wanting g.K.Ord.cmp c.args.self.now c.args.keys.now = search rules in
    rw (answer, after) turns
