use Rattle.std.proofs.Common.{rules, arith, ◌≡◌, ◌+◌, ◌∷◌, drop}
use Rattle.std.proofs.lemmas.Grind.{common_steps}
use Rattle.std.specs.BTreeMap.{insert_entry}
use Rattle.resolver_demand.proofs.Placed.{placed-next}
use Rattle.resolver_demand.proofs.subscribers.many.of_list.Goals as goal

pub loop-one-preserved : goal.loop-one-preserved
loop-one-preserved g c =
    let next : drop c.loop-one.one-index c.args.list.now ≡ c.one-item.result ∷ drop (c.loop-one.one-index + 1) c.args.list.now = grind (arith, common_steps) in
    let placed : c.insert.new.self.entries ≡ insert_entry g.S.Ord.cmp c.loop-one.map.entries c.one-item.result.0 c.one-item.result.1 = search rules in
    rw placed (placed-next g.S.Ord.cmp g.met.S.Ord.total c.args.list.now c.loop-one.map.entries (drop (c.loop-one.one-index + 1) c.args.list.now) c.one-item.result (rw (← next) c.loop-one.invariant) c.requires.ordered)
