use Rattle.std.proofs.Common.{◌≡◌, take}
use Rattle.resolver_swarm.specs.Keeping.{Joins}
use Rattle.resolver_swarm.proofs.judging.judge.Judge.want.Given as goal

abbrev pub invariant-loop-item : goal.invariant-loop-item
invariant-loop-item l = record {
  joined : Joins (take l.item-index l.items) l.initial.self.demand l.self.demand;
  rest : l.self ≡ record l.initial.self { demand = l.self.demand; touched = l.self.touched };
}
