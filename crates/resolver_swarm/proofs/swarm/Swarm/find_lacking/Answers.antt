use Rattle.std.proofs.Common.{rules, below_more, subst}
use Rattle.resolver_swarm.specs.Having.{IsShared}
use Rattle.resolver_swarm.proofs.swarm.Swarm.find_lacking.Goals as goal

pub loop-number-preserved : goal.loop-number-preserved
loop-number-preserved c =
    let nodes = c.args.self.now.nodes.items in
    below_more (IsShared nodes) c.loop-number.number c.loop-number.invariant (subst (IsShared nodes) c.of.ensures (c.find_without.ensures.shared.0 (search rules)))
