use Rattle.std.proofs.Common.{ℕ, ◌<◌}
use Rattle.resolver_swarm.specs.Having.{IsShared}
use Rattle.resolver_swarm.proofs.swarm.Swarm.find_lacking.Given as goal

abbrev pub invariant-loop-number : goal.invariant-loop-number
invariant-loop-number l = (number : ℕ) → number < l.number → IsShared l.self.nodes.items number
