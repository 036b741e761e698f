use Rattle.std.proofs.Common.{take}
use Rattle.resolver_swarm.specs.Keeping.{AreThose}
use Rattle.resolver_swarm.proofs.judging.judge.replace.Given as goal

abbrev pub invariant-loop-peer : goal.invariant-loop-peer
invariant-loop-peer l = AreThose (take l.peer-index l.peers) l.set
