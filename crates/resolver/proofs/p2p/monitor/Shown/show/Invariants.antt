use Rattle.futures.specs.Task.{Keeps}
use Rattle.resolver.proofs.p2p.monitor.Shown.show.Given as goal

-- the context is kept over the answers
abbrev pub invariant-loop : goal.invariant-loop
invariant-loop g l = Keeps l.initial.cx l.cx
