use Rattle.std.proofs.Common.{length, map}
use Rattle.resolver_messages.specs.Waiting.{Retains, Takes}
use Rattle.resolver_desk.proofs.drain.drain_retains.Given as goal

-- What was there is taken up to what is left.
abbrev pub invariant-loop-keep : goal.invariant-loop-keep
invariant-loop-keep g l = record {
  callable : goal.F-IsAlwaysCallable g l.push;
  takes : Takes (goal.F-step g) l.fn.push l.push (map Retains l.fn.retains.items) (map Retains l.retains.items);
}

abbrev pub decreases-loop-keep : goal.decreases-loop-keep
decreases-loop-keep g l = length l.retains.items
