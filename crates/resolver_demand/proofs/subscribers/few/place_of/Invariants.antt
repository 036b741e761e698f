use Rattle.std.proofs.Common.{◌≡◌, ◌++◌, take, drop}
use Rattle.resolver_types.specs.Subscribers.{attached}
use Rattle.resolver_demand.proofs.subscribers.few.place_of.Given as goal

-- the subscriber goes behind those so far
abbrev pub invariant-loop-i : goal.invariant-loop-i
invariant-loop-i g l = attached g.S.Ord.cmp l.list l.one ≡ take l.i l.list ++ attached g.S.Ord.cmp (drop l.i l.list) l.one
