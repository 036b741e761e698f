use Rattle.std.proofs.Common.{◌≡◌, ◌++◌, drop}
use Rattle.resolver_model_peer.specs.Canceled.{each_canceled}
use Rattle.resolver_model_peer.proofs.canceled.cancel_each.Given as goal

-- the effects so far, with what the keys that are left call off
abbrev pub invariant-loop-key : goal.invariant-loop-key
invariant-loop-key g l =
    l.effects.items ++ each_canceled g.K.Ord.cmp l.entries (drop l.key-index l.keys)
    ≡ l.fn.effects.items ++ each_canceled g.K.Ord.cmp l.entries l.keys
