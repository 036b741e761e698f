use Rattle.std.proofs.Common.{◌≡◌, ◌++◌}
use Rattle.resolver_model_peer.specs.Canceled.{all_canceled}
use Rattle.resolver_model_peer.proofs.canceled.cancel_all.Given as goal

-- the effects so far, with what the keys that are left call off
abbrev pub invariant-loop-entry : goal.invariant-loop-entry
invariant-loop-entry g l = l.effects.items ++ all_canceled l.entry-iterator ≡ l.fn.effects.items ++ all_canceled l.entries.keys
