use Rattle.std.proofs.Common.{◌≡◌, ◌++◌}
use Rattle.resolver_model_opaque.specs.OpaqueFound.{all_kept_called_off}
use Rattle.resolver_model_opaque.proofs.rows.call_off_all.Given as goal

-- the effects so far, with what the keys that are left call off
abbrev pub invariant-loop-entry : goal.invariant-loop-entry
invariant-loop-entry g l =
    l.effects.items ++ all_kept_called_off l.entry-iterator ≡ l.fn.effects.items ++ all_kept_called_off l.entries.keys
