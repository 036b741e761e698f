use Rattle.std.proofs.Common.{◌≡◌, ◌++◌, drop}
use Rattle.resolver_model_opaque.specs.OpaqueFound.{each_called_off}
use Rattle.resolver_model_opaque.proofs.rows.call_off_each.Given as goal

-- the effects so far, with what the keys that are left call off
abbrev pub invariant-loop-key : goal.invariant-loop-key
invariant-loop-key g l =
    l.effects.items ++ each_called_off g.K.Ord.cmp l.entries.keys (drop l.key-index l.keys)
    ≡ l.fn.effects.items ++ each_called_off g.K.Ord.cmp l.entries.keys l.keys
