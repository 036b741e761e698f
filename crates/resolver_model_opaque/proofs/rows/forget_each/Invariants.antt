use Rattle.std.proofs.Common.{◌≡◌}
use Rattle.std.specs.Vec.Iter.{into_iter_items}
use Rattle.resolver_model_opaque.specs.OpaqueFound.{without_each}
use Rattle.resolver_model_opaque.proofs.rows.forget_each.Given as goal

-- the entries now without the keys that are left are the first ones without all keys
abbrev pub invariant-loop-key : goal.invariant-loop-key
invariant-loop-key g l =
    record l.stages { entries = record l.stages.entries { keys = without_each g.K.Ord.cmp (into_iter_items l.key-iterator) l.stages.entries.keys } }
    ≡ record l.fn.stages { entries = record l.fn.stages.entries { keys = without_each g.K.Ord.cmp l.fn.keys.items l.fn.stages.entries.keys } }
