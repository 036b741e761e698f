use Rattle.std.proofs.Common.{◌≡◌}
use Rattle.std.specs.Vec.Iter.{into_iter_items}
use Rattle.resolver_types.specs.Names.{names}
use Rattle.resolver_flat.specs.Leavings.{set_of, with_pairs}
use Rattle.resolver_flat.proofs.leaving.Leaving.of.Given as goal

-- with those that are left it is the set of all
abbrev pub invariant-loop-pair : goal.invariant-loop-pair
invariant-loop-pair g l =
    with_pairs (names g.K.Ord.cmp g.S.Ord.cmp) l.pairs.keys (into_iter_items l.pair-iterator) ≡ set_of (names g.K.Ord.cmp g.S.Ord.cmp) l.fn.leaving.items
