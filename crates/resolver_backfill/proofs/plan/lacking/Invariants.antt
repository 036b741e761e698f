use Rattle.std.proofs.Common.{◌≡◌, drop, filter, not, []}
use Rattle.resolver_backfill.specs.Plans.{has, with_keys}
use Rattle.resolver_backfill.proofs.plan.lacking.Given as goal

-- with those that are left, it makes what all make
abbrev pub invariant-loop-key : goal.invariant-loop-key
invariant-loop-key g l =
    with_keys g.K.Ord.cmp l.new.keys (filter (λ key. not (has g.K.Ord.cmp l.set.keys key)) (drop l.key-index l.keys))
    ≡ with_keys g.K.Ord.cmp [] (filter (λ key. not (has g.K.Ord.cmp l.set.keys key)) l.keys)
