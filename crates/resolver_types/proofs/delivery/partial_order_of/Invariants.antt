use Rattle.std.proofs.Common.{◌≡◌, ◌≤◌, length, drop, map}
use Rattle.std.specs.Cmp.Lexicographic.{slice_partial_cmp}
use Rattle.resolver_types.proofs.delivery.partial_order_of.Given as goal

-- what is left decides, and no list is over
abbrev pub invariant-loop-i : goal.invariant-loop-i
invariant-loop-i g l =
    (slice_partial_cmp g.S.PartialOrd.partial_cmp (map (λ s. s.0) (drop l.i l.mine)) (map (λ s. s.0) (drop l.i l.theirs)) ≡ slice_partial_cmp g.S.PartialOrd.partial_cmp (map (λ s. s.0) l.mine) (map (λ s. s.0) l.theirs)) × (l.i ≤ length l.theirs)
