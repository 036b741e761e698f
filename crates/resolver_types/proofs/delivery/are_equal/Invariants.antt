use Rattle.std.proofs.Common.{◌≡◌, drop, map}
use Rattle.std.specs.Cmp.Lexicographic.{pointwise}
use Rattle.resolver_types.proofs.delivery.are_equal.Given as goal

-- what is left decides
abbrev pub invariant-loop-i : goal.invariant-loop-i
invariant-loop-i g l =
    pointwise g.S.PartialEq.eq (map (λ s. s.0) (drop l.i l.mine)) (map (λ s. s.0) (drop l.i l.theirs)) ≡ pointwise g.S.PartialEq.eq (map (λ s. s.0) l.mine) (map (λ s. s.0) l.theirs)
