use Rattle.std.proofs.Common.{◌≡◌, ℕ, ◌-◌, ◌^◌, ◌<◌, ◌≤◌}
use Rattle.resolver_sampling.proofs.tree.shape_of.Given as goal

abbrev pub decreases-loop-leaves : goal.decreases-loop-leaves
decreases-loop-leaves l = l.count - l.leaves

abbrev pub invariant-loop-leaves : goal.invariant-loop-leaves
invariant-loop-leaves l = record {
  power : l.leaves ≡ 2 ^ l.depth;
  small : l.leaves ≤ 2 ^ 63;
  low : (digits : ℕ) → l.count < 2 ^ digits → l.depth ≤ digits;
}
