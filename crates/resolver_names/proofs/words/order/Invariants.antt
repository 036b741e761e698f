use Rattle.std.proofs.Common.{◌≡◌, length}
use Rattle.std.specs.Cmp.Lexicographic.{slice_cmp}
use Rattle.std.specs.Ordering.{nat_cmp}
use Rattle.resolver_names.proofs.Comparing.{Bytes}
use Rattle.resolver_names.proofs.words.order.Given as goal

abbrev pub invariant-loop-word : goal.invariant-loop-word
invariant-loop-word l = record {
  same : slice_cmp nat_cmp l.fn.first l.fn.second ≡ slice_cmp nat_cmp l.one l.other;
  one : Bytes l.one;
  other : Bytes l.other;
}

abbrev pub decreases-loop-word : goal.decreases-loop-word
decreases-loop-word l = length l.one
