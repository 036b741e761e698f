use Rattle.std.proofs.Common.{◌≡◌, ◌<◌, length}
use Rattle.std.specs.Prelude.{All}
use Rattle.std.specs.Vec.{vec_len}
use Rattle.resolver_sampling.specs.LeftPlaces.{restored}
use Rattle.resolver_sampling.proofs.sampling.selection.Selection.end.Given as goal

abbrev pub decreases-loop-place : goal.decreases-loop-place
decreases-loop-place l = vec_len l.taken

abbrev pub invariant-loop-place : goal.invariant-loop-place
invariant-loop-place l = record {
  weights : restored l.index l.taken.items ≡ l.fn.self.weights;
  within : All (λ one. one.0 < length l.index) l.taken.items;
}
