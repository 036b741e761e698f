use Rattle.std.proofs.Common.{◌≡◌, ◌<◌, length}
use Rattle.std.specs.Prelude.{All}
use Rattle.std.specs.Vec.{vec_len}
use Rattle.resolver_sampling.specs.LeftPlaces.{restored}
use Rattle.resolver_fetch_scan.proofs.pool.restore.Given as goal

abbrev pub decreases-loop-place : goal.decreases-loop-place
decreases-loop-place l = vec_len l.taken

-- What is to be set yet makes of the weights what all of it made.
abbrev pub invariant-loop-place : goal.invariant-loop-place
invariant-loop-place l = record {
  weights : restored l.weights l.taken.items ≡ restored l.initial.weights l.initial.taken.items;
  within : All (λ one. one.0 < length l.weights) l.taken.items;
}
