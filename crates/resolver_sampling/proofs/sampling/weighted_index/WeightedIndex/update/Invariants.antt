use Rattle.std.proofs.Common.{◌≡◌, length, take}
use Rattle.resolver_sampling.specs.Choice.{changed}
use Rattle.resolver_sampling.proofs.sampling.weighted_index.WeightedIndex.update.Given as goal

abbrev pub invariant-loop-place : goal.invariant-loop-place
invariant-loop-place l = record {
  so_far : l.self ≡ changed l.initial.self (take l.place-index l.changes);
  same_length : length l.self ≡ length l.initial.self;
}
