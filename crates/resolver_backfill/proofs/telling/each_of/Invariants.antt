use Rattle.std.proofs.Common.{◌≡◌, ◌++◌, map}
use Rattle.std.specs.Vec.Iter.{into_iter_items}
use Rattle.resolver_backfill.proofs.telling.each_of.Given as goal

-- what was made, and then what is left, is all
abbrev pub invariant-loop-fetch : goal.invariant-loop-fetch
invariant-loop-fetch g l = l.targeted.items ++ map (λ fetch. (fetch, l.targets)) (into_iter_items l.fetch-iterator) ≡ map (λ fetch. (fetch, l.targets)) l.fn.fetches.items
