use Rattle.std.proofs.Common.{◌≡◌, ◌++◌, List, drop}
use Rattle.resolver_messages.specs.Waiting.{keys_kept}
use Rattle.resolver_messages.specs.Places.{IsPlaced}
use Rattle.resolver_messages.proofs.batch.kept_places.Given as goal

-- The keys that are there, with those of the fetches that are left, are all.
abbrev pub invariant-loop-item : goal.invariant-loop-item
invariant-loop-item g l = (done : List g.row.K.Denot) × IsPlaced g.K.Ord.cmp l.places done × (done ++ keys_kept (g.Q.Predicate.keeps l.keep) (drop l.item-index l.batch) ≡ keys_kept (g.Q.Predicate.keeps l.keep) l.batch)
