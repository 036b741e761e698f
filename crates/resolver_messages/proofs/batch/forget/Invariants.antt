use Rattle.std.proofs.Common.{◌≡◌, length}
use Rattle.resolver_messages.specs.Waiting.{keys_of_items}
use Rattle.resolver_types.specs.Undone.{without_each}
use Rattle.resolver_messages.proofs.batch.forget.Given as goal

-- Without the keys that are left, it is what it is without all.
abbrev pub invariant-loop-last : goal.invariant-loop-last
invariant-loop-last g l = without_each g.K.Ord.cmp (keys_of_items l.left) l.places ≡ without_each g.K.Ord.cmp (keys_of_items l.fn.added) l.fn.places

abbrev pub decreases-loop-last : goal.decreases-loop-last
decreases-loop-last g l = length l.left
