use Rattle.std.proofs.Common.{◌≡◌, ◌||◌, drop}
use Rattle.std.specs.BTreeSet.{contains}
use Rattle.resolver_types.specs.Subscribers.{is_among}
use Rattle.resolver_demand.proofs.subscribers.named.indexed.Given as goal

-- a subscriber is in the index or among those that are left, where it is named
abbrev pub invariant-loop-one : goal.invariant-loop-one
invariant-loop-one g l = (s : _) → (contains g.S.Ord.cmp l.index s || is_among g.S.Ord.cmp (drop l.one-index l.list) s) ≡ is_among g.S.Ord.cmp l.list s
