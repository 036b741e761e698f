use Rattle.std.proofs.Common.{◌≡◌, ◌||◌, drop}
use Rattle.std.specs.BTreeSet.{contains}
use Rattle.std.specs.List.{list_any}
use Rattle.resolver_types.proofs.joining.index_of.Given as goal

-- an item is in the index or among those that are left, where it is one of these
abbrev pub invariant-loop-item : goal.invariant-loop-item
invariant-loop-item g l = (x : _) → (contains g.T.Ord.cmp l.index x || list_any (λ other. g.T.PartialEq.eq other x) (drop l.item-index l.list)) ≡ list_any (λ other. g.T.PartialEq.eq other x) l.list
