use Rattle.std.proofs.Common.{rules, sym}
use Rattle.std.specs.Map.{keys_of}
use Rattle.std.specs.List.Sorted.{IsStrictlySortedBy}
use Rattle.resolver_demand.proofs.ListedRows.{sorted-nil}
use Rattle.resolver_demand.proofs.Placed.{attached-ordered-all}
use Rattle.resolver_demand.proofs.subscribers.listed.Subscribers.fresh.Goals as goal

pub returns-then-ascends : goal.returns-then-ascends
returns-then-ascends g c =
    let ordered : IsStrictlySortedBy g.S.Ord.cmp (keys_of c.args.list.items) = search rules in
    sym (attached-ordered-all g.S.Ord.cmp g.met.S.Ord.total c.args.list.items ordered)

pub attach_all-requires-clause-ordered : goal.attach_all-requires-clause-ordered
attach_all-requires-clause-ordered g c = rw c.new-fresh.ensures (sorted-nil g.S.Ord.cmp g.met.S.Ord.total)
