use Rattle.std.proofs.Common.{refl}
use Rattle.std.specs.BTreeMap.{is_at}
use Rattle.resolver_demand.proofs.ListedRows.{all-offered}
use Rattle.resolver_demand.proofs.subscribers.Tracker.attach.Goals as goal

pub invariant_of-self-2 : goal.invariant_of-self-2
invariant_of-self-2 g c =
    all-offered g.S.Ord.cmp g.met.S.Ord.total (is_at (g.K.Ord.cmp c.args.key.now)) c.self.inside.demand.entries c.attach_to.new.demand.entries c.args.subscribers _ _ _ refl c.in_ok-attach_to.ensures.ok c.self.invariant
