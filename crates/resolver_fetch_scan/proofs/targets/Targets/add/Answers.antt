use Rattle.resolver_fetch_scan.proofs.targets.Targets.add.Goals as goal

-- where memory is wanting, the peers are as they were
pub invariant_of-self : goal.invariant_of-self
invariant_of-self g c = rw c.in_err-reserve.ensures.items c.self.invariant

pub invariant_of-self-in_err-clone : goal.invariant_of-self-in_err-clone
invariant_of-self-in_err-clone g c = rw c.in_ok-reserve.ensures.items c.self.invariant

pub invariant_of-self-in_err-insert : goal.invariant_of-self-in_err-insert
invariant_of-self-in_err-insert g c = rw (c.in_ok-reserve.ensures.items, c.in_err-insert.ensures.err) c.self.invariant
