use Rattle.std.proofs.Common.{◌∙◌, sym}
use Rattle.resolver_fetch_scan.proofs.Pools.{same-count}
use Rattle.resolver_fetch_scan.proofs.pool.Pool.count.Goals as goal

pub returns : goal.returns
returns g c =
    let pool = c.self.inside.held.value in
    rw (← c.self.view_is) (rw (c.deref.ensures) at c.positive_count.ensures.marks ∙ sym (same-count pool.names.items pool.weights c.self.invariant.many))
