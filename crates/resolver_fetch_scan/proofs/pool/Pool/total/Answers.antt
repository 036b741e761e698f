use Rattle.std.proofs.Common.{◌∙◌, sym}
use Rattle.resolver_fetch_scan.proofs.Pools.{same-total}
use Rattle.resolver_fetch_scan.proofs.pool.Pool.total.Goals as goal

pub returns : goal.returns
returns g c =
    let pool = c.self.inside.held.value in
    rw (← c.self.view_is) (rw (c.deref.ensures) at c.total.ensures ∙ sym (same-total pool.names.items pool.weights c.self.invariant.many))
