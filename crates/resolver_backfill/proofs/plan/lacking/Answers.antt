use Rattle.std.proofs.Common.{◌≡◌, false, rules}
use Rattle.resolver_backfill.proofs.Told.{on-err}
use Rattle.resolver_backfill.specs.Plans.{has}
use Rattle.resolver_backfill.proofs.Keys.{lacking-some}
use Rattle.resolver_backfill.proofs.plan.lacking.Goals as goal

pub returns-in_err-clone-clause-some : goal.returns-in_err-clone-clause-some
returns-in_err-clone-clause-some g c =
    let wasnt : has g.K.Ord.cmp c.args.set.now.keys c.key-item.result ≡ false = search rules in
    on-err c.from_residual.result _ (lacking-some g.K.Ord.cmp g.met.K.Ord.total c.args.set.now.keys c.args.keys.now c.loop-key.key-index c.key-item.result c.loop-key-test.true c.key-item.is wasnt)

pub returns-in_err-insert-clause-some : goal.returns-in_err-insert-clause-some
returns-in_err-insert-clause-some g c =
    let wasnt : has g.K.Ord.cmp c.args.set.now.keys c.key-item.result ≡ false = search rules in
    on-err c.from_residual-in_err-insert.result _ (lacking-some g.K.Ord.cmp g.met.K.Ord.total c.args.set.now.keys c.args.keys.now c.loop-key.key-index c.key-item.result c.loop-key-test.true c.key-item.is wasnt)
