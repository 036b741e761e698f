use Rattle.std.proofs.Common.{refl}
use Rattle.resolver_mailbox.proofs.Agreeing.{closes-at, closes-skip}
use Rattle.resolver_mailbox.proofs.mailbox.agreeing.has_close.Goals as goal

pub returns-in-Close : goal.returns-in-Close
returns-in-Close g c = (
  λ found. closes-at c.args.book.now c.loop-entry.entry-index c.entry-item.result c.loop-entry-test.true c.entry-item.is c.in-Close.is,
  λ found. refl,
)

pub loop-entry-preserved : goal.loop-entry-preserved
loop-entry-preserved g c = closes-skip c.args.book.now c.loop-entry.entry-index c.entry-item.result c.loop-entry-test.true c.entry-item.is c.in_default.not-Close c.loop-entry.invariant
