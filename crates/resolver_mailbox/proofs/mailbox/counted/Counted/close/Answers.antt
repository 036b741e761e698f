use Rattle.std.proofs.Common.{◌∙◌, sym, ap, subst, is_some}
use Rattle.resolver_mailbox.specs.Shares.{IsCounted}
use Rattle.resolver_mailbox.proofs.Counts.{closed-counted, closed-recorded}
use Rattle.resolver_mailbox.proofs.mailbox.counted.Counted.close.Goals as goal

pub invariant_of-self : goal.invariant_of-self
invariant_of-self g c =
    let was = c.args.self.now in record {
      recorded = ap (λ desk. is_some desk.book) c.close.ensures ∙ closed-recorded was.desk ∙ was.recorded;
      totaled = was.totaled;
      counted = λ t is. subst (IsCounted t.puts.total t.takes.total t.spare.parts) (sym c.close.ensures)
          (closed-counted t.puts.total t.takes.total t.spare.parts was.desk (was.counted t is));
    }
