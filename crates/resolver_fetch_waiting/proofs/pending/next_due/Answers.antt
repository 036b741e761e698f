use Rattle.std.proofs.Common.{◌≡◌, ap, ◌∙◌, Some, rules}
use Rattle.resolver_fetch_waiting.specs.Pending.{due_behind}
use Rattle.resolver_fetch_waiting.specs.Queues.{fresh_queue, retry_queue}
use Rattle.resolver_fetch_scan.specs.Scan.{least}
use Rattle.resolver_fetch_waiting.proofs.Bounds.{due-later}
use Rattle.resolver_fetch_waiting.proofs.pending.next_due.Goals as goal

pub returns : goal.returns
returns g c = λ moment is.
    let keys = c.args.keys.now in
    let bound = c.in_ok-bound.bound.now in
    let there : c.args.bound.now ≡ Some bound = search rules in
    let fresh : c.due_behind.result ≡ due_behind g.K.Ord.cmp (fresh_queue keys) bound =
    c.due_behind.ensures.due ∙ ap (λ queue. due_behind g.K.Ord.cmp queue bound) c.fresh.ensures.keys in
    let retry : c.due_behind-2.result ≡ due_behind g.K.Ord.cmp (retry_queue keys) bound =
    c.due_behind-2.ensures.due ∙ ap (λ queue. due_behind g.K.Ord.cmp queue bound) c.retry.ensures.keys in
    c.least.ensures
    ∙ ap (λ x. least x c.due_behind-2.result) fresh
    ∙ ap (least (due_behind g.K.Ord.cmp (fresh_queue keys) bound)) retry
    ∙ due-later g.met.K.Ord.total moment keys bound c.fresh.ensures.whole
    (rw c.fresh.ensures.keys at c.due_behind.ensures.ordered) (rw c.retry.ensures.keys at c.due_behind-2.ensures.ordered) (rw there at is)
