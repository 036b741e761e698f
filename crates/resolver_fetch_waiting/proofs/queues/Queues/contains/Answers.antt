use Rattle.std.proofs.Common.{ap, sym, ◌∙◌, ◌||◌}
use Rattle.resolver_priority_set.specs.Priorities.{has_item}
use Rattle.resolver_fetch_waiting.proofs.Joined.{has-joined}
use Rattle.resolver_fetch_waiting.proofs.queues.Queues.contains.Goals as goal

pub returns-then-contains : goal.returns-then-contains
returns-then-contains g c =
    let a = c.self.inside in
    c.if-contains.true
    ∙ sym (ap (λ b. b || has_item g.K.Ord.cmp a.retry c.args.key.now) (sym c.contains.ensures ∙ c.if-contains.true))
    ∙ sym (has-joined g.K.Ord.cmp c.args.key.now a.fresh a.retry)
    ∙ ap (λ ps. has_item g.K.Ord.cmp ps c.args.key.now) c.self.view_is

pub returns-else-contains : goal.returns-else-contains
returns-else-contains g c =
    let a = c.self.inside in
    c.contains-else-contains.ensures
    ∙ sym (ap (λ b. b || has_item g.K.Ord.cmp a.retry c.args.key.now) (sym c.contains.ensures ∙ c.if-contains.false))
    ∙ sym (has-joined g.K.Ord.cmp c.args.key.now a.fresh a.retry)
    ∙ ap (λ ps. has_item g.K.Ord.cmp ps c.args.key.now) c.self.view_is
