use Rattle.std.proofs.Common.{◌≡◌, ap, ◌∙◌, true, false, [], ◌∷◌, map, not}
use Rattle.resolver_priority_set.specs.Priorities.{is_of, priorities_of, without}
use Rattle.resolver_fetch_waiting.specs.Queues.{joined}
use Rattle.resolver_fetch_waiting.proofs.Joined.{apart-fewer-fresh, apart-fewer-retry, without-fresh, without-retry}
use Rattle.resolver_fetch_waiting.proofs.queues.Queues.remove.Goals as goal

pub invariant_of-self : goal.invariant_of-self
invariant_of-self g c =
    let a = c.self.inside in
    rw c.remove.ensures.after (apart-fewer-retry g.K.Ord.cmp (λ p. not (is_of g.K.Ord.cmp c.args.key.now p)) a.fresh a.retry c.self.invariant)

pub invariant_of-self-else-is_retry : goal.invariant_of-self-else-is_retry
invariant_of-self-else-is_retry g c =
    let a = c.self.inside in
    rw c.remove-else-is_retry.ensures.after (apart-fewer-fresh g.K.Ord.cmp (λ p. not (is_of g.K.Ord.cmp c.args.key.now p)) a.fresh a.retry c.self.invariant)

pub returns-then-is_retry : goal.returns-then-is_retry
returns-then-is_retry g c =
    let a = c.self.inside in
    let waits : map (λ place. place.is_retry) (priorities_of g.K.Ord.cmp (joined a.fresh a.retry) c.args.key.now) ≡ true ∷ [] =
    (rw (← c.self.view_is) at c.requires.waits) ∙ ap (λ r. r ∷ []) c.if-is_retry.true in
    ap (joined a.fresh) c.remove.ensures.after
    ∙ without-retry g.K.Ord.cmp c.args.key.now a.fresh a.retry waits
    ∙ ap (without g.K.Ord.cmp c.args.key.now) c.self.view_is

pub returns-else-is_retry : goal.returns-else-is_retry
returns-else-is_retry g c =
    let a = c.self.inside in
    let waits : map (λ place. place.is_retry) (priorities_of g.K.Ord.cmp (joined a.fresh a.retry) c.args.key.now) ≡ false ∷ [] =
    (rw (← c.self.view_is) at c.requires.waits) ∙ ap (λ r. r ∷ []) c.if-is_retry.false in
    ap (λ ps. joined ps a.retry) c.remove-else-is_retry.ensures.after
    ∙ without-fresh g.K.Ord.cmp c.args.key.now a.fresh a.retry waits
    ∙ ap (without g.K.Ord.cmp c.args.key.now) c.self.view_is
