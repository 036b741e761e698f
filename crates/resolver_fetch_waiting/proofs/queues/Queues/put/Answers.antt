use Rattle.std.proofs.Common.{◌≡◌, ap, sym, ◌∙◌}
use Rattle.resolver_priority_set.specs.Priorities.{put}
use Rattle.resolver_fetch_waiting.specs.Queues.{joined}
use Rattle.resolver_fetch_scan.specs.Waiting.{fresh_at, place_order, retry_at}
use Rattle.resolver_fetch_waiting.proofs.Bounds.{either_way}
use Rattle.resolver_fetch_waiting.proofs.Joined.{apart-fresh, apart-retry, put-fresh, put-retry}
use Rattle.resolver_fetch_scan.proofs.Outcomes.{onto-ok}
use Rattle.resolver_fetch_waiting.proofs.queues.Queues.put.Goals as goal

pub invariant_of-self : goal.invariant_of-self
invariant_of-self g c =
    let a = c.self.inside in
    let none = rw (← c.self.view_is) at c.requires.not_waiting in
    either_way c.put.result _ _ _ c.put.ensures.ok c.put.ensures.err
    (λ is. rw is (apart-retry g.K.Ord.cmp g.met.K.Ord.total (c.args.place.due, c.args.key) a.fresh a.retry none c.self.invariant))
    (λ is. rw is c.self.invariant)

pub invariant_of-self-else-place : goal.invariant_of-self-else-place
invariant_of-self-else-place g c =
    let a = c.self.inside in
    let none = rw (← c.self.view_is) at c.requires.not_waiting in
    either_way c.put-else-place.result _ _ _ c.put-else-place.ensures.ok c.put-else-place.ensures.err
    (λ is. rw is (apart-fresh g.K.Ord.cmp g.met.K.Ord.total (c.args.place.due, c.args.key) a.fresh a.retry none c.self.invariant))
    (λ is. rw is c.self.invariant)

pub returns-then-place-clause-ok : goal.returns-then-place-clause-ok
returns-then-place-clause-ok g c =
    let a = c.self.inside in
    let none = rw (← c.self.view_is) at c.requires.not_waiting in
    let place : retry_at c.args.place.due ≡ c.args.place = ap (λ r. record { is_retry = r; due = c.args.place.due }) (sym c.if-place.true) in
    onto-ok c.put.result _ _
    (λ is. ap (joined a.fresh) is
    ∙ put-retry g.K.Ord.cmp g.met.K.Ord.total (c.args.place.due, c.args.key) a.fresh a.retry none
    ∙ ap (λ place. put place_order g.K.Ord.cmp (joined a.fresh a.retry) (place, c.args.key)) place
    ∙ ap (λ ps. put place_order g.K.Ord.cmp ps (c.args.place, c.args.key)) c.self.view_is)
    c.put.ensures.ok

pub returns-else-place-clause-ok : goal.returns-else-place-clause-ok
returns-else-place-clause-ok g c =
    let a = c.self.inside in
    let none = rw (← c.self.view_is) at c.requires.not_waiting in
    let place : fresh_at c.args.place.due ≡ c.args.place = ap (λ r. record { is_retry = r; due = c.args.place.due }) (sym c.if-place.false) in
    onto-ok c.put-else-place.result _ _
    (λ is. ap (λ ps. joined ps a.retry) is
    ∙ put-fresh g.K.Ord.cmp g.met.K.Ord.total (c.args.place.due, c.args.key) a.fresh a.retry none
    ∙ ap (λ place. put place_order g.K.Ord.cmp (joined a.fresh a.retry) (place, c.args.key)) place
    ∙ ap (λ ps. put place_order g.K.Ord.cmp ps (c.args.place, c.args.key)) c.self.view_is)
    c.put-else-place.ensures.ok
