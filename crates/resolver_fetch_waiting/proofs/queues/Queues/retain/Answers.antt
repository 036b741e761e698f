use Rattle.std.proofs.Common.{◌≡◌, ap, sym, ◌∙◌, filter, rules}
use Rattle.resolver_priority_set.specs.Priorities.{retained}
use Rattle.resolver_fetch_waiting.proofs.Joined.{apart-filtered, by_kind, filter-joined, kinds-joined}
use Rattle.resolver_fetch_waiting.proofs.queues.Queues.retain.Goals as goal

pub invariant_of-self : goal.invariant_of-self
invariant_of-self g c =
    let a = c.self.inside in
    rw (c.retain.ensures.part.1, c.retain-2.ensures.part.1)
    (apart-filtered g.K.Ord.cmp c.retain.ensures.part.0 c.retain-2.ensures.part.0 a.fresh a.retry c.self.invariant)

pub returns-clause-kept : goal.returns-clause-kept
returns-clause-kept g c = λ test pure.
    let a = c.self.inside in
    let fresh : c.retain.new.self ≡ retained test a.fresh = c.retain.ensures.kept test (record { by = λ key b at. pure.by key b (search rules) }) in
    let retry : c.retain-2.new.self ≡ retained test a.retry = c.retain-2.ensures.kept test (record { by = λ key b at. pure.by key b (search rules) }) in
    rw (fresh, retry) (sym (filter-joined (λ p. test p.1) a.fresh a.retry) ∙ ap (retained test) c.self.view_is)

pub returns-clause-part : goal.returns-clause-part
returns-clause-part g c =
    let a = c.self.inside in
    let kinds = by_kind c.retain.ensures.part.0 c.retain-2.ensures.part.0 in (
      kinds,
      rw (c.retain.ensures.part.1, c.retain-2.ensures.part.1)
          (kinds-joined c.retain.ensures.part.0 c.retain-2.ensures.part.0 a.fresh a.retry ∙ ap (filter kinds) c.self.view_is),
    )
