use Rattle.std.proofs.Common.{◌≡◌, ap, sym, ◌∙◌, None, rules}
use Rattle.resolver_fetch_waiting.specs.Queues.{first_due}
use Rattle.resolver_fetch_waiting.proofs.Joined.{first-fresh, first-retry}
use Rattle.resolver_fetch_waiting.proofs.queues.Queues.first_due.Goals as goal

pub returns-in-Some : goal.returns-in-Some
returns-in-Some g c =
    first-fresh g.K.Ord.cmp c.in-Some.due c.self.inside.fresh c.self.inside.retry (sym c.first.ensures ∙ c.in-Some.is)
    ∙ ap first_due c.self.view_is

pub returns : goal.returns
returns g c =
    let none : c.first.result ≡ None = search rules in
    c.first-2.ensures
    ∙ first-retry g.K.Ord.cmp c.self.inside.fresh c.self.inside.retry (sym c.first.ensures ∙ none)
    ∙ ap first_due c.self.view_is
