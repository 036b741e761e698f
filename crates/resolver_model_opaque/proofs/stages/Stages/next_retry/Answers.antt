use Rattle.std.proofs.Common.{◌≡◌, [], ◌∷◌, rules}
use Rattle.std.proofs.lemmas.Cmp.{eq_by_cmp_equiv}
use Rattle.resolver_model_opaque.proofs.DueFirst.{first-of-none, first-is-least, first-is-soon}
use Rattle.resolver_model_opaque.proofs.stages.Stages.next_retry.Goals as goal

pub returns-in_err-due-clause-value : goal.returns-in_err-due-clause-value
returns-in_err-due-clause-value g c =
    let none : c.self.inside.retries ≡ [] = search rules in
    let first = first-of-none g.met.K.Ord.total (eq_by_cmp_equiv g.met.K.Ord.total) c.self.inside.retries c.self.inside.entries.keys c.self.invariant.0.ordered c.self.invariant.1 none in
    search (rules, first)

pub returns-clause-value : goal.returns-clause-value
returns-clause-value g c =
    let list : c.self.inside.retries ≡ c.in_ok-due.field-0.now ∷ c.next.new.self = search rules in
    rw (← c.self.view_is) (first-is-least g.met.K.Ord.total (eq_by_cmp_equiv g.met.K.Ord.total) c.self.inside.retries c.self.inside.entries.keys c.self.invariant.0.ordered c.self.invariant.1 c.in_ok-due.field-0.now c.next.new.self list (rw list at c.iter.ensures.ordered))

pub returns-clause-soon : goal.returns-clause-soon
returns-clause-soon g c =
    let list : c.self.inside.retries ≡ c.in_ok-due.field-0.now ∷ c.next.new.self = search rules in
    first-is-soon g.met.K.Ord.total (eq_by_cmp_equiv g.met.K.Ord.total) c.self.inside.retries c.self.inside.entries.keys c.self.invariant.0.ordered c.self.invariant.1 c.in_ok-due.field-0.now c.next.new.self list (rw list at c.iter.ensures.ordered)
