use Rattle.std.proofs.Common.{◌≡◌, [], ◌∷◌, rules}
use Rattle.std.proofs.lemmas.Cmp.{eq_by_cmp_equiv}
use Rattle.resolver_model_opaque.proofs.DueFirst.{due-of-none, first-is-due, first-is-later}
use Rattle.resolver_model_opaque.proofs.stages.Stages.due_first.Goals as goal

pub returns-in_err-due : goal.returns-in_err-due
returns-in_err-due g c =
    let none : c.self.inside.retries ≡ [] = search rules in
    let first = due-of-none g.met.K.Ord.total (eq_by_cmp_equiv g.met.K.Ord.total) c.self.inside.retries c.self.inside.entries.keys c.self.invariant.0.ordered c.self.invariant.1 none c.args.now in
    search (rules, first)

pub returns-then-due-now : goal.returns-then-due-now
returns-then-due-now g c =
    let list : c.self.inside.retries ≡ c.in_ok-due.field-0.now ∷ c.next.new.self = search rules in
    rw (← c.self.view_is) (first-is-due g.met.K.Ord.total (eq_by_cmp_equiv g.met.K.Ord.total) c.self.inside.retries c.self.inside.entries.keys c.self.invariant.0.ordered c.self.invariant.1 c.in_ok-due.field-0.now c.next.new.self list (rw list at c.iter.ensures.ordered) c.args.now c.if-due-now.true)

pub returns-else-due-now : goal.returns-else-due-now
returns-else-due-now g c =
    let list : c.self.inside.retries ≡ c.in_ok-due.field-0.now ∷ c.next.new.self = search rules in
    rw (← c.self.view_is) (first-is-later g.met.K.Ord.total (eq_by_cmp_equiv g.met.K.Ord.total) c.self.inside.retries c.self.inside.entries.keys c.self.invariant.0.ordered c.self.invariant.1 c.in_ok-due.field-0.now c.next.new.self list (rw list at c.iter.ensures.ordered) c.args.now c.if-due-now.false)
