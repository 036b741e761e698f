use Rattle.std.proofs.Common.{rules, ◌≡◌, ◌∙◌, ◌<◌, length, sym, ap, slice_index_or, subst}
use Rattle.resolver_types.specs.Names.{names}
use Rattle.resolver_desk.specs.Desk.{IsKept, desk_of, desk_taken}
use Rattle.resolver_desk.proofs.Desks.{kept-taken, taken-is}
use Rattle.resolver_desk.proofs.desk.Desk.take.Goals as goal

pub invariant_of-self : goal.invariant_of-self
invariant_of-self g c =
    let n = names g.K.Ord.cmp g.S.Ord.cmp in
    let desk = c.self.inside in
    let some : 0 < length c.self.inside.ready.items = search rules in
    let at : c.in-Some.front.now ≡ slice_index_or c.self.inside.ready.items 0 c.in-Some.front.now = search rules in
    let is = taken-is n g.Q.Predicate.keeps desk.capacity desk.ready.items c.serve.new.ready.items desk.pending c.serve.new.pending desk.is_closed desk.book c.note_take.new.book c.serve.result c.in-Some.front.now
    c.serve.ensures.first some at c.serve.ensures.pending c.in-Ok.ensures.ok in
    (search rules, subst (IsKept n g.Q.Predicate.keeps) (sym (ap (λ pair. pair.1) is)) (kept-taken n g.Q.Predicate.keeps (desk_of desk.capacity desk.ready.items desk.pending desk.is_closed desk.book) c.self.invariant.1))

pub returns-in-Ok-clause-ok : goal.returns-in-Ok-clause-ok
returns-in-Ok-clause-ok g c =
    let n = names g.K.Ord.cmp g.S.Ord.cmp in
    let desk = c.self.inside in
    let some : 0 < length c.self.inside.ready.items = search rules in
    let at : c.in-Some.front.now ≡ slice_index_or c.self.inside.ready.items 0 c.in-Some.front.now = search rules in
    taken-is n g.Q.Predicate.keeps desk.capacity desk.ready.items c.serve.new.ready.items desk.pending c.serve.new.pending desk.is_closed desk.book c.note_take.new.book c.serve.result c.in-Some.front.now
    c.serve.ensures.first some at c.serve.ensures.pending c.in-Ok.ensures.ok
    ∙ ap desk_taken c.self.view_is
