use Rattle.std.proofs.Common.{refl, sym, false, Bool, subst}
use Rattle.resolver_types.specs.Names.{names}
use Rattle.resolver_desk.specs.Desk.{IsKept, desk_of}
use Rattle.resolver_desk.proofs.Desks.{closed-is, kept-closed}
use Rattle.resolver_desk.proofs.desk.Desk.close.Goals as goal

pub invariant_of-self : goal.invariant_of-self
invariant_of-self g c =
    let n = names g.K.Ord.cmp g.S.Ord.cmp in
    let desk = c.self.inside in
    let was : IsKept n g.Q.Predicate.keeps (desk_of desk.capacity desk.ready.items desk.pending false desk.book) =
    subst (λ (t : Bool). IsKept n g.Q.Predicate.keeps (desk_of desk.capacity desk.ready.items desk.pending t desk.book)) c.if-self.false c.self.invariant.1 in (
      c.self.invariant.0,
      subst (IsKept n g.Q.Predicate.keeps) (sym (closed-is n g.Q.Predicate.keeps desk.capacity desk.ready.items desk.pending desk.book c.note_close.new.book c.note_close.ensures))
          (kept-closed n g.Q.Predicate.keeps (desk_of desk.capacity desk.ready.items desk.pending false desk.book) refl was),
    )
