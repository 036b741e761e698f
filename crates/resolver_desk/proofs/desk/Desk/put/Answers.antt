use Rattle.std.proofs.Common.{rules, ◌≡◌, ◌<◌, ◌+◌, ◌^◌, ◌∙◌, ◌∷◌, ◌++◌, [], false, nat_lt, cond, sym, ap, refl, Bool, ℕ, subst}
use Rattle.std.specs.Option.{ForSome}
use Rattle.std.proofs.lemmas.List.{length-map}
use Rattle.resolver_types.specs.Names.{names}
use Rattle.resolver_messages.specs.Waiting.{Backlog, IsRight, handled, told_of, waiting}
use Rattle.resolver_desk.specs.Desk.{Desk, IsKept, desk_of, desk_put, has_room}
use Rattle.resolver_messages.proofs.Right.{follows-by}
use Rattle.resolver_desk.proofs.Desks.{kept-put, put-is}
use Rattle.resolver_desk.proofs.desk.Desk.put.Goals as goal

pub invariant_of-self-2 : goal.invariant_of-self-2
invariant_of-self-2 g c =
    let n = names g.K.Ord.cmp g.S.Ord.cmp in
    let keeps = g.Q.Predicate.keeps in
    let merged = g.M.Metadata.merged in
    let desk = c.self.inside in
    let told = told_of c.args.message in
    let is_ok = c.in_ok-is_ok.is_ok in
    let posted = c.in_ok-is_ok.ensures in
    let was : IsKept n keeps (desk_of desk.capacity desk.ready.items desk.pending false desk.book) =
    subst (λ (t : Bool). IsKept n keeps (desk_of desk.capacity desk.ready.items desk.pending t desk.book)) c.if-self.false c.self.invariant.1 in
    let right : has_room (desk_of desk.capacity desk.ready.items desk.pending false desk.book) ≡ false → IsRight n keeps (waiting desk.pending ++ told ∷ []) (waiting (handled n merged keeps desk.pending told)) =
    λ room.
    let off : is_ok ≡ false = posted.is_ok ∙ ap (λ (l : ℕ). nat_lt l desk.capacity) (sym (length-map desk.ready.items told_of)) ∙ room in
    subst (λ (behind : Backlog g.row.K.Denot g.row.S.Denot g.row.M.Denot g.row.Q.Denot). IsRight n keeps (waiting desk.pending ++ told ∷ []) (waiting behind))
    (posted.pending ∙ ap (λ (t : Bool). cond t desk.pending (handled n merged keeps desk.pending told)) off) (posted.right off) in
    let is = put-is n merged keeps desk.capacity desk.ready.items c.post.new.ready.items desk.pending c.post.new.pending desk.book c.post.new.book c.args.handle told is_ok
    posted.is_ok posted.ready posted.pending posted.book in
    let kept = kept-put n merged (follows-by g.K.Ord.cmp g.met.K.Ord.total) (follows-by g.S.Ord.cmp g.met.S.Ord.total) keeps
    (λ test k l s t same same_too. g.met.Q.Predicate.alike test k l s t (g.met.K.Ord.matches_eq k l ∙ same) (g.met.S.Ord.matches_eq s t ∙ same_too))
    (desk_of desk.capacity desk.ready.items desk.pending false desk.book) c.args.handle told refl right was in (
      search rules,
      subst (λ (t : Bool). IsKept n keeps (desk_of desk.capacity c.post.new.ready.items c.post.new.pending t c.post.new.book)) (sym c.if-self.false)
          (subst (IsKept n keeps) (sym is) kept),
    )

pub returns-clause-numbers : goal.returns-clause-numbers
returns-clause-numbers g c unclosed new =
    subst (λ (desk : Desk g.row.K.Denot g.row.S.Denot g.row.M.Denot g.row.Q.Denot). ForSome desk.book (λ book. book.next_handle + 1 < 2 ^ 64)) c.self.view_is (c.in_ok-is_ok.ensures.numbers new)

pub returns-clause-ok : goal.returns-clause-ok
returns-clause-ok g c =
    let n = names g.K.Ord.cmp g.S.Ord.cmp in
    let keeps = g.Q.Predicate.keeps in
    let merged = g.M.Metadata.merged in
    let desk = c.self.inside in
    let told = told_of c.args.message in
    let posted = c.in_ok-is_ok.ensures in
    ap (λ (t : Bool). desk_of desk.capacity c.post.new.ready.items c.post.new.pending t c.post.new.book) c.if-self.false
    ∙ put-is n merged keeps desk.capacity desk.ready.items c.post.new.ready.items desk.pending c.post.new.pending desk.book c.post.new.book c.args.handle told c.in_ok-is_ok.is_ok
    posted.is_ok posted.ready posted.pending posted.book
    ∙ ap (λ (t : Bool). desk_put n merged keeps c.args.handle told (desk_of desk.capacity desk.ready.items desk.pending t desk.book)) (sym c.if-self.false)
    ∙ ap (desk_put n merged keeps c.args.handle told) c.self.view_is
