use Rattle.std.proofs.Common.{rules, sym, subst}
use Rattle.resolver_types.specs.Names.{names}
use Rattle.resolver_desk.specs.Desk.{IsKept}
use Rattle.resolver_desk.proofs.Desks.{empty-is, kept-empty}
use Rattle.resolver_desk.proofs.desk.Desk.recorded.Goals as goal

pub invariant_of-result : goal.invariant_of-result
invariant_of-result g c =
    let n = names g.K.Ord.cmp g.S.Ord.cmp in
    (search rules, subst (IsKept n g.Q.Predicate.keeps) (sym (empty-is n g.Q.Predicate.keeps c.get-capacity.result c.in_ok-with_capacity.field-0.items c.new.result c.in_ok-new.field-0 (search rules) c.new.ensures c.in_ok-new.ensures)) (kept-empty n g.Q.Predicate.keeps c.get-capacity.result (search rules)))
