use Rattle.std.proofs.Common.{subst}
use Rattle.resolver_types.specs.Names.{names}
use Rattle.resolver_desk.specs.Desk.{IsKept}
use Rattle.resolver_desk.proofs.desk.Desk.law.Goals as goal

pub returns : goal.returns
returns g c = subst (IsKept (names g.K.Ord.cmp g.S.Ord.cmp) g.Q.Predicate.keeps) c.self.view_is c.self.invariant.1
