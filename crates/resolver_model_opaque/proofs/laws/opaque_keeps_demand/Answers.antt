use Rattle.std.proofs.lemmas.Cmp.{eq_by_cmp_equiv}
use Rattle.resolver_types.specs.Names.{names}
use Rattle.resolver_model_opaque.proofs.OpaqueKept.{demand_is_kept}
use Rattle.resolver_model_opaque.proofs.laws.opaque_keeps_demand.Goals as goal

pub returns : goal.returns
returns g c = demand_is_kept (names g.K.Ord.cmp g.S.Ord.cmp) (eq_by_cmp_equiv g.met.K.Ord.total) g.met.S.Ord.total (eq_by_cmp_equiv g.met.S.Ord.total)
