use Rattle.std.proofs.lemmas.Cmp.{eq_by_cmp_equiv}
use Rattle.resolver_model_peer.specs.Parties.{parties}
use Rattle.resolver_model_peer.proofs.JudgesByTheRun.{judges_by_the_run}
use Rattle.resolver_model_peer.proofs.laws.judges_by_the_run.Goals as goal

pub returns : goal.returns
returns g c =
    judges_by_the_run (parties g.K.Ord.cmp g.S.Ord.cmp g.P.Ord.cmp) (eq_by_cmp_equiv g.met.K.Ord.total) g.met.S.Ord.total (eq_by_cmp_equiv g.met.S.Ord.total)
