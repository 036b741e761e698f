use Rattle.resolver_model_peer.specs.Parties.{parties}
use Rattle.resolver_core.proofs.Stepped.{was-ended, was-running}
use Rattle.resolver_core.proofs.p2p.stepping.Core.row.Goals as goal

pub returns-in-Running-clause-row : goal.returns-in-Running-clause-row
returns-in-Running-clause-row g c = λ m matched.
    let a = parties g.K.Ord.cmp g.S.Ord.cmp g.P.Ord.cmp in
    c.find.ensures.row m (was-running a c.self.inside.parts c.self.inside.status c.args.self.now m c.self.view_is c.in-Running.is matched).0

pub returns-in-Ended-clause-row : goal.returns-in-Ended-clause-row
returns-in-Ended-clause-row g c = λ m matched.
    let a = parties g.K.Ord.cmp g.S.Ord.cmp g.P.Ord.cmp in
    c.find-in-Ended.ensures.row m (was-ended a c.self.inside.parts c.self.inside.status c.args.self.now m c.self.view_is c.in-Ended.is matched)
