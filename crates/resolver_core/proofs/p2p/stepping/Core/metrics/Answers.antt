use Rattle.resolver_model_peer.specs.Parties.{parties}
use Rattle.resolver_core.proofs.Stepped.{was-well}
use Rattle.resolver_core.proofs.p2p.stepping.Core.metrics.Goals as goal

pub returns-clause-pending : goal.returns-clause-pending
returns-clause-pending g c = λ m matched well.
    c.metrics.ensures.pending m (was-well (parties g.K.Ord.cmp g.S.Ord.cmp g.P.Ord.cmp) c.self.inside.parts c.self.inside.status c.args.self.now m c.self.view_is matched well)

pub returns-clause-active : goal.returns-clause-active
returns-clause-active g c = λ m matched well.
    c.metrics.ensures.active m (was-well (parties g.K.Ord.cmp g.S.Ord.cmp g.P.Ord.cmp) c.self.inside.parts c.self.inside.status c.args.self.now m c.self.view_is matched well)

pub returns-clause-serves : goal.returns-clause-serves
returns-clause-serves g c = λ m matched well.
    c.metrics.ensures.serves m (was-well (parties g.K.Ord.cmp g.S.Ord.cmp g.P.Ord.cmp) c.self.inside.parts c.self.inside.status c.args.self.now m c.self.view_is matched well)
