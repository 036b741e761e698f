use Rattle.resolver_model_peer.specs.Parties.{parties}
use Rattle.resolver_core.proofs.Stepped.{was-well}
use Rattle.resolver_core.proofs.p2p.stepping.Core.get_active_deadline.Goals as goal

pub returns : goal.returns
returns g c = λ m matched well.
    c.active_deadline.ensures m (was-well (parties g.K.Ord.cmp g.S.Ord.cmp g.P.Ord.cmp) c.self.inside.parts c.self.inside.status c.args.self.now m c.self.view_is matched well)
