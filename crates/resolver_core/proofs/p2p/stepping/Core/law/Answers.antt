use Rattle.std.proofs.Common.{subst}
use Rattle.resolver_model_peer.specs.Parties.{parties}
use Rattle.resolver_model_peer.specs.Peer.{Machine}
use Rattle.resolver_core.specs.Matching.{Engine, Matches, UnlessFailed}
use Rattle.resolver_core.proofs.Stepped.{some-machine}
use Rattle.resolver_core.proofs.p2p.stepping.Core.law.Goals as goal

pub returns : goal.returns
returns g c =
    let a = parties g.K.Ord.cmp g.S.Ord.cmp g.P.Ord.cmp in
    subst (λ (now : Engine g.row.K.Denot g.row.S.Denot g.row.P.Denot). UnlessFailed now.status ((m : Machine g.row.K.Denot g.row.S.Denot g.row.P.Denot) × Matches a now m))
    c.self.view_is (some-machine a c.self.inside.parts c.self.inside.status c.self.invariant)
