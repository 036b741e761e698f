use Rattle.std.proofs.Common.{refl}
use Rattle.resolver_model_peer.specs.Parties.{parties}
use Rattle.resolver_peer_step.proofs.Opened.{opened}
use Rattle.resolver_peer_step.proofs.parts.Parts.new.Goals as goal

pub returns : goal.returns
returns g c = opened (parties g.K.Ord.cmp g.S.Ord.cmp g.P.Ord.cmp) _ c.args.configuration c.args.priority_responses
    c.new.ensures c.new-2.ensures c.new-3.ensures c.new-4.ensures.empty c.new-5.ensures refl refl
