use Rattle.std.proofs.Common.{[], ◌∷◌}
use Rattle.resolver_handles.proofs.put.ask.Goals as goal

pub returns : goal.returns
returns g c = c.put.ensures (g.T.Asked.item c.args.asked ∷ []) c.only.ensures
