use Rattle.std.proofs.Common.{map}
use Rattle.resolver_handles.proofs.put.ask_all.Goals as goal

pub returns : goal.returns
returns g c = c.put.ensures (map g.T.Asked.item c.args.asked.items) c.each.ensures
