use Rattle.std.proofs.Common.{rules}
use Rattle.resolver_fetch_requests.proofs.Names.{asked-named}
use Rattle.resolver_fetch_requests.proofs.requests.Requests.is_asked.Goals as goal

pub returns : goal.returns
returns g c =
    let is = asked-named g.met.K.Ord.total c.self.inside.by_id c.self.inside.by_key.entries c.self.invariant.named c.self.invariant.ids c.args.key.now in
    search (rules, is)
