use Rattle.std.proofs.Common.{◌≡◌, None, rules}
use Rattle.std.specs.Map.{lookup}
use Rattle.std.specs.BTreeMap.{is_at}
use Rattle.resolver_sampling.specs.Scores.{averaged}
use Rattle.resolver_fetch_scan.specs.Peers.{averages_in}
use Rattle.resolver_fetch_scan.proofs.Entries.{set_value-none}
use Rattle.resolver_fetch.proofs.fetcher.peers.observe.Goals as goal

pub returns-in-None-clause-observed : goal.returns-in-None-clause-observed
returns-in-None-clause-observed g c =
    let none : lookup (is_at (g.P.Ord.cmp c.args.peer.now)) c.args.set.now.entries ≡ None = search rules in
    let same = set_value-none (is_at (g.P.Ord.cmp c.args.peer.now)) c.args.set.now.entries
    (averaged (averages_in g.P.Ord.cmp c.args.set.now.entries c.args.peer.now) (record { elapsed = c.args.elapsed; bytes = c.args.bytes })) none in
    search (rules, same)
