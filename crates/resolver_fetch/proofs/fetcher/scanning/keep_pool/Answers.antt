use Rattle.std.proofs.Common.{◌≡◌, ◌∙◌, ap, sym, None, rules}
use Rattle.std.specs.BTreeMap.{is_at}
use Rattle.std.specs.Map.{lookup}
use Rattle.resolver_fetch_scan.specs.Pools.{whole}
use Rattle.resolver_fetch.proofs.fetcher.scanning.keep_pool.Goals as goal

pub put_pool-requires : goal.put_pool-requires
put_pool-requires g c =
    let none : lookup (is_at (g.K.Ord.cmp c.trying.inside.pair.1)) c.args.targets.now.entries ≡ None = search rules in
    let all = rw (← c.trying.view_is) at c.requires.all in
    record { whole = c.resample.ensures ∙ ap whole (sym (all none)) }
