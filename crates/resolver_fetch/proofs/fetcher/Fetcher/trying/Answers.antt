use Rattle.std.proofs.Common.{◌≡◌, refl, rules}
use Rattle.resolver_fetch.proofs.fetcher.Fetcher.trying.Goals as goal

pub returns-clause-ok : goal.returns-clause-ok
returns-clause-ok g c =
    let same : c.in_ok-again.again ≡ c.args.pair.now.1 = search rules in
    rw (same, c.in_ok-pool.ensures.ok, c.retries.ensures)
    refl
