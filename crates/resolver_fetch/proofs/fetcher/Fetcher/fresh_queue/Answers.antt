use Rattle.std.proofs.Common.{◌≡◌, ap, ◌∙◌}
use Rattle.resolver_fetch_scan.specs.Fetcher.{Fetcher}
use Rattle.resolver_fetch_waiting.specs.Queues.{fresh_queue}
use Rattle.resolver_fetch.proofs.fetcher.Fetcher.fresh_queue.Goals as goal

pub returns-clause-keys : goal.returns-clause-keys
returns-clause-keys g c =
    let waiting : c.keys.result.now ≡ c.args.self.now.waiting = c.keys.ensures ∙ ap (λ (f : Fetcher g.row.K.Denot g.row.P.Denot). f.waiting) c.self.view_is in
    c.fresh.ensures.keys ∙ ap fresh_queue waiting

pub returns-clause-whole : goal.returns-clause-whole
returns-clause-whole g c =
    let waiting : c.keys.result.now ≡ c.args.self.now.waiting = c.keys.ensures ∙ ap (λ (f : Fetcher g.row.K.Denot g.row.P.Denot). f.waiting) c.self.view_is in
    rw waiting at c.fresh.ensures.whole
