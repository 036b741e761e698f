use Rattle.std.proofs.Common.{◌≡◌, ap, ◌∙◌, List, option_map, find}
use Rattle.resolver_priority_set.specs.Priorities.{is_of}
use Rattle.resolver_fetch_scan.specs.declared.place.Place.{Place}
use Rattle.resolver_fetch_scan.specs.Fetcher.{Fetcher}
use Rattle.resolver_fetch.proofs.fetcher.Fetcher.place.Goals as goal

pub returns-clause-value : goal.returns-clause-value
returns-clause-value g c =
    let waiting : c.keys.result.now ≡ c.args.self.now.waiting = c.keys.ensures ∙ ap (λ (f : Fetcher g.row.K.Denot g.row.P.Denot). f.waiting) c.self.view_is in
    c.place.ensures ∙ ap (λ (ps : List (Place × g.row.K.Denot)). option_map (λ p. p.0) (find (is_of g.K.Ord.cmp c.args.key.now) ps)) waiting
