use Rattle.std.proofs.Common.{◌≡◌, ap, sym, ◌∙◌, [], ◌∷◌, None, option_map, find, rules}
use Rattle.resolver_priority_set.specs.Priorities.{is_of, listed, priorities_of}
use Rattle.resolver_fetch_waiting.proofs.Joined.{place-fresh, place-retry}
use Rattle.resolver_fetch_waiting.proofs.queues.Queues.place.Goals as goal

pub returns-in-Some : goal.returns-in-Some
returns-in-Some g c =
    let a = c.self.inside in
    let due : c.in-Some.due ∷ [] ≡ priorities_of g.K.Ord.cmp a.fresh c.args.key.now = ap listed (sym c.in-Some.is ∙ c.copied.ensures) ∙ c.get.ensures in
    let place = place-fresh g.K.Ord.cmp c.args.key.now c.in-Some.due a.fresh a.retry due in
    rw c.fresh.ensures (place ∙ ap (λ ps. option_map (λ p. p.0) (find (is_of g.K.Ord.cmp c.args.key.now) ps)) c.self.view_is)

pub returns-in_err-due : goal.returns-in_err-due
returns-in_err-due g c =
    let a = c.self.inside in
    let none : c.copied.result ≡ None = search rules in
    let fresh : [] ≡ priorities_of g.K.Ord.cmp a.fresh c.args.key.now = ap listed (sym none ∙ c.copied.ensures) ∙ c.get.ensures in
    let place = place-retry g.K.Ord.cmp c.args.key.now c.copied-2.result a.fresh a.retry fresh (ap listed c.copied-2.ensures ∙ c.get-2.ensures) in
    let at = place ∙ ap (λ ps. option_map (λ p. p.0) (find (is_of g.K.Ord.cmp c.args.key.now) ps)) c.self.view_is in
    search (rules, at)

pub returns : goal.returns
returns g c =
    let a = c.self.inside in
    let none : c.copied.result ≡ None = search rules in
    let fresh : [] ≡ priorities_of g.K.Ord.cmp a.fresh c.args.key.now = ap listed (sym none ∙ c.copied.ensures) ∙ c.get.ensures in
    let place = place-retry g.K.Ord.cmp c.args.key.now c.copied-2.result a.fresh a.retry fresh (ap listed c.copied-2.ensures ∙ c.get-2.ensures) in
    let at = place ∙ ap (λ ps. option_map (λ p. p.0) (find (is_of g.K.Ord.cmp c.args.key.now) ps)) c.self.view_is in
    search (rules, at)
