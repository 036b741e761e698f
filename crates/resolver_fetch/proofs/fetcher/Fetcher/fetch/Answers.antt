use Rattle.std.proofs.Common.{inl, inr, refl, subst, sym}
use Rattle.resolver_fetch_scan.specs.Fetcher.{Fetcher}
use Rattle.resolver_fetch_scan.specs.Orders.{orders}
use Rattle.resolver_fetch.specs.Fetching.{lent, outside}
use Rattle.resolver_fetch.specs.Progress.{IsSound}
use Rattle.resolver_fetch.proofs.Fetching.{gives-up}
use Rattle.resolver_fetch_scan.proofs.Outcomes.{err-both, on-both, on-err}
use Rattle.resolver_fetch.proofs.Progress.{begins-sound}
use Rattle.resolver_fetch.proofs.fetcher.Fetcher.fetch.Goals as goal

pub drive-driven-requires-clause-sound : goal.drive-driven-requires-clause-sound
drive-driven-requires-clause-sound g c =
    let o = orders g.K.Ord.cmp g.P.Ord.cmp in
    let by_key = g.met.K.Ord.total in
    let by_peer = g.met.P.Ord.total in
    let Q : Fetcher g.row.K.Denot g.row.P.Denot → Type 0 = λ f. IsSound o f in
    subst Q (sym c.in_ok-asked.ensures.ok) (begins-sound o by_key by_peer c.args.self.now c.args.now)

pub drive-driven-requires-clause-asked : goal.drive-driven-requires-clause-asked
drive-driven-requires-clause-asked g c = c.in_ok-asked.ensures.asked

pub returns-else-is_err-clause-ok : goal.returns-else-is_err-clause-ok
returns-else-is_err-clause-ok g c =
    on-both c.drive-driven.result _ _ _ (λ goes over. record { goes_on = goes; over = over })
    (rw c.in_ok-asked.ensures.ok at c.drive-driven.ensures.goes_on) c.drive-driven.ensures.over

pub returns-in_err-asked-clause-err : goal.returns-in_err-asked-clause-err
returns-in_err-asked-clause-err g c = on-err c.from_residual.result _ (inl (rw c.in_err-asked.ensures.err refl))

pub returns-then-is_err-clause-err : goal.returns-then-is_err-clause-err
returns-then-is_err-clause-err g c =
    let o = orders g.K.Ord.cmp g.P.Ord.cmp in
    let out = outside g.K.Span.bytes_of g.S.Sender.check_gives g.S.Sender.send_gives g.D.Draws.below_gives in
    let before = lent c.args.self.now c.args.sender.now c.args.draws.now in
    let after = lent c.give_up.new.self c.drive-driven.new.sender c.drive-driven.new.draws in
    err-both c.drive-driven.result _ _ _ (λ stops keeps. inr (gives-up o out c.args.now before after c.drive-driven.new.self stops c.give_up.ensures keeps))
    (rw c.in_ok-asked.ensures.ok at c.drive-driven.ensures.stops) (rw c.in_ok-asked.ensures.ok at c.drive-driven.ensures.keeps)
