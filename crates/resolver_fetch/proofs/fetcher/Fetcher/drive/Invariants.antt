use Rattle.std.proofs.Common.{◌≡◌}
use Rattle.resolver_fetch_scan.specs.Fetcher.{question}
use Rattle.resolver_fetch.specs.Fetching.{GoesOn, lent, outside}
use Rattle.resolver_fetch_scan.specs.Orders.{orders}
use Rattle.resolver_fetch.specs.Progress.{IsSound, Keeps, answers_left}
use Rattle.resolver_fetch.proofs.fetcher.Fetcher.drive.Given as goal

-- The scan went on from where it was, is open or over, and asks this.
abbrev pub invariant-loop-asked : goal.invariant-loop-asked
invariant-loop-asked g l =
    let o = orders g.K.Ord.cmp g.P.Ord.cmp in
    let out = outside g.K.Span.bytes_of g.S.Sender.check_gives g.S.Sender.send_gives g.D.Draws.below_gives in
    (l.asked ≡ question o l.self)
    × IsSound o l.self
    × Keeps l.fn.self l.self
    × GoesOn o out (lent l.fn.self l.fn.sender l.fn.draws) (lent l.self l.sender l.draws)

abbrev pub decreases-loop-asked : goal.decreases-loop-asked
decreases-loop-asked g l = answers_left (orders g.K.Ord.cmp g.P.Ord.cmp) l.self
