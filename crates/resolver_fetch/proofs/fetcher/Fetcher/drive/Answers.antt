use Rattle.std.proofs.Common.{◌∙◌, sym}
use Rattle.resolver_fetch.specs.Fetching.{lent, outside}
use Rattle.resolver_fetch_scan.specs.Orders.{orders}
use Rattle.resolver_fetch_scan.proofs.Outcomes.{on-err}
use Rattle.resolver_fetch.proofs.Fetching.{goes-one-more, keeps-on}
use Rattle.resolver_fetch.proofs.fetcher.Fetcher.drive.Goals as goal

pub returns-in_err-asked-clause-stops : goal.returns-in_err-asked-clause-stops
returns-in_err-asked-clause-stops g c =
    on-err c.from_residual.result _ (record {
      then = lent c.loop-asked.self c.loop-asked.sender c.loop-asked.draws;
      ask = c.in-Some.ask;
      goes_on = c.loop-asked.invariant.3;
      asked = sym c.loop-asked.invariant.0 ∙ c.in-Some.is;
      said = c.in_err-asked.ensures.said;
      same = c.in_err-asked.ensures.err;
    })

pub loop-asked-preserved : goal.loop-asked-preserved
loop-asked-preserved g c =
    let o = orders g.K.Ord.cmp g.P.Ord.cmp in
    let out = outside g.K.Span.bytes_of g.S.Sender.check_gives g.S.Sender.send_gives g.D.Draws.below_gives in
    let now = c.loop-asked.invariant in (
      c.in_ok-asked.ensures.asked,
      c.in_ok-asked.ensures.sound,
      keeps-on o c.args.self.now c.loop-asked.self c.turn.new.self c.in-Some.ask (sym now.0 ∙ c.in-Some.is) now.2 c.in_ok-asked.ensures.keeps,
      goes-one-more o out (lent c.args.self.now c.args.sender.now c.args.draws.now) (lent c.loop-asked.self c.loop-asked.sender c.loop-asked.draws)
          (lent c.turn.new.self c.turn.new.sender c.turn.new.draws) now.3 c.in_ok-asked.ensures.taken,
    )
