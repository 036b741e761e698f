use Rattle.std.proofs.Common.{◌≡◌, ◌∙◌, ap, arith, length}
use Rattle.std.proofs.lemmas.List.{length-map}
use Rattle.resolver_model_peer.specs.Parties.{parties}
use Rattle.resolver_core.proofs.Phases.{in_two}
use Rattle.resolver_core.proofs.p2p.counts.phases_of.Goals as goal

pub returns : goal.returns
returns g c = λ m is.
    let demanded : c.len-demanded.result ≡ length m.rows = c.len-demanded.ensures ∙ ap length is.demand ∙ length-map m.rows _ in
    let waiting = c.len_pending-waiting.ensures ∙ ap (λ f. length f.waiting) is.fetcher in
    let asked = c.len_active-asked.ensures ∙ ap (λ f. length f.asked) is.fetcher in
    record {
      waiting = waiting;
      asked = asked;
      all = omega (arith, demanded, waiting, asked, c.saturating_sub.ensures, c.saturating_sub-judged.ensures, in_two (parties g.K.Ord.cmp g.S.Ord.cmp g.P.Ord.cmp) m.rows);
    }
