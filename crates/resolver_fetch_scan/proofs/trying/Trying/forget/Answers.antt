use Rattle.std.proofs.Common.{ap}
use Rattle.resolver_fetch_scan.specs.Trying.{Trying, apart_from}
use Rattle.resolver_fetch_scan.proofs.Outcomes.{onto-ok}
use Rattle.resolver_fetch_scan.proofs.trying.Trying.forget.Goals as goal

pub returns-clause-ok : goal.returns-clause-ok
returns-clause-ok g c =
    onto-ok c.forget.result _ _ (λ is. rw is (ap (λ (t : Trying _ _). record t { left = apart_from g.P.Ord.cmp c.args.peer.now t.left }) c.self.view_is)) c.forget.ensures.ok
