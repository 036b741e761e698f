use Rattle.std.proofs.Common.{refl, ap, sym, ◌∙◌}
use Rattle.std.proofs.lemmas.Result.{IfOk-weaker}
use Rattle.resolver_fetch_scan.specs.Orders.{orders}
use Rattle.resolver_fetch_scan.specs.Fetcher.{question}
use Rattle.resolver_fetch_scan.proofs.Outcomes.{if-both}
use Rattle.resolver_fetch.proofs.fetcher.Fetcher.go.Goals as goal

pub expect-requires-clause-none_yet : goal.expect-requires-clause-none_yet
expect-requires-clause-none_yet g c = rw (← c.expect.view_is) c.expect.invariant.0.none_yet

pub expect-requires-clause-new_id : goal.expect-requires-clause-new_id
expect-requires-clause-new_id g c = rw (← c.expect.view_is) (rw (c.in-Expect.is, ← c.expect.view_is) at c.requires.new_id)

pub expect-requires-in-Send-clause-none_yet : goal.expect-requires-in-Send-clause-none_yet
expect-requires-in-Send-clause-none_yet g c = λ none. absurd cc

pub expect-requires-in-Send-clause-new_id : goal.expect-requires-in-Send-clause-new_id
expect-requires-in-Send-clause-new_id g c = (rw c.in-Send.is at c.requires.new_id, refl)

pub accept-requires-clause-new_id : goal.accept-requires-clause-new_id
accept-requires-clause-new_id g c = (rw c.in-Accept.is at c.requires.new_id).0

pub accept-requires-clause-taken : goal.accept-requires-clause-taken
accept-requires-clause-taken g c = (rw c.in-Accept.is at c.requires.new_id).1

pub returns-in-Accept-clause-new_id : goal.returns-in-Accept-clause-new_id
returns-in-Accept-clause-new_id g c = IfOk-weaker c.accept.result _ _ (λ ask none. rw none tt) c.accept.ensures.over

pub returns-in-Accept-clause-asked : goal.returns-in-Accept-clause-asked
returns-in-Accept-clause-asked g c =
    if-both c.accept.result _ _ _ (λ new ask none. none ∙ sym (ap (question (orders g.K.Ord.cmp g.P.Ord.cmp)) new)) c.accept.ensures.ok c.accept.ensures.over
