use Rattle.std.proofs.Common.{refl, sym, rules}
use Rattle.std.proofs.lemmas.Bool.{false≢true}
use Rattle.resolver_fetch_requests.proofs.Soonest.{nil, soonest-in_order, soonest-listed, soonest-none, soonest-nowhere}
use Rattle.resolver_fetch_requests.proofs.requests.deadlines.Deadlines.first.Goals as goal

pub returns-in_err-deadline-in-Listed : goal.returns-in_err-deadline-in-Listed
returns-in_err-deadline-in-Listed g c =
    let are = rw c.in-Listed.is at c.requires.timed in
    let none = nil c.in-Listed.pairs.keys (λ some. false≢true (c.in_err-deadline-in-Listed.ensures.variant.1 some)) in
    let asked = soonest-none c.args.requests.now (rw none at are) in
    search (rules, asked)

pub returns-in_ok-id-in-InOrder : goal.returns-in_ok-id-in-InOrder
returns-in_ok-id-in-InOrder g c =
    let first = c.in_ok-id-in-InOrder in
    rw (soonest-in_order c.args.requests.now c.in-InOrder.last c.in-InOrder.latest (first.id, first.request.now) c.requires.ids (rw c.in-InOrder.is at c.requires.timed) (sym first.ensures)) refl

pub returns-in_ok-deadline-in-Listed : goal.returns-in_ok-deadline-in-Listed
returns-in_ok-deadline-in-Listed g c =
    let first = c.in_ok-deadline-in-Listed in
    soonest-listed c.args.requests.now c.in-Listed.pairs.keys first.field-0.now c.requires.ids (rw c.in-Listed.is at c.requires.timed) first.ensures.first first.ensures.all_from

pub returns-in_err-id-in-InOrder : goal.returns-in_err-id-in-InOrder
returns-in_err-id-in-InOrder g c =
    let asked = soonest-nowhere c.args.requests.now (sym c.in_err-id-in-InOrder.ensures) in
    search (rules, asked)
