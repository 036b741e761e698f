use Rattle.resolver_model_peer.specs.Parties.{parties}
use Rattle.resolver_core.proofs.Shown.{none-shown, row-shown}
use Rattle.resolver_core.proofs.p2p.rows.find.Goals as goal

pub returns-in_ok-listed-in-Some-clause-row : goal.returns-in_ok-listed-in-Some-clause-row
returns-in_ok-listed-in-Some-clause-row g c = λ m agrees.
    let a = parties g.K.Ord.cmp g.S.Ord.cmp g.P.Ord.cmp in
    row-shown a g.met.K.Ord.total m agrees.sound c.args.key.now c.args.parts.now.demand agrees.demand c.in-Some.subscribers.now (rw c.in-Some.is at c.get.ensures.value) c.in_ok-listed-in-Some.field-0 (c.in_ok-listed-in-Some.ensures.row m agrees)

pub returns-in-None-clause-row : goal.returns-in-None-clause-row
returns-in-None-clause-row g c = λ m agrees.
    let a = parties g.K.Ord.cmp g.S.Ord.cmp g.P.Ord.cmp in
    none-shown a g.met.K.Ord.total m agrees.sound c.args.key.now c.args.parts.now.demand agrees.demand (rw c.in-None.is at c.get.ensures.value)
