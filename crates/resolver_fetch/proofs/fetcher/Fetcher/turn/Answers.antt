use Rattle.std.proofs.Common.{inl}
use Rattle.resolver_fetch_scan.specs.Orders.{orders}
use Rattle.resolver_fetch_scan.proofs.Outcomes.{on-err}
use Rattle.resolver_fetch.proofs.Progress.{fits-taken, goes-forward, if-refused, is-answerable, only-memory}
use Rattle.resolver_fetch_scan.proofs.Outcomes.{onto-ok}
use Rattle.resolver_fetch.proofs.fetcher.Fetcher.turn.Goals as goal

pub answer_to-requires : goal.answer_to-requires
answer_to-requires g c = record {
  answerable = is-answerable (orders g.K.Ord.cmp g.P.Ord.cmp) c.args.self.now c.args.ask c.requires.asked;
}

pub returns-clause-sound : goal.returns-clause-sound
returns-clause-sound g c =
    let by_key = g.met.K.Ord.total in
    let by_peer = g.met.P.Ord.total in
    onto-ok c.scan_answer.result _ _
    (λ taken. (goes-forward (orders g.K.Ord.cmp g.P.Ord.cmp) by_key by_peer c.args.self.now c.requires.sound c.in_ok-answer.answer c.scan_answer.new.self taken).0)
    c.scan_answer.ensures.ok

pub returns-clause-fewer : goal.returns-clause-fewer
returns-clause-fewer g c =
    let by_key = g.met.K.Ord.total in
    let by_peer = g.met.P.Ord.total in
    onto-ok c.scan_answer.result _ _
    (λ taken. (goes-forward (orders g.K.Ord.cmp g.P.Ord.cmp) by_key by_peer c.args.self.now c.requires.sound c.in_ok-answer.answer c.scan_answer.new.self taken).1)
    c.scan_answer.ensures.ok

pub returns-clause-only : goal.returns-clause-only
returns-clause-only g c =
    if-refused c.scan_answer.result _ _
    (λ fault refused. only-memory fault (λ other.
    fits-taken (orders g.K.Ord.cmp g.P.Ord.cmp) c.args.self.now c.args.ask c.requires.asked c.in_ok-answer.answer c.in_ok-answer.ensures.fits fault (refused other)))
    c.scan_answer.ensures.refused

pub returns-clause-taken : goal.returns-clause-taken
returns-clause-taken g c =
    onto-ok c.scan_answer.result _ _
    (λ taken. (c.in_ok-answer.answer, record { ask = c.args.ask; asked = c.requires.asked; said = c.in_ok-answer.ensures.says; taken = taken }))
    c.scan_answer.ensures.ok

pub returns-clause-keeps : goal.returns-clause-keeps
returns-clause-keeps g c =
    let by_key = g.met.K.Ord.total in
    let by_peer = g.met.P.Ord.total in
    onto-ok c.scan_answer.result _ _
    (λ taken. (goes-forward (orders g.K.Ord.cmp g.P.Ord.cmp) by_key by_peer c.args.self.now c.requires.sound c.in_ok-answer.answer c.scan_answer.new.self taken).2)
    c.scan_answer.ensures.ok

pub returns-clause-said : goal.returns-clause-said
returns-clause-said g c = on-err c.scan_answer.result _ (inl (c.in_ok-answer.answer, c.in_ok-answer.ensures.says))
