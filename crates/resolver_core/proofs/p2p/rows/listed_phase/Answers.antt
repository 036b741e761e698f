use Rattle.std.proofs.Common.{ap, sym, ◌∙◌}
use Rattle.resolver_fetch_scan.specs.Fetcher as calls
use Rattle.resolver_fetch_requests.specs.Requests.{request_for}
use Rattle.resolver_model_peer.specs.Parties.{orders_of, parties}
use Rattle.resolver_core.proofs.Shown.{number-shown, place-shown, request-shown, some-shown, there-wanted}
use Rattle.resolver_core.proofs.p2p.rows.listed_phase.Goals as goal

pub returns-in-Some-clause-phase : goal.returns-in-Some-clause-phase
returns-in-Some-clause-phase g c = λ m agrees.
    let a = parties g.K.Ord.cmp g.S.Ord.cmp g.P.Ord.cmp in
    place-shown a g.met.K.Ord.total m agrees.sound c.args.key.now c.in-Some.place (ap (λ f. calls.place_of (orders_of a) f c.args.key.now) (sym agrees.fetcher) ∙ sym c.in-Some.ensures.value)

pub returns-in-Some-request-clause-phase : goal.returns-in-Some-request-clause-phase
returns-in-Some-request-clause-phase g c = λ m agrees.
    let a = parties g.K.Ord.cmp g.S.Ord.cmp g.P.Ord.cmp in
    rw (c.requires.peers_clone _ _ c.in_ok-clone.ensures.cases)
    (request-shown a g.met.K.Ord.total m agrees.sound c.args.key.now (c.in-Some-request.id, c.in-Some-request.request.now)
    (ap (λ f. request_for a.key f.asked c.args.key.now) (sym agrees.fetcher) ∙ sym c.in-Some-request.ensures.value))

pub unreachable-requires : goal.unreachable-requires
unreachable-requires g c =
    let a = parties g.K.Ord.cmp g.S.Ord.cmp g.P.Ord.cmp in
    let key = c.args.key.now in
    let m = c.requires.tied.0 in
    let agrees = c.requires.tied.1 in
    some-shown a g.met.K.Ord.total m agrees.sound key c.args.parts.now.entries agrees.entries
    (sym (there-wanted a g.met.K.Ord.total m agrees.sound key c.args.parts.now.demand agrees.demand) ∙ c.requires.wanted)
    (ap (λ f. calls.place_of (orders_of a) f key) (sym agrees.fetcher) ∙ sym c.in_default.ensures.value)
    (ap (λ f. request_for a.key f.asked key) (sym agrees.fetcher) ∙ sym c.in_default-request.ensures.value) (sym c.in_default-number.ensures)

pub returns-clause-phase : goal.returns-clause-phase
returns-clause-phase g c = λ m agrees.
    let a = parties g.K.Ord.cmp g.S.Ord.cmp g.P.Ord.cmp in
    number-shown a g.met.K.Ord.total m agrees.sound c.args.key.now c.args.parts.now.entries agrees.entries c.in-Some-number.number (sym c.in-Some-number.ensures)
