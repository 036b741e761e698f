use Rattle.std.proofs.Common.{◌≡◌, ◌∙◌, refl, sym, length, None, rules}
use Rattle.resolver_model_peer.specs.Parties.{parties}
use Rattle.resolver_model_peer.specs.Peer.{wake_up}
use Rattle.resolver_peer_step.specs.Said.{codec}
use Rattle.resolver_peer_step.proofs.Agreeing.{goes-last}
use Rattle.resolver_peer_step.proofs.Scanned.{begun, due-now, none-wakes, wakes-same}
use Rattle.resolver_peer_step.proofs.parts.Parts.scan.Goals as goal

pub returns-then-len_pending-eq0-clause-goes : goal.returns-then-len_pending-eq0-clause-goes
returns-then-len_pending-eq0-clause-goes g c = λ m is over.
    let a = parties g.K.Ord.cmp g.S.Ord.cmp g.P.Ord.cmp in
    let none : length c.args.self.now.fetcher.waiting ≡ 0 = search rules in
    let wakes : wake_up a m ≡ None = sym (wakes-same a g.met.K.Ord.total c.args.self.now m is) ∙ none-wakes c.args.self.now.fetcher none in
    search rules

pub returns-clause-goes : goal.returns-clause-goes
returns-clause-goes g c = λ m is over.
    let a = parties g.K.Ord.cmp g.S.Ord.cmp g.P.Ord.cmp in
    let words = codec g.K.Span.SIZE g.K.Span.bytes_of g.K.Span.read_from in
    let o = g.met.K.Ord.total in
    goes-last a words _ _ _ _ c.tell_asked.result c.tell_asked.ensures.ok c.tell_asked.ensures.only
    (λ grown. begun a o words c.args.self.now _ m c.args.now c.in_ok-asked.asked _ _ is (due-now c.in-Some.due c.args.now _ (c.in-Some.ensures m is) c.if-due-now.false) refl c.in_ok-asked.ensures.ok c.in_ok-asked.ensures.asked grown)
