use Rattle.std.proofs.Common.{refl, sym}
use Rattle.std.proofs.lemmas.Result.{on_ok_weaker}
use Rattle.resolver_model_peer.specs.Parties.{parties}
use Rattle.resolver_peer_step.proofs.Fails.{misses-agrees, none-misses, over}
use Rattle.resolver_peer_step.proofs.parts.Parts.miss.Goals as goal

pub returns-clause-ok : goal.returns-clause-ok
returns-clause-ok g c = λ m is.
    let a = parties g.K.Ord.cmp g.S.Ord.cmp g.P.Ord.cmp in
    on_ok_weaker c.add_retry.result
    (λ waits. misses-agrees a g.met.K.Ord.total c.args.self.now _ m is (over a c.args.self.now m is c.requires.closed) c.args.now c.args.id c.args.peer.now c.in-Some.key c.pop_missing.new.self
    (sym c.in-Some.ensures.popped) waits refl)
    c.add_retry.ensures.ok

pub returns-in_default-clause-ok : goal.returns-in_default-clause-ok
returns-in_default-clause-ok g c = λ m is. none-misses (parties g.K.Ord.cmp g.S.Ord.cmp g.P.Ord.cmp) c.args.self.now m is c.pop_missing.new.self c.args.now c.args.id c.args.peer.now (sym c.in_default.ensures.popped)
