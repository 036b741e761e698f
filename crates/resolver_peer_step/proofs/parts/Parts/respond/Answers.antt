use Rattle.std.proofs.Common.{◌≡◌, refl, ap, sym, ◌∙◌, [], None, Some}
use Rattle.std.specs.Prelude.{is_none}
use Rattle.resolver_model_peer.specs.Parties.{parties}
use Rattle.resolver_peer_step.specs.Said.{codec}
use Rattle.resolver_peer_step.proofs.Fails.{over}
use Rattle.resolver_peer_step.proofs.Handed.{answers, answers-goes, at, idle-number, none-goes, row, tracked-here, wanted-here}
use Rattle.resolver_model_peer.proofs.Refusals.{done, refused-with}
use Rattle.resolver_peer_step.proofs.parts.Parts.respond.Goals as goal

none-some : {X : Type 0} (x : X) → None ≡ Some x → ⊥
none-some x same = cc

pub unreachable-requires : goal.unreachable-requires
unreachable-requires g c =
    let a = parties g.K.Ord.cmp g.S.Ord.cmp g.P.Ord.cmp in
    let o = g.met.K.Ord.total in
    let m = c.requires.tied.0 in
    let is = c.requires.tied.1 in
    let x = answers a o c.args.self.now m c.args.id c.args.peer.now c.in-Some.request c.pop_request.new.self is (sym c.in-Some.ensures.popped) in
    none-some x.asked.row.subscribers (sym c.in_default-2.is ∙ c.in_ok-subscribers.ensures.ok ∙ wanted-here a o c.args.self.now m is c.in-Some.request.key x.asked.row x.asked.at)

pub hand_out-requires-clause-tracked : goal.hand_out-requires-clause-tracked
hand_out-requires-clause-tracked g c =
    let a = parties g.K.Ord.cmp g.S.Ord.cmp g.P.Ord.cmp in
    let o = g.met.K.Ord.total in
    let m = c.requires.tied.0 in
    let is = c.requires.tied.1 in
    let x = answers a o c.args.self.now m c.args.id c.args.peer.now c.in-Some.request c.pop_request.new.self is (sym c.in-Some.ensures.popped) in
    rw (tracked-here a o c.args.self.now m is c.in-Some.request.key x.asked.row x.asked.at) refl

pub hand_out-requires-clause-idle : goal.hand_out-requires-clause-idle
hand_out-requires-clause-idle g c =
    let a = parties g.K.Ord.cmp g.S.Ord.cmp g.P.Ord.cmp in
    let o = g.met.K.Ord.total in
    let m = c.requires.tied.0 in
    let is = c.requires.tied.1 in
    let x = answers a o c.args.self.now m c.args.id c.args.peer.now c.in-Some.request c.pop_request.new.self is (sym c.in-Some.ensures.popped) in
    idle-number a o (codec 0 (λ key. []) (λ bytes. None)) c.args.self.now m is (over a c.args.self.now m is c.requires.closed) c.args.id c.args.peer.now c.in-Some.request c.pop_request.new.self x

pub returns : goal.returns
returns g c = record {
  goes = λ said m is.
      let a = parties g.K.Ord.cmp g.S.Ord.cmp g.P.Ord.cmp in
      let o = g.met.K.Ord.total in
      let x = answers a o c.args.self.now m c.args.id c.args.peer.now c.in-Some.request c.pop_request.new.self is (sym c.in-Some.ensures.popped) in
      answers-goes a o said c.args.self.now m is (over a c.args.self.now m is c.requires.closed) c.args.id c.args.peer.now c.in-Some.request c.pop_request.new.self x
      c.args.now c.args.value _ c.args.effects.now.items _ c.hand_out.result c.in-Some-2.subscribers c.elapsed_since.result c.len.result
      (sym c.in_ok-subscribers.ensures.ok ∙ c.in-Some-2.is) c.elapsed_since.ensures c.len.ensures.value
      c.hand_out.ensures.told c.hand_out.ensures.ok c.hand_out.ensures.room c.hand_out.ensures.only refl refl;
  memory = λ wanting m is.
      let a = parties g.K.Ord.cmp g.S.Ord.cmp g.P.Ord.cmp in
      ap is_none (answers a g.met.K.Ord.total c.args.self.now m c.args.id c.args.peer.now c.in-Some.request c.pop_request.new.self is (sym c.in-Some.ensures.popped)).found;
}

pub returns-in_err-subscribers : goal.returns-in_err-subscribers
returns-in_err-subscribers g c = record {
  goes = λ said m is. rw (refused-with c.from_residual.result _ c.from_residual.ensures.1, c.in_err-subscribers.ensures.only) tt;
  memory = λ wanting m is.
      let a = parties g.K.Ord.cmp g.S.Ord.cmp g.P.Ord.cmp in
      ap is_none (answers a g.met.K.Ord.total c.args.self.now m c.args.id c.args.peer.now c.in-Some.request c.pop_request.new.self is (sym c.in-Some.ensures.popped)).found;
}

pub returns-in_default : goal.returns-in_default
returns-in_default g c = record {
  goes = λ said m is.
      let a = parties g.K.Ord.cmp g.S.Ord.cmp g.P.Ord.cmp in
      none-goes a said c.args.self.now m is c.args.now c.args.id c.args.peer.now c.args.value c.pop_request.new.self _ c.args.effects.now.items (sym c.in_default.ensures.popped) refl;
  memory = λ wanting m is. absurd (done _ _ wanting);
}
