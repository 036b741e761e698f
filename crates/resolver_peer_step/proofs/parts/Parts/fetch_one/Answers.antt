use Rattle.std.proofs.Common.{refl, ap, sym, ◌∙◌}
use Rattle.std.proofs.lemmas.Result.{on_ok_weaker}
use Rattle.resolver_model_peer.specs.Parties.{parties}
use Rattle.resolver_peer_step.proofs.Fails.{over}
use Rattle.resolver_peer_step.proofs.Wanted.{new-agrees, new-not_asked, new-not_waiting, new-untracked, present-agrees}
use Rattle.resolver_peer_step.proofs.parts.Parts.fetch_one.Goals as goal

pub returns-then-not-is_new-clause-ok : goal.returns-then-not-is_new-clause-ok
returns-then-not-is_new-clause-ok g c = λ m is.
    let a = parties g.K.Ord.cmp g.S.Ord.cmp g.P.Ord.cmp in
    let is_new = sym c.if-not-is_new.true ∙ c.in_ok-is_new.ensures.is_new in
    let old = rw (c.requires.keys_clone _ _ c.in_ok-wanted.ensures.cases) at is_new in
    let wanted = rw (c.requires.keys_clone _ _ c.in_ok-wanted.ensures.cases) at c.in_ok-is_new.ensures.ok in
    on_ok_weaker c.aim.result
    (λ aims. present-agrees a g.met.K.Ord.total m is.sound c.args.item.key c.args.self.now _ is (over a c.args.self.now m is c.requires.closed) c.args.now c.args.item.subscribers c.args.item.metadata
    (sym old) wanted aims refl)
    c.aim.ensures.ok

pub insert_new-requires : goal.insert_new-requires
insert_new-requires g c =
    let a = parties g.K.Ord.cmp g.S.Ord.cmp g.P.Ord.cmp in
    let is_new = sym c.if-not-is_new.false ∙ c.in_ok-is_new.ensures.is_new in
    let new = rw (c.requires.keys_clone _ _ c.in_ok-wanted.ensures.cases) at is_new in
    let is = c.requires.tied.1 in
    record {
      absent = rw (c.requires.keys_clone _ _ c.in_ok-tracked.ensures.cases)
          (new-untracked a g.met.K.Ord.total c.requires.tied.0 is.sound c.args.item.key c.args.self.now c.args.self.now is (over a c.args.self.now c.requires.tied.0 is c.requires.closed) c.args.now c.args.item.subscribers c.args.item.metadata (sym new));
    }

pub ready-requires-clause-not_waiting : goal.ready-requires-clause-not_waiting
ready-requires-clause-not_waiting g c =
    let a = parties g.K.Ord.cmp g.S.Ord.cmp g.P.Ord.cmp in
    let is_new = sym c.if-not-is_new.false ∙ c.in_ok-is_new.ensures.is_new in
    let new = rw (c.requires.keys_clone _ _ c.in_ok-wanted.ensures.cases) at is_new in
    let is = c.requires.tied.1 in
    new-not_waiting a g.met.K.Ord.total c.requires.tied.0 is.sound c.args.item.key c.args.self.now c.args.self.now is (over a c.args.self.now c.requires.tied.0 is c.requires.closed) c.args.now c.args.item.subscribers c.args.item.metadata (sym new)

pub ready-requires-clause-not_asked : goal.ready-requires-clause-not_asked
ready-requires-clause-not_asked g c =
    let a = parties g.K.Ord.cmp g.S.Ord.cmp g.P.Ord.cmp in
    let is_new = sym c.if-not-is_new.false ∙ c.in_ok-is_new.ensures.is_new in
    let new = rw (c.requires.keys_clone _ _ c.in_ok-wanted.ensures.cases) at is_new in
    let is = c.requires.tied.1 in
    new-not_asked a g.met.K.Ord.total c.requires.tied.0 is.sound c.args.item.key c.args.self.now c.args.self.now is (over a c.args.self.now c.requires.tied.0 is c.requires.closed) c.args.now c.args.item.subscribers c.args.item.metadata (sym new)

pub returns-clause-ok : goal.returns-clause-ok
returns-clause-ok g c = λ m is.
    let a = parties g.K.Ord.cmp g.S.Ord.cmp g.P.Ord.cmp in
    let is_new = sym c.if-not-is_new.false ∙ c.in_ok-is_new.ensures.is_new in
    let new = rw (c.requires.keys_clone _ _ c.in_ok-wanted.ensures.cases) at is_new in
    let wanted = rw (c.requires.keys_clone _ _ c.in_ok-wanted.ensures.cases) at c.in_ok-is_new.ensures.ok in
    let tracked = rw (c.requires.keys_clone _ _ c.in_ok-tracked.ensures.cases, c.at.ensures) at c.in_ok-insert_new.ensures.ok in
    on_ok_weaker c.ready.result
    (λ readies. new-agrees a g.met.K.Ord.total m is.sound c.args.item.key c.args.self.now _ is (over a c.args.self.now m is c.requires.closed) c.args.now c.args.item.subscribers c.args.item.metadata
    (sym new) wanted tracked readies refl)
    c.ready.ensures.ok

pub aim-requires-clause-peers_clone : goal.aim-requires-clause-peers_clone
aim-requires-clause-peers_clone g c = c.requires.peers_clone

pub ready-requires-clause-keys_clone : goal.ready-requires-clause-keys_clone
ready-requires-clause-keys_clone g c = c.requires.keys_clone

pub ready-requires-clause-peers_clone : goal.ready-requires-clause-peers_clone
ready-requires-clause-peers_clone g c = c.requires.peers_clone

pub ready-requires-clause-moment : goal.ready-requires-clause-moment
ready-requires-clause-moment g c = c.requires.moment
