use Rattle.std.proofs.Common.{◌≡◌, ap, ◌∙◌, subst, is_some}
use Rattle.resolver_demand.specs.Rows.{AreListed}
use Rattle.resolver_model_peer.specs.Parties.{parties}
use Rattle.resolver_model_peer.specs.Peer.{row_of}
use Rattle.resolver_core.specs.Listed.{listed}
use Rattle.resolver_model_peer.proofs.Refusals.{refused, refused-as}
use Rattle.resolver_core.proofs.Shown.{Lists, listed-once, listed-ordered, lists-all, lists-none, next-of, some-at, there-wanted}
use Rattle.resolver_core.proofs.p2p.rows.rows.Goals as goal

pub loop-key-init : goal.loop-key-init
loop-key-init g c =
    let a = parties g.K.Ord.cmp g.S.Ord.cmp g.P.Ord.cmp in
    let left = c.into_iter-key-iterator.ensures.into_iter_gives ∙ c.iter-key-items.ensures.rest in
    record {
      lists = λ m agrees. rw c.in_ok-list.ensures.items (lists-none a g.met.K.Ord.total m agrees.sound c.into_iter-key-iterator.result (left ∙ agrees.demand));
      some = rw left c.iter-key-items.ensures.listed;
    }

pub listed-requires-clause-wanted : goal.listed-requires-clause-wanted
listed-requires-clause-wanted g c =
    let a = parties g.K.Ord.cmp g.S.Ord.cmp g.P.Ord.cmp in
    let m = c.requires.tied.0 in
    let agrees = c.requires.tied.1 in
    let list = c.loop-key.list.items in
    let n = next-of a g.met.K.Ord.total m agrees.sound list c.in-Some.key.now c.in-Some.subscribers.now c.next.new.self (subst (Lists a m list) c.in-Some.ensures.steps (c.loop-key.invariant.lists m agrees)) in
    there-wanted a g.met.K.Ord.total m agrees.sound c.in-Some.key.now c.args.parts.now.demand agrees.demand ∙ ap is_some n.found

pub listed-requires-clause-some : goal.listed-requires-clause-some
listed-requires-clause-some g c = (subst (AreListed g.S.Ord.cmp) c.in-Some.ensures.steps c.loop-key.invariant.some).0.some

pub loop-key-preserved : goal.loop-key-preserved
loop-key-preserved g c =
    let a = parties g.K.Ord.cmp g.S.Ord.cmp g.P.Ord.cmp in
    let list = c.loop-key.list.items in
    let key = c.in-Some.key.now in
    let subscribers = c.in-Some.subscribers.now in
    let shown = c.in_ok-listed.field-0 in
    record {
      lists = λ m agrees.
          let n = next-of a g.met.K.Ord.total m agrees.sound list key subscribers c.next.new.self (subst (Lists a m list) c.in-Some.ensures.steps (c.loop-key.invariant.lists m agrees)) in
          rw c.in_ok-push.ensures.items
          (n.pushed shown (some-at (row_of a m key) (λ row. subscribers ≡ row.subscribers → shown ≡ listed (key, row)) n.row n.found (c.in_ok-listed.ensures.row m agrees) n.same));
      some = (subst (AreListed g.S.Ord.cmp) c.in-Some.ensures.steps c.loop-key.invariant.some).1;
    }

pub returns-clause-rows : goal.returns-clause-rows
returns-clause-rows g c = λ m agrees.
    let a = parties g.K.Ord.cmp g.S.Ord.cmp g.P.Ord.cmp in
    let list = c.loop-key.list.items in
    lists-all a g.met.K.Ord.total m agrees.sound list (subst (Lists a m list) c.in-None.ensures.steps.0 (c.loop-key.invariant.lists m agrees))

pub returns-clause-once : goal.returns-clause-once
returns-clause-once g c =
    let a = parties g.K.Ord.cmp g.S.Ord.cmp g.P.Ord.cmp in
    let list = c.loop-key.list.items in
    let m = c.requires.tied.0 in
    let agrees = c.requires.tied.1 in
    let all = lists-all a g.met.K.Ord.total m agrees.sound list (subst (Lists a m list) c.in-None.ensures.steps.0 (c.loop-key.invariant.lists m agrees)) in
    listed-once a g.met.K.Ord.total m agrees.sound list all

pub returns-clause-ordered : goal.returns-clause-ordered
returns-clause-ordered g c =
    let a = parties g.K.Ord.cmp g.S.Ord.cmp g.P.Ord.cmp in
    let list = c.loop-key.list.items in
    let m = c.requires.tied.0 in
    let agrees = c.requires.tied.1 in
    let all = lists-all a g.met.K.Ord.total m agrees.sound list (subst (Lists a m list) c.in-None.ensures.steps.0 (c.loop-key.invariant.lists m agrees)) in
    listed-ordered a g.met.K.Ord.total m agrees.sound list all

pub returns-in_err-list-clause-only : goal.returns-in_err-list-clause-only
returns-in_err-list-clause-only g c = refused-as c.from_residual.result _ _ c.from_residual.ensures.1 (λ fault same. same)

pub returns-in_err-listed-clause-only : goal.returns-in_err-listed-clause-only
returns-in_err-listed-clause-only g c = refused-as c.from_residual-in_err-listed.result _ _ c.from_residual-in_err-listed.ensures.1 (λ fault same. same ∙ c.in_err-listed.ensures.only)

pub returns-in_err-push-clause-only : goal.returns-in_err-push-clause-only
returns-in_err-push-clause-only g c = refused-as c.from_residual-in_err-push.result _ _ c.from_residual-in_err-push.ensures.1 (λ fault same. same)

pub returns-in_err-list-clause-rows : goal.returns-in_err-list-clause-rows
returns-in_err-list-clause-rows g c = λ m agrees. refused c.from_residual.result _ _ c.from_residual.ensures.1

pub returns-in_err-list-clause-once : goal.returns-in_err-list-clause-once
returns-in_err-list-clause-once g c = refused c.from_residual.result _ _ c.from_residual.ensures.1

pub returns-in_err-list-clause-ordered : goal.returns-in_err-list-clause-ordered
returns-in_err-list-clause-ordered g c = refused c.from_residual.result _ _ c.from_residual.ensures.1

pub returns-in_err-listed-clause-rows : goal.returns-in_err-listed-clause-rows
returns-in_err-listed-clause-rows g c = λ m agrees. refused c.from_residual-in_err-listed.result _ _ c.from_residual-in_err-listed.ensures.1

pub returns-in_err-listed-clause-once : goal.returns-in_err-listed-clause-once
returns-in_err-listed-clause-once g c = refused c.from_residual-in_err-listed.result _ _ c.from_residual-in_err-listed.ensures.1

pub returns-in_err-listed-clause-ordered : goal.returns-in_err-listed-clause-ordered
returns-in_err-listed-clause-ordered g c = refused c.from_residual-in_err-listed.result _ _ c.from_residual-in_err-listed.ensures.1

pub returns-in_err-push-clause-rows : goal.returns-in_err-push-clause-rows
returns-in_err-push-clause-rows g c = λ m agrees. refused c.from_residual-in_err-push.result _ _ c.from_residual-in_err-push.ensures.1

pub returns-in_err-push-clause-once : goal.returns-in_err-push-clause-once
returns-in_err-push-clause-once g c = refused c.from_residual-in_err-push.result _ _ c.from_residual-in_err-push.ensures.1

pub returns-in_err-push-clause-ordered : goal.returns-in_err-push-clause-ordered
returns-in_err-push-clause-ordered g c = refused c.from_residual-in_err-push.result _ _ c.from_residual-in_err-push.ensures.1

pub listed-requires-clause-keys_clone : goal.listed-requires-clause-keys_clone
listed-requires-clause-keys_clone g c = c.requires.keys_clone

pub listed-requires-clause-peers_clone : goal.listed-requires-clause-peers_clone
listed-requires-clause-peers_clone g c = c.requires.peers_clone

pub listed-requires-clause-subscribers_clone : goal.listed-requires-clause-subscribers_clone
listed-requires-clause-subscribers_clone g c = c.requires.subscribers_clone

pub listed-requires-clause-tied : goal.listed-requires-clause-tied
listed-requires-clause-tied g c = c.requires.tied
