use Rattle.std.proofs.Common.{◌≡◌, ◌∙◌, subst, [], map, arith}
use Rattle.std.proofs.lemmas.List.{nil_from_length}
use Rattle.std.specs.Vec.Iter.{into_iter_items}
use Rattle.resolver_model_peer.specs.Parties.{parties}
use Rattle.resolver_peer_step.specs.Said.{item_of}
use Rattle.resolver_model_peer.proofs.Refusals.{refused, refused-as}
use Rattle.resolver_peer_step.proofs.Wanted.{Fetches, fetches-all, fetches-closed, fetches-first, fetches-next}
use Rattle.resolver_peer_step.proofs.parts.Parts.fetch.Goals as goal

pub fetch_one-requires-clause-closed : goal.fetch_one-requires-clause-closed
fetch_one-requires-clause-closed g c =
    let a = parties g.K.Ord.cmp g.S.Ord.cmp g.P.Ord.cmp in
    let m = c.requires.tied.0 in
    fetches-closed a m c.args.now _ _ c.args.self.now c.loop-item.self c.requires.tied.1 c.requires.closed (c.loop-item.invariant m c.requires.tied.1)

pub fetch_one-requires-clause-tied : goal.fetch_one-requires-clause-tied
fetch_one-requires-clause-tied g c =
    let f = c.loop-item.invariant c.requires.tied.0 c.requires.tied.1 in
    (f.so_far, f.agrees)

pub loop-item-preserved : goal.loop-item-preserved
loop-item-preserved g c = λ m is.
    let a = parties g.K.Ord.cmp g.S.Ord.cmp g.P.Ord.cmp in
    let before = subst (λ xs. Fetches a m c.args.now (map item_of c.args.items.items) (map item_of xs) c.loop-item.self) c.in-Some.ensures.steps.0 (c.loop-item.invariant m is) in
    fetches-next a m c.args.now _ (map item_of (into_iter_items c.next.new.self)) (item_of c.in-Some.item) c.loop-item.self c.fetch_one.new.self before
    (c.in_ok-fetch_one.ensures.ok before.so_far before.agrees)

pub returns-clause-ok : goal.returns-clause-ok
returns-clause-ok g c = λ m is.
    let a = parties g.K.Ord.cmp g.S.Ord.cmp g.P.Ord.cmp in
    let none : into_iter_items c.loop-item.item-iterator ≡ [] = nil_from_length _ (omega (arith, c.in-None.ensures.steps)) in
    fetches-all a m c.args.now (map item_of c.args.items.items) c.loop-item.self
    (subst (λ xs. Fetches a m c.args.now (map item_of c.args.items.items) (map item_of xs) c.loop-item.self) none (c.loop-item.invariant m is))

pub loop-item-init : goal.loop-item-init
loop-item-init g c = λ m is.
    let a = parties g.K.Ord.cmp g.S.Ord.cmp g.P.Ord.cmp in
    rw c.into_iter-item-iterator.ensures.into_iter_gives.0 (fetches-first a m c.args.now (map item_of c.args.items.items) c.args.self.now is)

pub returns-in_err-fetch_one-clause-ok : goal.returns-in_err-fetch_one-clause-ok
returns-in_err-fetch_one-clause-ok g c = λ m is. refused c.from_residual.result _ _ c.from_residual.ensures.1

pub returns-in_err-fetch_one-clause-only : goal.returns-in_err-fetch_one-clause-only
returns-in_err-fetch_one-clause-only g c = refused-as c.from_residual.result _ _ c.from_residual.ensures.1 (λ fault same. same ∙ c.in_err-fetch_one.ensures.only)

pub loop-item-smaller : goal.loop-item-smaller
loop-item-smaller g c = omega (arith, c.in-Some.ensures.steps.1)

pub fetch_one-requires-clause-moment : goal.fetch_one-requires-clause-moment
fetch_one-requires-clause-moment g c = c.requires.moment

pub fetch_one-requires-clause-keys_clone : goal.fetch_one-requires-clause-keys_clone
fetch_one-requires-clause-keys_clone g c = c.requires.keys_clone

pub fetch_one-requires-clause-peers_clone : goal.fetch_one-requires-clause-peers_clone
fetch_one-requires-clause-peers_clone g c = c.requires.peers_clone

pub fetch_one-requires-clause-subscribers_clone : goal.fetch_one-requires-clause-subscribers_clone
fetch_one-requires-clause-subscribers_clone g c = c.requires.subscribers_clone
