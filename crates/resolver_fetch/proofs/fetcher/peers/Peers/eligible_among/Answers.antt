use Rattle.std.proofs.Common.{◌≡◌, refl, ap, sym, ◌∙◌, [], ◌∷◌, ◌++◌, append-nil, rules}
use Rattle.resolver_fetch_scan.specs.Trying.{weighed}
use Rattle.resolver_fetch_scan.specs.Known.{known_by}
use Rattle.resolver_fetch.proofs.Among.{among, among-targets}
use Rattle.resolver_fetch.proofs.Passing.{found-here}
use Rattle.resolver_fetch.proofs.fetcher.peers.Peers.eligible_among.Goals as goal

pub loop-name-init : goal.loop-name-init
loop-name-init g c =
    let known = known_by g.P.Ord.cmp c.args.self.now in
    let names : c.into_iter-name-iterator.result ≡ c.names-name-items.result = search rules in
    rw c.new-peers.ensures.items
    (ap weighed (ap (among g.P.Ord.cmp known) names
    ∙ among-targets g.met.P.Ord.total known c.requires.ordered c.args.targets.now c.names-name-items.result c.names-name-items.ensures.ordered c.names-name-items.ensures.same))

pub loop-name-preserved : goal.loop-name-preserved
loop-name-preserved g c =
    let known = known_by g.P.Ord.cmp c.args.self.now in
    let before = c.loop-name.peers.items in
    let name = c.in-Some.name.now in
    let list : c.loop-name.name-iterator ≡ name ∷ c.next.new.self = c.in-Some.ensures.steps in
    let all : before ≡ before ++ [] = rw append-nil refl in
    ap (λ ps. ps ++ weighed (among g.P.Ord.cmp known c.next.new.self)) all
    ∙ found-here g.P.Ord.cmp known before [] name c.next.new.self c.in_default.ensures
    ∙ ap (λ ns. before ++ weighed (among g.P.Ord.cmp known ns)) (sym list)
    ∙ c.loop-name.invariant

pub loop-name-preserved-in_ok-push : goal.loop-name-preserved-in_ok-push
loop-name-preserved-in_ok-push g c =
    let known = known_by g.P.Ord.cmp c.args.self.now in
    let before = c.loop-name.peers.items in
    let name = c.in-Some.name.now in
    let peer = c.in-Some-askable_at.peer.now in
    let list : c.loop-name.name-iterator ≡ name ∷ c.next.new.self = c.in-Some.ensures.steps in
    let again : c.in_ok-clone.field-0 ≡ peer = c.requires.peers_clone peer c.in_ok-clone.field-0 c.in_ok-clone.ensures.cases in
    let pushed : c.push.new.self.items ≡ before ++ (peer, c.in-Some-askable_at.weight) ∷ [] =
    c.in_ok-push.ensures.items ∙ ap (λ p. before ++ (p, c.in-Some-askable_at.weight) ∷ []) again in
    ap (λ ps. ps ++ weighed (among g.P.Ord.cmp known c.next.new.self)) pushed
    ∙ found-here g.P.Ord.cmp known before ((peer, c.in-Some-askable_at.weight) ∷ []) name c.next.new.self c.in-Some-askable_at.ensures
    ∙ ap (λ ns. before ++ weighed (among g.P.Ord.cmp known ns)) (sym list)
    ∙ c.loop-name.invariant

pub returns-clause-ok : goal.returns-clause-ok
returns-clause-ok g c =
    let before = c.loop-name.peers.items in
    let all : before ≡ before ++ [] = rw append-nil refl in
    all ∙ ap (λ ns. before ++ weighed (among g.P.Ord.cmp (known_by g.P.Ord.cmp c.args.self.now) ns)) (sym c.in-None.ensures.steps.0) ∙ c.loop-name.invariant
