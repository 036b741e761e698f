use Rattle.std.proofs.Common.{◌≡◌, refl, ap, sym, ◌∙◌, [], ◌∷◌, ◌++◌, append-nil, rules}
use Rattle.std.specs.Option.{option_copied}
use Rattle.resolver_sampling.specs.Scores.{weight_of}
use Rattle.resolver_fetch_scan.specs.Known.{is_eligible, known_by}
use Rattle.resolver_fetch.proofs.Passing.{kept, kept-here, kept-past}
use Rattle.resolver_fetch.proofs.fetcher.peers.Peers.eligible_of_all.Goals as goal

pub loop-peer-init : goal.loop-peer-init
loop-peer-init g c =
    let set : c.into_iter-peer-iterator.result ≡ c.args.self.now.set = search rules in
    rw (c.new-peers.ensures.items, set) refl

pub loop-peer-preserved : goal.loop-peer-preserved
loop-peer-preserved g c =
    let keep = is_eligible g.P.Ord.cmp (known_by g.P.Ord.cmp c.args.self.now) (option_copied c.args.targets) in
    let before = c.loop-peer.peers.items in
    let list : c.loop-peer.peer-iterator ≡ (c.in-Some.peer.now, c.in-Some.score.now) ∷ c.next.new.self = c.in-Some.ensures.steps in
    kept-past keep before (c.in-Some.peer.now, c.in-Some.score.now) c.next.new.self (sym c.if-is_eligible.ensures)
    ∙ ap (λ es. before ++ kept keep es) (sym list)
    ∙ c.loop-peer.invariant

pub loop-peer-preserved-in_ok-push : goal.loop-peer-preserved-in_ok-push
loop-peer-preserved-in_ok-push g c =
    let keep = is_eligible g.P.Ord.cmp (known_by g.P.Ord.cmp c.args.self.now) (option_copied c.args.targets) in
    let before = c.loop-peer.peers.items in
    let peer = c.in-Some.peer.now in
    let list : c.loop-peer.peer-iterator ≡ (peer, c.in-Some.score.now) ∷ c.next.new.self = c.in-Some.ensures.steps in
    let again : c.in_ok-clone.field-0 ≡ peer = c.requires.peers_clone peer c.in_ok-clone.field-0 c.in_ok-clone.ensures.cases in
    let pushed : c.push.new.self.items ≡ before ++ (peer, weight_of c.in-Some.score.now) ∷ [] =
    c.in_ok-push.ensures.items ∙ ap (λ p. before ++ (p, c.weight.result) ∷ []) again ∙ ap (λ w. before ++ (peer, w) ∷ []) c.weight.ensures.value in
    ap (λ ps. ps ++ kept keep c.next.new.self) pushed
    ∙ kept-here keep before (peer, c.in-Some.score.now) c.next.new.self (sym c.if-is_eligible.ensures)
    ∙ ap (λ es. before ++ kept keep es) (sym list)
    ∙ c.loop-peer.invariant

pub returns-clause-ok : goal.returns-clause-ok
returns-clause-ok g c =
    let keep = is_eligible g.P.Ord.cmp (known_by g.P.Ord.cmp c.args.self.now) (option_copied c.args.targets) in
    let before = c.loop-peer.peers.items in
    let all : before ≡ before ++ [] = rw append-nil refl in
    all ∙ ap (λ es. before ++ kept keep es) (sym c.in-None.ensures.steps.0) ∙ c.loop-peer.invariant
