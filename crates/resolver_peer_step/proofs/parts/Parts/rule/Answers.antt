use Rattle.std.proofs.Common.{◌≡◌, refl, ap, sym, ◌∙◌, Option, Some, rules}
use Rattle.std.specs.Prelude.{IsSome}
use Rattle.resolver_model_peer.specs.Parties.{parties}
use Rattle.resolver_peer_step.specs.declared.parts.Parts.{Parts}
use Rattle.resolver_peer_step.proofs.Rulings.{last-goes, rest-goes, retires-goes, retries-goes, ruled-cached, ruled-idle, ruled-not_asked, ruled-not_waiting, three-changed}
use Rattle.resolver_peer_step.proofs.parts.Parts.rule.Goals as goal

some-is : {X : Type 0} (found : Option X) (x : X) → found ≡ Some x → IsSome found
some-is found x is = rw is (search rules)

pub retire-requires-clause-not_waiting : goal.retire-requires-clause-not_waiting
retire-requires-clause-not_waiting g c =
    let t = c.requires.tied in
    ruled-not_waiting (parties g.K.Ord.cmp g.S.Ord.cmp g.P.Ord.cmp) g.met.K.Ord.total c.args.self.now t.0 t.1 t.3 c.args.delivery c.args.accepted t.2

pub retire-requires-clause-not_asked : goal.retire-requires-clause-not_asked
retire-requires-clause-not_asked g c =
    let t = c.requires.tied in
    ruled-not_asked (parties g.K.Ord.cmp g.S.Ord.cmp g.P.Ord.cmp) g.met.K.Ord.total c.args.self.now t.0 t.1 t.3 c.args.delivery c.args.accepted t.2

pub returns-in_default : goal.returns-in_default
returns-in_default g c = λ said m h of closed.
    last-goes (parties g.K.Ord.cmp g.S.Ord.cmp g.P.Ord.cmp) g.met.K.Ord.total said c.args.self.now m h closed c.args.delivery c.args.accepted of c.args.outcome c.args.now c.in-Serve.accepted c.in-Serve.ensures
    (sym c.in_default.is ∙ c.in_ok-rest-in-Serve.ensures.rest) c.args.effects.now.items c.retire.new.self
    (ap (λ (e : Parts g.row.K.Denot g.row.P.Denot g.row.S.Denot). e.demand) c.retire.ensures ∙ c.in_ok-rest-in-Serve.ensures.ok)
    (ap (λ (e : Parts g.row.K.Denot g.row.P.Denot g.row.S.Denot). e.entries) c.retire.ensures) (ap (λ (e : Parts g.row.K.Denot g.row.P.Denot g.row.S.Denot). e.fetcher) c.retire.ensures)
    (three-changed c.args.self.now c.retire.new.self _ _ _ c.retire.ensures)

pub hand_out_again-requires-clause-cached : goal.hand_out_again-requires-clause-cached
hand_out_again-requires-clause-cached g c =
    let t = c.requires.tied in
    rw c.count_complete.ensures (some-is _ _ (ruled-cached (parties g.K.Ord.cmp g.S.Ord.cmp g.P.Ord.cmp) g.met.K.Ord.total c.args.self.now t.0 t.1 t.3 c.args.delivery c.args.accepted t.2))

pub hand_out_again-requires-clause-idle : goal.hand_out_again-requires-clause-idle
hand_out_again-requires-clause-idle g c =
    let t = c.requires.tied in
    rw c.count_complete.ensures (ruled-idle (parties g.K.Ord.cmp g.S.Ord.cmp g.P.Ord.cmp) g.met.K.Ord.total c.args.self.now t.0 t.1 t.3 c.args.delivery c.args.accepted t.2)

pub add_retry-requires-clause-not_waiting : goal.add_retry-requires-clause-not_waiting
add_retry-requires-clause-not_waiting g c =
    let t = c.requires.tied in
    ruled-not_waiting (parties g.K.Ord.cmp g.S.Ord.cmp g.P.Ord.cmp) g.met.K.Ord.total c.args.self.now t.0 t.1 t.3 c.args.delivery c.args.accepted t.2

pub add_retry-requires-clause-not_asked : goal.add_retry-requires-clause-not_asked
add_retry-requires-clause-not_asked g c =
    let t = c.requires.tied in
    ruled-not_asked (parties g.K.Ord.cmp g.S.Ord.cmp g.P.Ord.cmp) g.met.K.Ord.total c.args.self.now t.0 t.1 t.3 c.args.delivery c.args.accepted t.2

pub retire-requires-in-Retire-clause-not_waiting : goal.retire-requires-in-Retire-clause-not_waiting
retire-requires-in-Retire-clause-not_waiting g c =
    let t = c.requires.tied in
    ruled-not_waiting (parties g.K.Ord.cmp g.S.Ord.cmp g.P.Ord.cmp) g.met.K.Ord.total c.args.self.now t.0 t.1 t.3 c.args.delivery c.args.accepted t.2

pub retire-requires-in-Retire-clause-not_asked : goal.retire-requires-in-Retire-clause-not_asked
retire-requires-in-Retire-clause-not_asked g c =
    let t = c.requires.tied in
    ruled-not_asked (parties g.K.Ord.cmp g.S.Ord.cmp g.P.Ord.cmp) g.met.K.Ord.total c.args.self.now t.0 t.1 t.3 c.args.delivery c.args.accepted t.2

pub returns-in-Some : goal.returns-in-Some
returns-in-Some g c = λ said m h of closed.
    rw c.count_complete.ensures (rest-goes (parties g.K.Ord.cmp g.S.Ord.cmp g.P.Ord.cmp) g.met.K.Ord.total said c.args.self.now m h closed c.args.delivery c.args.accepted of c.args.outcome c.args.now c.in-Serve.accepted c.in-Serve.ensures
    c.in-Some.subscribers (sym c.in-Some.is ∙ c.in_ok-rest-in-Serve.ensures.rest) c.args.effects.now.items _ _ c.hand_out_again.result
    c.in_ok-rest-in-Serve.ensures.ok (rw c.count_complete.ensures at c.hand_out_again.ensures.ok) (rw c.count_complete.ensures at c.hand_out_again.ensures.told)
    (rw c.count_complete.ensures at c.hand_out_again.ensures.room) (rw c.count_complete.ensures at c.hand_out_again.ensures.only) refl)

pub returns-in-Retry : goal.returns-in-Retry
returns-in-Retry g c = λ said m h of closed.
    retries-goes (parties g.K.Ord.cmp g.S.Ord.cmp g.P.Ord.cmp) g.met.K.Ord.total said c.args.self.now m h closed c.args.delivery c.args.accepted of c.args.outcome c.args.now c.in-Retry.ensures
    c.args.effects.now.items _ c.add_retry.result c.discard_response.ensures c.add_retry.ensures.ok c.add_retry.ensures.only refl

pub returns-in-Retire : goal.returns-in-Retire
returns-in-Retire g c = λ said m h of closed.
    retires-goes (parties g.K.Ord.cmp g.S.Ord.cmp g.P.Ord.cmp) g.met.K.Ord.total said c.args.self.now m h closed c.args.delivery c.args.accepted of c.args.outcome c.args.now c.in-Retire.ensures
    c.args.effects.now.items c.retire-in-Retire.new.self
    (ap (λ (e : Parts g.row.K.Denot g.row.P.Denot g.row.S.Denot). e.demand) c.retire-in-Retire.ensures ∙ c.remove.ensures.after)
    (ap (λ (e : Parts g.row.K.Denot g.row.P.Denot g.row.S.Denot). e.entries) c.retire-in-Retire.ensures) (ap (λ (e : Parts g.row.K.Denot g.row.P.Denot g.row.S.Denot). e.fetcher) c.retire-in-Retire.ensures)
    (three-changed c.args.self.now c.retire-in-Retire.new.self _ _ _ c.retire-in-Retire.ensures)
