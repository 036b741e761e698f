use Rattle.std.proofs.Common.{refl, ap, sym, ◌∙◌, subst, ◌++◌}
use Rattle.std.specs.Prelude.{not}
use Rattle.resolver_types.specs.declared.delivery.Delivery.{Delivery}
use Rattle.resolver_model.specs.Verdicts.{ruling}
use Rattle.resolver_model_peer.specs.Parties.{parties, orders_of}
use Rattle.resolver_model_peer.specs.Peer.{Open, ruled}
use Rattle.resolver_peer_step.specs.Going.{Goes}
use Rattle.resolver_peer_step.specs.Ruled.{Names, earned, paid}
use Rattle.resolver_peer_step.proofs.Fails.{over}
use Rattle.resolver_peer_step.proofs.Verdicts.{aborted-goes, accounted, dead-goes, handed, live-goes, live-tied, opened, opened-some, paid-closed}
use Rattle.resolver_model_peer.proofs.Refusals.{done, refused-with}
use Rattle.resolver_peer_step.proofs.parts.Parts.verdict.Goals as goal

pub returns-in_default-clause-goes : goal.returns-in_default-clause-goes
returns-in_default-clause-goes g c = λ said m is.
    let a = parties g.K.Ord.cmp g.S.Ord.cmp g.P.Ord.cmp in
    aborted-goes a g.met.K.Ord.total c.args.self.now m is (over a c.args.self.now m is c.requires.closed) c.args.number c.args.outcome said c.args.now _ c.args.effects.now.items c.in_default.field-0 c.in_default.ensures refl

pub returns-in_err-account-clause-memory : goal.returns-in_err-account-clause-memory
returns-in_err-account-clause-memory g c = λ wanting m is.
    let a = parties g.K.Ord.cmp g.S.Ord.cmp g.P.Ord.cmp in
    opened-some a g.met.K.Ord.total c.args.self.now m is (over a c.args.self.now m is c.requires.closed) c.args.number c.args.outcome c.in-Ok.completion c.completed.new.self c.in-Ok.ensures

pub returns-then-canceled-clause-goes : goal.returns-then-canceled-clause-goes
returns-then-canceled-clause-goes g c = λ said m is.
    let a = parties g.K.Ord.cmp g.S.Ord.cmp g.P.Ord.cmp in
    let o = g.met.K.Ord.total in
    let scan = over a c.args.self.now m is c.requires.closed in
    let done = c.in-Ok.completion in
    let x = opened a o c.args.self.now m is scan c.args.number c.args.outcome done c.completed.new.self c.in-Ok.ensures in
    dead-goes a o c.args.self.now m is c.args.number x.begun x.found c.args.outcome scan _ x.shut
    (c.in_ok-account.ensures.ok ∙ ap (λ source. paid (orders_of a) source done.previously_accepted c.args.outcome c.args.self.now.fetcher) x.context
    ∙ ap (λ flag. paid (orders_of a) x.begun.context flag c.args.outcome c.args.self.now.fetcher) x.flag)
    refl said c.args.now c.args.effects.now.items c.account.new.effects.items (x.live ∙ ap not c.if-canceled.true)
    (c.in_ok-account.ensures.told ∙ ap (λ response. c.args.effects.now.items ++ earned response done.context done.previously_accepted c.args.outcome) x.response
    ∙ ap (λ source. c.args.effects.now.items ++ earned x.begun.response source done.previously_accepted c.args.outcome) x.context
    ∙ ap (λ flag. c.args.effects.now.items ++ earned x.begun.response x.begun.context flag c.args.outcome) x.flag)

pub rule-requires-clause-tied : goal.rule-requires-clause-tied
rule-requires-clause-tied g c =
    let a = parties g.K.Ord.cmp g.S.Ord.cmp g.P.Ord.cmp in
    let o = g.met.K.Ord.total in
    let m = c.requires.tied.0 in
    let is = c.requires.tied.1 in
    let scan = over a c.args.self.now m is c.requires.closed in
    let done = c.in-Ok.completion in
    let x = opened a o c.args.self.now m is scan c.args.number c.args.outcome done c.completed.new.self c.in-Ok.ensures in (
      (accounted a o c.args.self.now m is c.args.number x.begun x.found c.args.outcome).machine,
      handed a o c.args.self.now m is c.args.number x.begun x.found,
      record { named = sym (ap (λ (d : Delivery g.row.K.Denot g.row.S.Denot). d.key) x.delivery); handed = sym (ap (λ (d : Delivery g.row.K.Denot g.row.S.Denot). d.subscribers) x.delivery); flag = sym x.flag },
      live-tied a o c.args.self.now m is c.args.number x.begun x.found c.args.outcome scan _ x.shut
          (c.in_ok-account.ensures.ok ∙ ap (λ source. paid (orders_of a) source done.previously_accepted c.args.outcome c.args.self.now.fetcher) x.context
          ∙ ap (λ flag. paid (orders_of a) x.begun.context flag c.args.outcome c.args.self.now.fetcher) x.flag)
          refl (x.live ∙ ap not c.if-canceled.false),
    )

pub returns-clause-goes : goal.returns-clause-goes
returns-clause-goes g c = λ said m is.
    let a = parties g.K.Ord.cmp g.S.Ord.cmp g.P.Ord.cmp in
    let o = g.met.K.Ord.total in
    let scan = over a c.args.self.now m is c.requires.closed in
    let done = c.in-Ok.completion in
    let x = opened a o c.args.self.now m is scan c.args.number c.args.outcome done c.completed.new.self c.in-Ok.ensures in
    let named = sym (ap (λ (d : Delivery g.row.K.Denot g.row.S.Denot). d.key) x.delivery) in
    let listed = sym (ap (λ (d : Delivery g.row.K.Denot g.row.S.Denot). d.subscribers) x.delivery) in
    live-goes a o c.args.self.now m is c.args.number x.begun x.found c.args.outcome scan _ x.shut
    (c.in_ok-account.ensures.ok ∙ ap (λ source. paid (orders_of a) source done.previously_accepted c.args.outcome c.args.self.now.fetcher) x.context
    ∙ ap (λ flag. paid (orders_of a) x.begun.context flag c.args.outcome c.args.self.now.fetcher) x.flag)
    refl said c.args.now c.args.effects.now.items c.account.new.effects.items c.rule.new.effects.items c.rule.new.self c.rule.result (x.live ∙ ap not c.if-canceled.false)
    (c.in_ok-account.ensures.told ∙ ap (λ response. c.args.effects.now.items ++ earned response done.context done.previously_accepted c.args.outcome) x.response
    ∙ ap (λ source. c.args.effects.now.items ++ earned x.begun.response source done.previously_accepted c.args.outcome) x.context
    ∙ ap (λ flag. c.args.effects.now.items ++ earned x.begun.response x.begun.context flag c.args.outcome) x.flag)
    (λ d h same closed.
    let of : Names h done.delivery done.previously_accepted = record {
      named = ap (λ (h : Open g.row.K.Denot g.row.S.Denot g.row.P.Denot). h.handed.key) same ∙ named;
      handed = ap (λ (h : Open g.row.K.Denot g.row.S.Denot g.row.P.Denot). h.handed.subscribers) same ∙ listed;
      flag = ap (λ (h : Open g.row.K.Denot g.row.S.Denot g.row.P.Denot). h.accepted) same ∙ sym x.flag;
    } in
    subst (λ flag. Goes a said (ruled a d c.args.now h closed.row closed.judging.value (ruling flag c.args.outcome)) c.account.new.effects.items c.rule.new.effects.items c.rule.new.self c.rule.result) (sym of.flag)
    (c.rule.ensures said d h of closed))

pub returns-clause-memory : goal.returns-clause-memory
returns-clause-memory g c = λ wanting m is.
    let a = parties g.K.Ord.cmp g.S.Ord.cmp g.P.Ord.cmp in
    opened-some a g.met.K.Ord.total c.args.self.now m is (over a c.args.self.now m is c.requires.closed) c.args.number c.args.outcome c.in-Ok.completion c.completed.new.self c.in-Ok.ensures

pub returns-in_default-clause-memory : goal.returns-in_default-clause-memory
returns-in_default-clause-memory g c = λ wanting m is. absurd (done _ _ wanting)

pub returns-then-canceled-clause-memory : goal.returns-then-canceled-clause-memory
returns-then-canceled-clause-memory g c = λ wanting m is. absurd (done _ _ wanting)

pub returns-in_err-account-clause-goes : goal.returns-in_err-account-clause-goes
returns-in_err-account-clause-goes g c = λ said m is. rw (refused-with c.from_residual.result _ c.from_residual.ensures.1, c.in_err-account.ensures.only) tt

pub rule-requires-clause-closed : goal.rule-requires-clause-closed
rule-requires-clause-closed g c =
    let a = parties g.K.Ord.cmp g.S.Ord.cmp g.P.Ord.cmp in
    rw c.in_ok-account.ensures.ok (paid-closed a c.in-Ok.completion.context c.in-Ok.completion.previously_accepted c.args.outcome c.args.self.now.fetcher c.requires.closed)
