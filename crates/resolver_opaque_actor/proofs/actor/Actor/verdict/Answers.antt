use Rattle.std.proofs.Common.{◌∙◌, sym, ap, refl}
use Rattle.std.proofs.lemmas.Cmp.{eq_by_cmp_equiv}
use Rattle.resolver_types.specs.Names.{names}
use Rattle.resolver_model_opaque.proofs.Closing.{live, aborted_goes, canceled_goes, was-open, response-left, number-left, agree-left, retire_goes, retry_goes, served_goes, agree-gone, agree-served, agree-serve, serve_result}
use Rattle.resolver_model_opaque.proofs.OpaqueGoing.{agree-waited, waited_goes}
use Rattle.resolver_opaque_actor.proofs.actor.Actor.verdict.Goals as goal

pub returns-in_default-clause-goes : goal.returns-in_default-clause-goes
returns-in_default-clause-goes g c =
    rw (← c.self.view_is, c.completed.ensures.attempts) (aborted_goes (names g.K.Ord.cmp g.S.Ord.cmp) c.self.inside.demand c.self.inside.stages.entries c.self.invariant.agree c.self.inside.stages.next_attempt c.self.inside.delay c.self.inside.status c.args.now c.args.number c.args.outcome c.completed.new.self.entries c.in_default.field-0 c.args.effects.now.items (rw c.in_default.is at c.completed.ensures.answer))

pub returns-then-completion-clause-goes : goal.returns-then-completion-clause-goes
returns-then-completion-clause-goes g c =
    rw (← c.self.view_is, c.completed.ensures.attempts) (canceled_goes (names g.K.Ord.cmp g.S.Ord.cmp) c.self.inside.demand c.self.inside.stages.entries c.self.invariant.agree c.self.inside.stages.next_attempt c.self.inside.delay c.self.inside.status c.args.now c.args.number c.args.outcome c.completed.new.self.entries c.in-Ok.completion c.args.effects.now.items (rw c.in-Ok.is at c.completed.ensures.answer) c.if-completion.true)

pub invariant_of-self-in_err-rest-in-Serve : goal.invariant_of-self-in_err-rest-in-Serve
invariant_of-self-in_err-rest-in-Serve g c =
    let done = rw c.in-Ok.is at c.completed.ensures.answer in
    let l = live (names g.K.Ord.cmp g.S.Ord.cmp) c.self.inside.demand c.self.inside.stages.entries c.self.invariant.agree c.self.inside.stages.next_attempt c.self.inside.delay c.self.inside.status c.args.now c.args.number c.args.outcome c.completed.new.self.entries c.in-Ok.completion done c.if-completion.false in
    record { delay = c.self.invariant.delay; agree = rw c.in_err-rest-in-Serve.ensures.err (agree-left (names g.K.Ord.cmp g.S.Ord.cmp) c.self.inside.demand c.self.inside.stages.entries c.self.invariant.agree c.self.inside.stages.next_attempt c.self.inside.delay c.self.inside.status c.args.now c.args.number c.args.outcome c.in-Ok.completion c.completed.new.self.entries l) }

pub returns-in_err-rest-in-Serve-clause-memory : goal.returns-in_err-rest-in-Serve-clause-memory
returns-in_err-rest-in-Serve-clause-memory g c = λ wants.
    rw (← c.self.view_is) (was-open (names g.K.Ord.cmp g.S.Ord.cmp) c.self.inside.demand c.self.inside.stages.entries c.self.invariant.agree c.self.inside.stages.next_attempt c.self.inside.delay c.self.inside.status c.args.now c.args.number c.args.outcome c.completed.new.self.entries c.in-Ok.completion (rw c.in-Ok.is at c.completed.ensures.answer))

pub invariant_of-self-in_default-rest : goal.invariant_of-self-in_default-rest
invariant_of-self-in_default-rest g c =
    let done = rw c.in-Ok.is at c.completed.ensures.answer in
    let l = live (names g.K.Ord.cmp g.S.Ord.cmp) c.self.inside.demand c.self.inside.stages.entries c.self.invariant.agree c.self.inside.stages.next_attempt c.self.inside.delay c.self.inside.status c.args.now c.args.number c.args.outcome c.completed.new.self.entries c.in-Ok.completion done c.if-completion.false in
    let rest = sym c.in_default-rest.is ∙ c.in_ok-rest-in-Serve.ensures.rest in
    record { delay = c.self.invariant.delay; agree = agree-served (names g.K.Ord.cmp g.S.Ord.cmp) c.self.inside.demand c.self.inside.stages.entries c.self.invariant.agree c.self.inside.stages.next_attempt c.self.inside.delay c.self.inside.status c.args.now c.args.number c.args.outcome c.in-Ok.completion c.completed.new.self.entries l (eq_by_cmp_equiv g.met.K.Ord.total) c.remove_delivered.new.self c.remove.new.self.entries c.in_ok-rest-in-Serve.ensures.ok rest (ap (λ s. s.entries) c.remove.ensures) }

pub returns-in_default-rest-clause-goes : goal.returns-in_default-rest-clause-goes
returns-in_default-rest-clause-goes g c =
    let done = rw c.in-Ok.is at c.completed.ensures.answer in
    let l = live (names g.K.Ord.cmp g.S.Ord.cmp) c.self.inside.demand c.self.inside.stages.entries c.self.invariant.agree c.self.inside.stages.next_attempt c.self.inside.delay c.self.inside.status c.args.now c.args.number c.args.outcome c.completed.new.self.entries c.in-Ok.completion done c.if-completion.false in
    let rest = sym c.in_default-rest.is ∙ c.in_ok-rest-in-Serve.ensures.rest in
    rw (← c.self.view_is, c.in_ok-rest-in-Serve.ensures.ok, c.remove.ensures, c.completed.ensures.attempts) (served_goes (names g.K.Ord.cmp g.S.Ord.cmp) c.self.inside.demand c.self.inside.stages.entries c.self.invariant.agree c.self.inside.stages.next_attempt c.self.inside.delay c.self.inside.status c.args.now c.args.number c.args.outcome c.in-Ok.completion c.completed.new.self.entries l c.in-Serve.accepted c.args.effects.now.items (sym c.in-Serve.is ∙ c.ruling_of.ensures) rest)

pub hand_out_again-requires-clause-cached : goal.hand_out_again-requires-clause-cached
hand_out_again-requires-clause-cached g c =
    let done = rw c.in-Ok.is at c.completed.ensures.answer in
    let l = live (names g.K.Ord.cmp g.S.Ord.cmp) c.self.inside.demand c.self.inside.stages.entries c.self.invariant.agree c.self.inside.stages.next_attempt c.self.inside.delay c.self.inside.status c.args.now c.args.number c.args.outcome c.completed.new.self.entries c.in-Ok.completion done c.if-completion.false in
    rw (response-left (names g.K.Ord.cmp g.S.Ord.cmp) c.self.inside.demand c.self.inside.stages.entries c.self.invariant.agree c.self.inside.stages.next_attempt c.self.inside.delay c.self.inside.status c.args.now c.args.number c.args.outcome c.in-Ok.completion c.completed.new.self.entries l) refl

pub hand_out_again-requires-clause-free : goal.hand_out_again-requires-clause-free
hand_out_again-requires-clause-free g c =
    let done = rw c.in-Ok.is at c.completed.ensures.answer in
    let l = live (names g.K.Ord.cmp g.S.Ord.cmp) c.self.inside.demand c.self.inside.stages.entries c.self.invariant.agree c.self.inside.stages.next_attempt c.self.inside.delay c.self.inside.status c.args.now c.args.number c.args.outcome c.completed.new.self.entries c.in-Ok.completion done c.if-completion.false in
    number-left (names g.K.Ord.cmp g.S.Ord.cmp) c.self.inside.demand c.self.inside.stages.entries c.self.invariant.agree c.self.inside.stages.next_attempt c.self.inside.delay c.self.inside.status c.args.now c.args.number c.args.outcome c.in-Ok.completion c.completed.new.self.entries l

pub invariant_of-self-in-Serve-1 : goal.invariant_of-self-in-Serve-1
invariant_of-self-in-Serve-1 g c =
    let done = rw c.in-Ok.is at c.completed.ensures.answer in
    let l = live (names g.K.Ord.cmp g.S.Ord.cmp) c.self.inside.demand c.self.inside.stages.entries c.self.invariant.agree c.self.inside.stages.next_attempt c.self.inside.delay c.self.inside.status c.args.now c.args.number c.args.outcome c.completed.new.self.entries c.in-Ok.completion done c.if-completion.false in
    let rest = sym c.in-Some.is ∙ c.in_ok-rest-in-Serve.ensures.rest in
    record { delay = c.self.invariant.delay; agree = agree-serve (names g.K.Ord.cmp g.S.Ord.cmp) c.self.inside.demand c.self.inside.stages.entries c.self.invariant.agree c.self.inside.stages.next_attempt c.self.inside.delay c.self.inside.status c.args.now c.args.number c.args.outcome c.in-Ok.completion c.completed.new.self.entries l c.remove_delivered.new.self c.hand_out_again.new.stages.entries c.in-Some.subscribers c.in_ok-rest-in-Serve.ensures.ok rest c.hand_out_again.ensures.same c.hand_out_again.ensures.cached }

pub hand_out_again-requires-clause-asked : goal.hand_out_again-requires-clause-asked
hand_out_again-requires-clause-asked g c = (rw c.in-Ok.is at c.completed.ensures.asked) c.if-completion.false

pub wait-requires-clause-asked : goal.wait-requires-clause-asked
wait-requires-clause-asked g c = (rw c.in-Ok.is at c.completed.ensures.asked) c.if-completion.false

pub wait-requires-clause-idle : goal.wait-requires-clause-idle
wait-requires-clause-idle g c =
    let done = rw c.in-Ok.is at c.completed.ensures.answer in
    let l = live (names g.K.Ord.cmp g.S.Ord.cmp) c.self.inside.demand c.self.inside.stages.entries c.self.invariant.agree c.self.inside.stages.next_attempt c.self.inside.delay c.self.inside.status c.args.now c.args.number c.args.outcome c.completed.new.self.entries c.in-Ok.completion done c.if-completion.false in
    number-left (names g.K.Ord.cmp g.S.Ord.cmp) c.self.inside.demand c.self.inside.stages.entries c.self.invariant.agree c.self.inside.stages.next_attempt c.self.inside.delay c.self.inside.status c.args.now c.args.number c.args.outcome c.in-Ok.completion c.completed.new.self.entries l

pub invariant_of-self-in-Retry-1 : goal.invariant_of-self-in-Retry-1
invariant_of-self-in-Retry-1 g c =
    let done = rw c.in-Ok.is at c.completed.ensures.answer in
    let l = live (names g.K.Ord.cmp g.S.Ord.cmp) c.self.inside.demand c.self.inside.stages.entries c.self.invariant.agree c.self.inside.stages.next_attempt c.self.inside.delay c.self.inside.status c.args.now c.args.number c.args.outcome c.completed.new.self.entries c.in-Ok.completion done c.if-completion.false in
    record { delay = c.self.invariant.delay; agree = agree-waited (names g.K.Ord.cmp g.S.Ord.cmp) c.self.inside.demand c.completed.new.self c.wait.new.self c.in-Ok.completion.delivery.key _ c.wait.result c.wait.ensures.ok c.wait.ensures.err (agree-left (names g.K.Ord.cmp g.S.Ord.cmp) c.self.inside.demand c.self.inside.stages.entries c.self.invariant.agree c.self.inside.stages.next_attempt c.self.inside.delay c.self.inside.status c.args.now c.args.number c.args.outcome c.in-Ok.completion c.completed.new.self.entries l) }

pub invariant_of-self-in-Retire-1 : goal.invariant_of-self-in-Retire-1
invariant_of-self-in-Retire-1 g c =
    let done = rw c.in-Ok.is at c.completed.ensures.answer in
    let l = live (names g.K.Ord.cmp g.S.Ord.cmp) c.self.inside.demand c.self.inside.stages.entries c.self.invariant.agree c.self.inside.stages.next_attempt c.self.inside.delay c.self.inside.status c.args.now c.args.number c.args.outcome c.completed.new.self.entries c.in-Ok.completion done c.if-completion.false in
    record { delay = c.self.invariant.delay; agree = agree-gone (names g.K.Ord.cmp g.S.Ord.cmp) c.self.inside.demand c.self.inside.stages.entries c.self.invariant.agree c.self.inside.stages.next_attempt c.self.inside.delay c.self.inside.status c.args.now c.args.number c.args.outcome c.in-Ok.completion c.completed.new.self.entries l (eq_by_cmp_equiv g.met.K.Ord.total) c.remove-in-Retire.new.self c.remove-in-Retire-2.new.self.entries c.remove-in-Retire.ensures.after (ap (λ s. s.entries) c.remove-in-Retire-2.ensures) }

pub returns-in-Some-clause-goes : goal.returns-in-Some-clause-goes
returns-in-Some-clause-goes g c =
    let done = rw c.in-Ok.is at c.completed.ensures.answer in
    let l = live (names g.K.Ord.cmp g.S.Ord.cmp) c.self.inside.demand c.self.inside.stages.entries c.self.invariant.agree c.self.inside.stages.next_attempt c.self.inside.delay c.self.inside.status c.args.now c.args.number c.args.outcome c.completed.new.self.entries c.in-Ok.completion done c.if-completion.false in
    let rest = sym c.in-Some.is ∙ c.in_ok-rest-in-Serve.ensures.rest in
    rw (← c.self.view_is, c.hand_out_again.ensures.attempts, c.completed.ensures.attempts)
    (serve_result (names g.K.Ord.cmp g.S.Ord.cmp) c.self.inside.demand c.self.inside.stages.entries c.self.invariant.agree c.self.inside.stages.next_attempt c.self.inside.delay c.self.inside.status c.args.now c.args.number c.args.outcome c.in-Ok.completion c.completed.new.self.entries l c.in-Serve.accepted c.in-Some.subscribers c.args.effects.now.items c.hand_out_again.new.effects.items c.remove_delivered.new.self c.hand_out_again.new.stages.entries c.hand_out_again.result (sym c.in-Serve.is ∙ c.ruling_of.ensures) rest c.in_ok-rest-in-Serve.ensures.ok
    c.hand_out_again.ensures.ok c.hand_out_again.ensures.told c.hand_out_again.ensures.room c.hand_out_again.ensures.only)

pub returns-in-Some-clause-memory : goal.returns-in-Some-clause-memory
returns-in-Some-clause-memory g c = λ wants.
    rw (← c.self.view_is) (was-open (names g.K.Ord.cmp g.S.Ord.cmp) c.self.inside.demand c.self.inside.stages.entries c.self.invariant.agree c.self.inside.stages.next_attempt c.self.inside.delay c.self.inside.status c.args.now c.args.number c.args.outcome c.completed.new.self.entries c.in-Ok.completion (rw c.in-Ok.is at c.completed.ensures.answer))

pub returns-in-Retry-clause-goes : goal.returns-in-Retry-clause-goes
returns-in-Retry-clause-goes g c =
    let done = rw c.in-Ok.is at c.completed.ensures.answer in
    let l = live (names g.K.Ord.cmp g.S.Ord.cmp) c.self.inside.demand c.self.inside.stages.entries c.self.invariant.agree c.self.inside.stages.next_attempt c.self.inside.delay c.self.inside.status c.args.now c.args.number c.args.outcome c.completed.new.self.entries c.in-Ok.completion done c.if-completion.false in
    rw (← c.self.view_is)
    (waited_goes (names g.K.Ord.cmp g.S.Ord.cmp) c.self.inside.demand c.completed.new.self c.wait.new.self c.in-Ok.completion.delivery.key _ c.wait.result c.wait.ensures.ok _ c.args.effects.now.items c.self.inside.delay c.self.inside.status c.wait.ensures.only
    (rw c.completed.ensures.attempts (retry_goes (names g.K.Ord.cmp g.S.Ord.cmp) c.self.inside.demand c.self.inside.stages.entries c.self.invariant.agree c.self.inside.stages.next_attempt c.self.inside.delay c.self.inside.status c.args.now c.args.number c.args.outcome c.in-Ok.completion c.completed.new.self.entries l _ c.args.effects.now.items refl (sym c.in-Retry.is ∙ c.ruling_of.ensures))))

pub returns-in-Retry-clause-memory : goal.returns-in-Retry-clause-memory
returns-in-Retry-clause-memory g c = λ wants.
    rw (← c.self.view_is) (was-open (names g.K.Ord.cmp g.S.Ord.cmp) c.self.inside.demand c.self.inside.stages.entries c.self.invariant.agree c.self.inside.stages.next_attempt c.self.inside.delay c.self.inside.status c.args.now c.args.number c.args.outcome c.completed.new.self.entries c.in-Ok.completion (rw c.in-Ok.is at c.completed.ensures.answer))

pub returns-in-Retire-clause-goes : goal.returns-in-Retire-clause-goes
returns-in-Retire-clause-goes g c =
    let done = rw c.in-Ok.is at c.completed.ensures.answer in
    let l = live (names g.K.Ord.cmp g.S.Ord.cmp) c.self.inside.demand c.self.inside.stages.entries c.self.invariant.agree c.self.inside.stages.next_attempt c.self.inside.delay c.self.inside.status c.args.now c.args.number c.args.outcome c.completed.new.self.entries c.in-Ok.completion done c.if-completion.false in
    rw (← c.self.view_is, c.remove-in-Retire.ensures.after, c.remove-in-Retire-2.ensures, c.completed.ensures.attempts) (retire_goes (names g.K.Ord.cmp g.S.Ord.cmp) c.self.inside.demand c.self.inside.stages.entries c.self.invariant.agree c.self.inside.stages.next_attempt c.self.inside.delay c.self.inside.status c.args.now c.args.number c.args.outcome c.in-Ok.completion c.completed.new.self.entries l c.args.effects.now.items (sym c.in-Retire.is ∙ c.ruling_of.ensures))
