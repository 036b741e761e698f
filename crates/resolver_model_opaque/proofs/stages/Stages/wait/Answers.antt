use Rattle.std.proofs.Common.{◌∙◌, ap, refl, sym}
use Rattle.std.proofs.lemmas.Cmp.{eq_by_cmp_equiv}
use Rattle.resolver_delivery.specs.Entries.{changed, state_of, with_state}
use Rattle.resolver_model_opaque.specs.declared.phase.Stage.TheVariants.{Waiting}
use Rattle.resolver_model_opaque.proofs.Led.{led-waits}
use Rattle.resolver_model_opaque.proofs.Dues.{asked-attempt, due-waits, led-nowhere, led-same, rested, stands}
use Rattle.resolver_model_opaque.proofs.stages.Stages.wait.Goals as goal

pub unreachable-requires : goal.unreachable-requires
unreachable-requires g c =
    asked-attempt (state_of g.K.Ord.cmp c.self.inside.entries c.args.key.now) (rw (← c.self.view_is) at c.requires.asked) (sym c.in_default.is ∙ c.attempt_of.ensures)

pub unreachable-requires-in_default-get : goal.unreachable-requires-in_default-get
unreachable-requires-in_default-get g c =
    let s = stands g.met.K.Ord.total (eq_by_cmp_equiv g.met.K.Ord.total) c.self.inside.attempts c.self.inside.asked c.self.inside.entries.keys c.self.invariant.0 c.args.key.now c.in-Some.attempt (sym c.in-Some.is ∙ c.attempt_of.ensures) in
    led-nowhere g.K.Ord.cmp c.args.key.now s.entry.0 _ c.in_default-get.ensures s.leads

pub invariant_of-self-2 : goal.invariant_of-self-2
invariant_of-self-2 g c =
    let s = stands g.met.K.Ord.total (eq_by_cmp_equiv g.met.K.Ord.total) c.self.inside.attempts c.self.inside.asked c.self.inside.entries.keys c.self.invariant.0 c.args.key.now c.in-Some.attempt (sym c.in-Some.is ∙ c.attempt_of.ensures) in
    let led = led-same g.K.Ord.cmp c.args.key.now s.entry.0 c.in-Some-get.held.now _ c.in-Some-get.ensures s.leads in
    let own = c.requires.keys_clone _ _ c.in_ok-clone.ensures.cases ∙ led.0 in
    let forgets = rested g.K.Ord.cmp c.args.key.now c.args.due c.self.inside.entries (rw (← c.self.view_is) at c.requires.idle) in
    let rests = c.set_state.ensures ∙ (ap (changed g.K.Ord.cmp c.args.key.now (with_state (Waiting c.args.due))) c.discard_response.ensures ∙ forgets) in
    rw (rests, c.in_ok-put.ensures.ok, own) (
      led-waits g.met.K.Ord.total (eq_by_cmp_equiv g.met.K.Ord.total) c.args.key.now c.self.inside.attempts c.self.inside.asked c.leave.new.asked c.self.inside.entries.keys c.self.invariant.0 c.leave.ensures c.args.due,
      due-waits g.met.K.Ord.total (eq_by_cmp_equiv g.met.K.Ord.total) c.args.key.now c.self.inside.retries c.self.inside.entries.keys c.self.invariant.1 s.entry c.in-Some.attempt c.args.due s.kept s.state c.requires.soon led.1,
    )

pub returns-clause-ok : goal.returns-clause-ok
returns-clause-ok g c =
    let forgets = rested g.K.Ord.cmp c.args.key.now c.args.due c.self.inside.entries (rw (← c.self.view_is) at c.requires.idle) in
    let rests = c.set_state.ensures ∙ (ap (changed g.K.Ord.cmp c.args.key.now (with_state (Waiting c.args.due))) c.discard_response.ensures ∙ forgets) in
    rw (← c.self.view_is, rests) refl
