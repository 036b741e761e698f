use Rattle.std.proofs.Common.{◌≡◌, None, Some, ◌∙◌, ap}
use Rattle.std.proofs.lemmas.Cmp.{eq_by_cmp_equiv}
use Rattle.resolver_model_opaque.specs.declared.phase.Phase.TheVariants as phases
use Rattle.resolver_model_opaque.specs.OpaqueByPhase.{listed_phase, phase_of}
use Rattle.resolver_model_opaque.proofs.Led.{nothing-asked, key-there, key-asked, key-unasked, listed-asked, waiting-unasked, judged-unasked}
use Rattle.resolver_model_opaque.proofs.stages.Stages.asked_by.Goals as goal

same : {A : Type 0} (x y : A) → Some x ≡ Some y → x ≡ y
same x y is = cc

pub returns-in_err-key : goal.returns-in_err-key
returns-in_err-key g c =
    rw (← c.self.view_is, c.from_residual.ensures) (nothing-asked g.met.K.Ord.total (eq_by_cmp_equiv g.met.K.Ord.total) c.args.attempt c.self.inside.attempts c.self.inside.asked c.self.inside.entries.keys c.self.invariant.0 c.in_err-key.ensures)

pub returns-in_err-entry : goal.returns-in_err-entry
returns-in_err-entry g c =
    let there = key-there g.met.K.Ord.total (eq_by_cmp_equiv g.met.K.Ord.total) c.args.attempt c.self.inside.attempts c.self.inside.asked c.self.inside.entries.keys c.self.invariant.0 c.in_ok-key.key.now c.in_ok-key.ensures in
    absurd (lost (c.in_err-entry.ensures ∙ there.2))
  where
    lost : {A : Type 0} {x : A} → None ≡ Some x → ⊥
    lost is = cc

pub returns-in-Asked : goal.returns-in-Asked
returns-in-Asked g c =
    let there = key-there g.met.K.Ord.total (eq_by_cmp_equiv g.met.K.Ord.total) c.args.attempt c.self.inside.attempts c.self.inside.asked c.self.inside.entries.keys c.self.invariant.0 c.in_ok-key.key.now c.in_ok-key.ensures in
    let held = same _ _ (c.in_ok-entry.ensures ∙ there.2) in
    let shown : phases.Asked c.in-Asked.attempt ≡ listed_phase (phase_of there.0.1) = c.in-Asked.ensures ∙ ap (λ e. listed_phase (phase_of e)) held in
    rw (← c.self.view_is)
    (key-asked g.met.K.Ord.total (eq_by_cmp_equiv g.met.K.Ord.total) c.args.attempt c.self.inside.attempts c.self.inside.asked c.self.inside.entries.keys c.self.invariant.0 c.in_ok-key.key.now c.in_ok-key.ensures there.0 there.1
    (listed-asked c.args.attempt c.in-Asked.attempt c.in_ok-key.key.now there.0.0 there.0.1.state there.0.1.number there.0.1.response shown there.3))

pub returns-in-Waiting : goal.returns-in-Waiting
returns-in-Waiting g c =
    let there = key-there g.met.K.Ord.total (eq_by_cmp_equiv g.met.K.Ord.total) c.args.attempt c.self.inside.attempts c.self.inside.asked c.self.inside.entries.keys c.self.invariant.0 c.in_ok-key.key.now c.in_ok-key.ensures in
    let held = same _ _ (c.in_ok-entry.ensures ∙ there.2) in
    let shown : phases.Waiting c.in-Waiting.due ≡ listed_phase (phase_of there.0.1) = c.in-Waiting.ensures ∙ ap (λ e. listed_phase (phase_of e)) held in
    rw (← c.self.view_is)
    (key-unasked g.met.K.Ord.total (eq_by_cmp_equiv g.met.K.Ord.total) c.args.attempt c.self.inside.attempts c.self.inside.asked c.self.inside.entries.keys c.self.invariant.0 c.in_ok-key.key.now c.in_ok-key.ensures there.0 there.1 (waiting-unasked c.args.attempt c.in-Waiting.due (phase_of there.0.1) shown))

pub returns-in-Judged : goal.returns-in-Judged
returns-in-Judged g c =
    let there = key-there g.met.K.Ord.total (eq_by_cmp_equiv g.met.K.Ord.total) c.args.attempt c.self.inside.attempts c.self.inside.asked c.self.inside.entries.keys c.self.invariant.0 c.in_ok-key.key.now c.in_ok-key.ensures in
    let held = same _ _ (c.in_ok-entry.ensures ∙ there.2) in
    let shown : phases.Judged c.in-Judged.number ≡ listed_phase (phase_of there.0.1) = c.in-Judged.ensures ∙ ap (λ e. listed_phase (phase_of e)) held in
    rw (← c.self.view_is)
    (key-unasked g.met.K.Ord.total (eq_by_cmp_equiv g.met.K.Ord.total) c.args.attempt c.self.inside.attempts c.self.inside.asked c.self.inside.entries.keys c.self.invariant.0 c.in_ok-key.key.now c.in_ok-key.ensures there.0 there.1 (judged-unasked c.args.attempt c.in-Judged.number (phase_of there.0.1) shown))
