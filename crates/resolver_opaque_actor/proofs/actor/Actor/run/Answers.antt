use Rattle.std.proofs.Common.{◌≡◌, refl, sym, ◌∙◌, subst, rules, arith, [], ◌∷◌, map, append-nil}
use Rattle.std.proofs.lemmas.List.{nil_from_length}
use Rattle.std.specs.Vec.Iter.{into_iter_items}
use Rattle.resolver_types.specs.Names.{names}
use Rattle.resolver_model_opaque.specs.OpaqueInputs.{input_of}
use Rattle.resolver_model_opaque.specs.OpaqueSteps.{Runs, answer_of, step_on, MayWant}
use Rattle.resolver_model.specs.declared.status.Status.TheVariants.{Failed}
use Rattle.std.proofs.lemmas.Cmp.{eq_by_cmp_equiv}
use Rattle.resolver_model_opaque.proofs.OpaqueKept.{inputs-lawful, demand_is_kept}
use Rattle.resolver_model.specs.Lawful.{AnswersAlike}
use Rattle.resolver_model.proofs.Runs.{Runs-step, Runs-last}
use Rattle.resolver_model_opaque.proofs.Running.{stops-answer_of, map-more, map-last}
use Rattle.resolver_opaque_actor.proofs.actor.Actor.run.Goals as goal

-- the last answer, behind those so far
pub returns-then-stops-clause-runs : goal.returns-then-stops-clause-runs
returns-then-stops-clause-runs g c =
    let n = names g.K.Ord.cmp g.S.Ord.cmp in
    let answer = answer_of c.step-answer.result in
    subst (λ answers. Runs n c.args.self.now (map (input_of g.Q.Predicate.keeps) c.args.inputs.items) (map answer_of answers) c.step-answer.new.self) (sym c.push_reserved.ensures.items)
    (subst (λ answers. Runs n c.args.self.now (map (input_of g.Q.Predicate.keeps) c.args.inputs.items) answers c.step-answer.new.self) (map-last answer_of c.loop-input.answers.items c.step-answer.result)
    (c.loop-input.invariant.rest (answer ∷ []) c.step-answer.new.self
    (subst (λ xs. Runs n c.loop-input.self (map (input_of g.Q.Predicate.keeps) xs) (answer ∷ []) c.step-answer.new.self) (sym c.in-Some.ensures.steps.0)
    (Runs-last (step_on n) MayWant (λ m. m.status ≡ Failed) c.loop-input.self c.step-answer.new.self (input_of g.Q.Predicate.keeps c.in-Some.input) (map (input_of g.Q.Predicate.keeps) (into_iter_items c.next.new.self)) answer c.step-answer.ensures
    (stops-answer_of c.step-answer.result ∙ sym c.if-stops.ensures)))))

pub loop-input-preserved : goal.loop-input-preserved
loop-input-preserved g c =
    let n = names g.K.Ord.cmp g.S.Ord.cmp in
    let answer = answer_of c.step-answer.result in
    record {
      rest = λ more new runs.
          rw (c.push_reserved.ensures.items, map-more)
          (c.loop-input.invariant.rest (answer ∷ more) new
          (subst (λ xs. Runs n c.loop-input.self (map (input_of g.Q.Predicate.keeps) xs) (answer ∷ more) new) (sym c.in-Some.ensures.steps.0)
          (Runs-step (step_on n) MayWant (λ m. m.status ≡ Failed) c.loop-input.self c.step-answer.new.self new (input_of g.Q.Predicate.keeps c.in-Some.input) (map (input_of g.Q.Predicate.keeps) (into_iter_items c.next.new.self)) answer more c.step-answer.ensures
          (stops-answer_of c.step-answer.result ∙ sym c.if-stops.ensures) runs)));
      room = search rules;
    }

pub returns-clause-runs : goal.returns-clause-runs
returns-clause-runs g c =
    let n = names g.K.Ord.cmp g.S.Ord.cmp in
    let none : into_iter_items c.loop-input.input-iterator ≡ [] = nil_from_length _ (omega (arith, c.in-None.ensures.steps)) in
    subst (λ answers. Runs n c.args.self.now (map (input_of g.Q.Predicate.keeps) c.args.inputs.items) answers c.loop-input.self) (append-nil _)
    (c.loop-input.invariant.rest [] c.loop-input.self (subst (λ xs. Runs n c.loop-input.self (map (input_of g.Q.Predicate.keeps) xs) [] c.loop-input.self) (sym none) refl))

pub returns-then-stops-clause-demand : goal.returns-then-stops-clause-demand
returns-then-stops-clause-demand g c =
    let keys = eq_by_cmp_equiv g.met.K.Ord.total in
    let subscribers = eq_by_cmp_equiv g.met.S.Ord.total in
    let alike : (q : _) → AnswersAlike (names g.K.Ord.cmp g.S.Ord.cmp) (g.Q.Predicate.keeps q) = λ q k l s t same_key same_subscriber.
    sym (g.met.Q.Predicate.alike q k l s t (g.met.K.Ord.matches_eq k l ∙ same_key) (g.met.S.Ord.matches_eq s t ∙ same_subscriber)) in
    demand_is_kept (names g.K.Ord.cmp g.S.Ord.cmp) keys g.met.S.Ord.total subscribers c.args.self.now (map (input_of g.Q.Predicate.keeps) c.args.inputs.items) _ c.step-answer.new.self
    (inputs-lawful (names g.K.Ord.cmp g.S.Ord.cmp) keys g.met.S.Ord.total subscribers g.Q.Predicate.keeps alike c.args.inputs.items) (returns-then-stops-clause-runs g c)

pub returns-clause-demand : goal.returns-clause-demand
returns-clause-demand g c =
    let keys = eq_by_cmp_equiv g.met.K.Ord.total in
    let subscribers = eq_by_cmp_equiv g.met.S.Ord.total in
    let alike : (q : _) → AnswersAlike (names g.K.Ord.cmp g.S.Ord.cmp) (g.Q.Predicate.keeps q) = λ q k l s t same_key same_subscriber.
    sym (g.met.Q.Predicate.alike q k l s t (g.met.K.Ord.matches_eq k l ∙ same_key) (g.met.S.Ord.matches_eq s t ∙ same_subscriber)) in
    demand_is_kept (names g.K.Ord.cmp g.S.Ord.cmp) keys g.met.S.Ord.total subscribers c.args.self.now (map (input_of g.Q.Predicate.keeps) c.args.inputs.items) (map answer_of c.loop-input.answers.items) c.loop-input.self
    (inputs-lawful (names g.K.Ord.cmp g.S.Ord.cmp) keys g.met.S.Ord.total subscribers g.Q.Predicate.keeps alike c.args.inputs.items) (returns-clause-runs g c)
