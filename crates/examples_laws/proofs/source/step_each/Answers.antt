use Rattle.std.proofs.Common.{ap, sym, ◌∙◌, subst, true, false, [], ◌∷◌, ◌++◌}
use Rattle.std.proofs.lemmas.List.{append_assoc}
use Rattle.std.specs.Vec.Iter.{into_iter_items}
use Rattle.resolver_types.specs.Names.{names}
use Rattle.examples_laws.proofs.SourceRuns.{Answered, GoesOn, last-ends, run-ended, step-on}
use Rattle.examples_laws.proofs.source.step_each.Goals as goal

pub returns-then-ends-clause-runs : goal.returns-then-ends-clause-runs
returns-then-ends-clause-runs g c =
    let n = names g.K.Ord.cmp g.S.Ord.cmp in
    let keeps = g.Q.Predicate.keeps in
    let join = c.opaque_runs_join.ensures in
    let on = c.loop-input.invariant in
    let answers = c.loop-input.answers.items in
    let split = append_assoc on.taken (c.in-Some.input ∷ []) (into_iter_items c.next.new.self) ∙ ap (λ left. on.taken ++ left) (sym c.in-Some.ensures.steps.0) ∙ on.split in
    subst (λ told. Answered n keeps join c.args.actor.now c.args.inputs.items told c.step-answer.new.self) (sym c.in_ok-push.ensures.items)
    (subst (λ all. Answered n keeps join c.args.actor.now all (answers ++ c.step-answer.result ∷ []) c.step-answer.new.self) split
    (run-ended n keeps join c.args.actor.now c.step-answer.new.self (on.taken ++ c.in-Some.input ∷ []) (into_iter_items c.next.new.self) (answers ++ c.step-answer.result ∷ [])
    (step-on n keeps join c.args.actor.now c.loop-input.actor c.step-answer.new.self on.taken c.in-Some.input answers c.step-answer.result on.runs on.goes c.step-answer.ensures)
    (last-ends n keeps join answers c.step-answer.result true on.goes (sym c.if-ends.ensures))))

pub loop-input-preserved : goal.loop-input-preserved
loop-input-preserved g c =
    let n = names g.K.Ord.cmp g.S.Ord.cmp in
    let keeps = g.Q.Predicate.keeps in
    let join = c.opaque_runs_join.ensures in
    let on = c.loop-input.invariant in
    let answers = c.loop-input.answers.items in
    record {
      taken = on.taken ++ c.in-Some.input ∷ [];
      split = append_assoc on.taken (c.in-Some.input ∷ []) (into_iter_items c.next.new.self) ∙ ap (λ left. on.taken ++ left) (sym c.in-Some.ensures.steps.0) ∙ on.split;
      runs =
          subst (λ told. Answered n keeps join c.args.actor.now (on.taken ++ c.in-Some.input ∷ []) told c.step-answer.new.self) (sym c.in_ok-push.ensures.items)
          (step-on n keeps join c.args.actor.now c.loop-input.actor c.step-answer.new.self on.taken c.in-Some.input answers c.step-answer.result on.runs on.goes c.step-answer.ensures);
      goes =
          subst (λ told. GoesOn n keeps join told) (sym c.in_ok-push.ensures.items)
          (last-ends n keeps join answers c.step-answer.result false on.goes (sym c.if-ends.ensures));
    }
