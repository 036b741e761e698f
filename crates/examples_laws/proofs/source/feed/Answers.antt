use Rattle.std.proofs.Common.{ap, sym, ◌∙◌, subst, not, ◌++◌, map}
use Rattle.std.proofs.lemmas.List.{append_assoc}
use Rattle.resolver_types.specs.Names.{names}
use Rattle.resolver_model_opaque.specs.OpaqueInputs.{input_of}
use Rattle.resolver_model_opaque.specs.OpaqueSteps.{answer_of}
use Rattle.examples_laws.proofs.SourceRuns.{Answered, run-ended, run-on}
use Rattle.examples_laws.proofs.source.feed.Goals as goal
use Rattle.examples_laws.proofs.source.feed.Goals.{then-goes+in_ok-more+in_ok-append, else-goes}

pub returns : goal.returns
returns g c =
    let n = names g.K.Ord.cmp g.S.Ord.cmp in
    let keeps = g.Q.Predicate.keeps in
    let join = c.opaque_runs_join.ensures in
    let fore = c.in_ok-goes.ensures in
    let all = c.args.first.items ++ c.args.second.items ++ c.args.third.items in
    let parted : Answered n keeps join c.new-actor.result (c.args.first.items ++ (c.args.second.items ++ c.args.third.items)) c.if-goes.answers.items c.if-goes.actor = elim c.if-goes.branch [
      | then-goes+in_ok-more+in_ok-append w ↦
          rw (w.actor-is, w.answers-is, w.in_ok-append.ensures.items)
          (run-on n keeps join c.new-actor.result c.step_each.new.actor w.feed_on.new.actor c.args.first.items (c.args.second.items ++ c.args.third.items) c.in_ok-goes.answers.items w.in_ok-more.more.items fore.runs (fore.goes ∙ ap not w.if-goes.true) w.in_ok-more.ensures.runs)
      | else-goes w ↦
          rw (w.actor-is, w.answers-is)
          (run-ended n keeps join c.new-actor.result c.step_each.new.actor c.args.first.items (c.args.second.items ++ c.args.third.items) c.in_ok-goes.answers.items fore.runs (fore.goes ∙ ap not w.if-goes.false))
    ] in
    let runs = subst (λ inputs. Answered n keeps join c.new-actor.result inputs c.if-goes.answers.items c.if-goes.actor) (sym (append_assoc c.args.first.items c.args.second.items c.args.third.items)) parted in
    record {
      demand =
          c.opaque_keeps_demand.ensures c.new-actor.result (map (input_of keeps) all) (map answer_of c.if-goes.answers.items) c.if-goes.actor (c.opaque_inputs_are_lawful.ensures all) runs
          c.args.delay 0 c.new-actor.ensures;
    }
