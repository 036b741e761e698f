use Rattle.std.proofs.Common.{ap, ◌∙◌, not}
use Rattle.resolver_types.specs.Names.{names}
use Rattle.examples_laws.proofs.SourceRuns.{run-ended, run-on}
use Rattle.examples_laws.proofs.source.feed_on.Goals as goal
use Rattle.examples_laws.proofs.source.feed_on.Goals.{then-goes+in_ok-last+in_ok-append, else-goes}

pub returns : goal.returns
returns g c =
    let n = names g.K.Ord.cmp g.S.Ord.cmp in
    let keeps = g.Q.Predicate.keeps in
    let join = c.opaque_runs_join.ensures in
    let fore = c.in_ok-goes.ensures in
    record {
      runs = elim c.if-goes.branch [
        | then-goes+in_ok-last+in_ok-append w ↦
            rw (w.actor-is, w.answers-is, w.in_ok-append.ensures.items)
            (run-on n keeps join c.args.actor.now c.step_each.new.actor w.run.new.self c.args.inputs.items c.args.more.items c.in_ok-goes.answers.items w.in_ok-last.last.items fore.runs (fore.goes ∙ ap not w.if-goes.true) w.in_ok-last.ensures.runs)
        | else-goes w ↦
            rw (w.actor-is, w.answers-is)
            (run-ended n keeps join c.args.actor.now c.step_each.new.actor c.args.inputs.items c.args.more.items c.in_ok-goes.answers.items fore.runs (fore.goes ∙ ap not w.if-goes.false))
      ];
    }
