use Rattle.std.proofs.Common.{◌≡◌, ap, ◌∙◌, not}
use Rattle.resolver_peer_step.specs.Said.{codec}
use Rattle.resolver_core.specs.Taking.{latest}
use Rattle.examples_laws.proofs.peers.feed_on.Goals as goal
use Rattle.examples_laws.proofs.peers.feed_on.Goals.{then-goes+in_ok-last+in_ok-append, else-goes}

pub returns : goal.returns
returns g c =
    let words = codec g.K.Span.SIZE g.K.Span.bytes_of g.K.Span.read_from in
    let laws = c.cores_take.ensures in
    let fore = c.in_ok-goes.ensures in
    record {
      took = λ m moment matches. elim c.if-goes.branch [
        | then-goes+in_ok-last+in_ok-append w ↦
            let took = fore.took m moment matches in
            rw (w.core-is, w.answers-is, w.in_ok-append.ensures.items)
            (laws.both m moment c.args.inputs.items c.args.more.items c.in_ok-goes.answers.items w.in_ok-last.last.items c.step_each.new.core w.run.new.self took (fore.goes ∙ ap not w.if-goes.true)
            (w.in_ok-last.ensures.took took.machine (latest words g.Q.Predicate.keeps moment c.args.inputs.items) took.matches))
        | else-goes w ↦
            rw (w.core-is, w.answers-is)
            (laws.ends m moment c.args.inputs.items c.args.more.items c.in_ok-goes.answers.items c.step_each.new.core (fore.took m moment matches) (fore.goes ∙ ap not w.if-goes.false))
      ];
    }
