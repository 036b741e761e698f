use Rattle.std.proofs.Common.{◌≡◌, ap, sym, ◌∙◌, subst, not, ◌++◌, map}
use Rattle.std.proofs.lemmas.List.{append_assoc}
use Rattle.resolver_model_peer.specs.Parties.{parties}
use Rattle.resolver_model_peer.specs.Peer.{opening}
use Rattle.resolver_peer_step.specs.EngineSteps.{all_fed}
use Rattle.resolver_peer_step.specs.Said.{answer_of, codec}
use Rattle.resolver_core.specs.Taking.{Took, latest}
use Rattle.examples_laws.proofs.Feeding.{fed-well}
use Rattle.examples_laws.proofs.peers.feed.Goals as goal
use Rattle.examples_laws.proofs.peers.feed.Goals.{then-goes+in_ok-more+in_ok-append, else-goes}

pub returns : goal.returns
returns g c =
    let a = parties g.K.Ord.cmp g.S.Ord.cmp g.P.Ord.cmp in
    let words = codec g.K.Span.SIZE g.K.Span.bytes_of g.K.Span.read_from in
    let keeps = g.Q.Predicate.keeps in
    let laws = c.cores_take.ensures in
    let fore = c.in_ok-goes.ensures in
    let m = opening c.args.configuration c.args.priority_responses in
    let all = c.args.first.items ++ c.args.second.items ++ c.args.third.items in
    let rest = c.args.second.items ++ c.args.third.items in
    let took = fore.took m 0 c.new-core.ensures in
    let parted : Took a words keeps m 0 (c.args.first.items ++ (c.args.second.items ++ c.args.third.items)) c.if-goes.answers.items c.if-goes.core = elim c.if-goes.branch [
      | then-goes+in_ok-more+in_ok-append w ↦
          rw (w.core-is, w.answers-is, w.in_ok-append.ensures.items)
          (laws.both m 0 c.args.first.items rest c.in_ok-goes.answers.items w.in_ok-more.more.items c.step_each.new.core w.feed_on.new.core took (fore.goes ∙ ap not w.if-goes.true)
          (w.in_ok-more.ensures.took took.machine (latest words keeps 0 c.args.first.items) took.matches))
      | else-goes w ↦
          rw (w.core-is, w.answers-is)
          (laws.ends m 0 c.args.first.items rest c.in_ok-goes.answers.items c.step_each.new.core took (fore.goes ∙ ap not w.if-goes.false))
    ] in
    let whole = subst (λ inputs. Took a words keeps m 0 inputs c.if-goes.answers.items c.if-goes.core) (sym (append_assoc c.args.first.items c.args.second.items c.args.third.items)) parted in
    record {
      well =
          fed-well a words c.stays_awake.ensures c.args.configuration c.args.priority_responses (all_fed words keeps 0 all) (map answer_of c.if-goes.answers.items) c.if-goes.core
          (laws.well m 0 all c.if-goes.answers.items c.if-goes.core whole);
    }
