use Rattle.std.proofs.Common.{◌≡◌, ap, sym, ◌∙◌, subst, arith, true, false, [], ◌∷◌, ◌++◌, append-nil}
use Rattle.std.proofs.lemmas.List.{append_assoc, nil_from_length}
use Rattle.std.specs.List.{list_any}
use Rattle.std.specs.Vec.Iter.{into_iter_items}
use Rattle.resolver_model.specs.Steps.{stops}
use Rattle.resolver_model_peer.specs.Parties.{parties}
use Rattle.resolver_peer_step.specs.Said.{codec}
use Rattle.resolver_core.specs.Taking.{Took, latest}
use Rattle.examples_laws.proofs.Lists.{last-decides}
use Rattle.examples_laws.proofs.peers.step_each.Goals as goal

pub loop-input-init : goal.loop-input-init
loop-input-init g c =
    let a = parties g.K.Ord.cmp g.S.Ord.cmp g.P.Ord.cmp in
    let words = codec g.K.Span.SIZE g.K.Span.bytes_of g.K.Span.read_from in
    record {
      taken = [];
      split = c.into_iter-input-iterator.ensures.into_iter_gives.0;
      took = λ m moment matches. subst (λ told. Took a words g.Q.Predicate.keeps m moment [] told c.args.core.now) (sym c.new-answers.ensures.items) (c.cores_take.ensures.none m moment c.args.core.now matches);
      goes = ap (list_any stops) c.new-answers.ensures.items;
    }

pub returns-then-ends-clause-took : goal.returns-then-ends-clause-took
returns-then-ends-clause-took g c = λ m moment matches.
    let a = parties g.K.Ord.cmp g.S.Ord.cmp g.P.Ord.cmp in
    let words = codec g.K.Span.SIZE g.K.Span.bytes_of g.K.Span.read_from in
    let keeps = g.Q.Predicate.keeps in
    let laws = c.cores_take.ensures in
    let on = c.loop-input.invariant in
    let answers = c.loop-input.answers.items in
    let took = on.took m moment matches in
    let at = latest words keeps moment on.taken in
    let split = append_assoc on.taken (c.in-Some.input ∷ []) (into_iter_items c.next.new.self) ∙ ap (λ left. on.taken ++ left) (sym c.in-Some.ensures.steps.0) ∙ on.split in
    subst (λ told. Took a words keeps m moment c.args.inputs.items told c.step-answer.new.self) (sym c.in_ok-push.ensures.items)
    (subst (λ all. Took a words keeps m moment all (answers ++ c.step-answer.result ∷ []) c.step-answer.new.self) split
    (laws.ends m moment (on.taken ++ c.in-Some.input ∷ []) (into_iter_items c.next.new.self) (answers ++ c.step-answer.result ∷ []) c.step-answer.new.self
    (laws.both m moment on.taken (c.in-Some.input ∷ []) answers (c.step-answer.result ∷ []) c.loop-input.core c.step-answer.new.self took on.goes
    (laws.one took.machine at c.in-Some.input c.step-answer.result c.step-answer.new.self (c.step-answer.ensures.takes took.machine at took.matches)))
    (last-decides stops answers c.step-answer.result true on.goes (sym c.if-ends.ensures))))

pub loop-input-preserved : goal.loop-input-preserved
loop-input-preserved g c =
    let a = parties g.K.Ord.cmp g.S.Ord.cmp g.P.Ord.cmp in
    let words = codec g.K.Span.SIZE g.K.Span.bytes_of g.K.Span.read_from in
    let keeps = g.Q.Predicate.keeps in
    let laws = c.cores_take.ensures in
    let on = c.loop-input.invariant in
    let answers = c.loop-input.answers.items in
    record {
      taken = on.taken ++ c.in-Some.input ∷ [];
      split = append_assoc on.taken (c.in-Some.input ∷ []) (into_iter_items c.next.new.self) ∙ ap (λ left. on.taken ++ left) (sym c.in-Some.ensures.steps.0) ∙ on.split;
      took = λ m moment matches.
          let took = on.took m moment matches in
          let at = latest words keeps moment on.taken in
          subst (λ told. Took a words keeps m moment (on.taken ++ c.in-Some.input ∷ []) told c.step-answer.new.self) (sym c.in_ok-push.ensures.items)
          (laws.both m moment on.taken (c.in-Some.input ∷ []) answers (c.step-answer.result ∷ []) c.loop-input.core c.step-answer.new.self took on.goes
          (laws.one took.machine at c.in-Some.input c.step-answer.result c.step-answer.new.self (c.step-answer.ensures.takes took.machine at took.matches)));
      goes = ap (list_any stops) c.in_ok-push.ensures.items ∙ last-decides stops answers c.step-answer.result false on.goes (sym c.if-ends.ensures);
    }

pub returns-clause-took : goal.returns-clause-took
returns-clause-took g c = λ m moment matches.
    let a = parties g.K.Ord.cmp g.S.Ord.cmp g.P.Ord.cmp in
    let words = codec g.K.Span.SIZE g.K.Span.bytes_of g.K.Span.read_from in
    let on = c.loop-input.invariant in
    let nothing : into_iter_items c.loop-input.input-iterator ≡ [] = nil_from_length _ (omega (arith, c.in-None.ensures.steps)) in
    subst (λ inputs. Took a words g.Q.Predicate.keeps m moment inputs c.loop-input.answers.items c.loop-input.core) (sym (append-nil on.taken) ∙ ap (λ left. on.taken ++ left) (sym nothing) ∙ on.split) (on.took m moment matches)
