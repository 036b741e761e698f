use Rattle.std.proofs.Common.{◌≡◌, sym, ◌∙◌, subst, rules, arith, []}
use Rattle.std.proofs.lemmas.List.{nil_from_length}
use Rattle.std.specs.Vec.Iter.{into_iter_items}
use Rattle.std.specs.Cmp.{IsTotalOrder}
use Rattle.resolver_types.specs.Names.{names}
use Rattle.resolver_model.specs.Lawful.{AnswersAlike}
use Rattle.resolver_model_peer.specs.Parties.{parties}
use Rattle.resolver_peer_step.specs.Said.{codec}
use Rattle.resolver_core.specs.Taking.{Took, latest}
use Rattle.resolver_core.proofs.Running.{TookOn, runs-all, runs-first, runs-last, runs-next}
use Rattle.resolver_core.proofs.Taking.{took-well}
use Rattle.resolver_core.proofs.p2p.stepping.Core.run.Given as given
use Rattle.resolver_core.proofs.p2p.stepping.Core.run.Goals as goal

-- the order of the keys
keys : (g : given.Over) → IsTotalOrder g.K.Ord.cmp
keys g = g.met.K.Ord.total

-- a predicate answers alike on equal keys and subscribers
alike : (g : given.Over) (q : _) → AnswersAlike (names g.K.Ord.cmp g.S.Ord.cmp) (g.Q.Predicate.keeps q)
alike g q k l s t same_key same_subscriber =
    let by_key = g.met.K.Ord in
    sym (g.met.Q.Predicate.alike q k l s t (by_key.matches_eq k l ∙ same_key) (g.met.S.Ord.matches_eq s t ∙ same_subscriber))

pub loop-input-init : goal.loop-input-init
loop-input-init g c =
    let a = parties g.K.Ord.cmp g.S.Ord.cmp g.P.Ord.cmp in
    let words = codec g.K.Span.SIZE g.K.Span.bytes_of g.K.Span.read_from in
    record {
      took = λ m moment matched.
          runs-first a words g.Q.Predicate.keeps m moment c.args.inputs.items (into_iter_items c.into_iter-input-iterator.result) c.in_ok-answers.answers.items c.args.self.now
          c.into_iter-input-iterator.ensures.into_iter_gives.0 c.in_ok-answers.ensures.items matched;
      room = search rules;
    }

pub loop-input-preserved : goal.loop-input-preserved
loop-input-preserved g c =
    let a = parties g.K.Ord.cmp g.S.Ord.cmp g.P.Ord.cmp in
    let words = codec g.K.Span.SIZE g.K.Span.bytes_of g.K.Span.read_from in
    record {
      took = λ m moment matched.
          let on = c.loop-input.invariant.took m moment matched in
          subst (λ answers. TookOn a words g.Q.Predicate.keeps m moment c.args.inputs.items (into_iter_items c.next.new.self) answers c.step-answer.new.self) (sym c.push_reserved.ensures.items)
          (runs-next a words g.Q.Predicate.keeps m moment c.args.inputs.items (into_iter_items c.loop-input.input-iterator) (into_iter_items c.next.new.self) c.in-Some.input c.loop-input.answers.items
          c.step-answer.result c.loop-input.self c.step-answer.new.self c.in-Some.ensures.steps.0 on (c.step-answer.ensures.takes on.took.machine (latest words g.Q.Predicate.keeps moment on.taken) on.took.matches) (sym c.if-stops.ensures));
      room = search rules;
    }

pub returns-then-stops-clause-took : goal.returns-then-stops-clause-took
returns-then-stops-clause-took g c = λ m moment matched.
    let a = parties g.K.Ord.cmp g.S.Ord.cmp g.P.Ord.cmp in
    let words = codec g.K.Span.SIZE g.K.Span.bytes_of g.K.Span.read_from in
    let on = c.loop-input.invariant.took m moment matched in
    subst (λ answers. Took a words g.Q.Predicate.keeps m moment c.args.inputs.items answers c.step-answer.new.self) (sym c.push_reserved.ensures.items)
    (runs-last a words g.Q.Predicate.keeps m moment c.args.inputs.items (into_iter_items c.loop-input.input-iterator) (into_iter_items c.next.new.self) c.in-Some.input c.loop-input.answers.items
    c.step-answer.result c.loop-input.self c.step-answer.new.self c.in-Some.ensures.steps.0 on (c.step-answer.ensures.takes on.took.machine (latest words g.Q.Predicate.keeps moment on.taken) on.took.matches) (sym c.if-stops.ensures))

pub returns-clause-took : goal.returns-clause-took
returns-clause-took g c = λ m moment matched.
    let a = parties g.K.Ord.cmp g.S.Ord.cmp g.P.Ord.cmp in
    let words = codec g.K.Span.SIZE g.K.Span.bytes_of g.K.Span.read_from in
    let nothing : into_iter_items c.loop-input.input-iterator ≡ [] = nil_from_length _ (omega (arith, c.in-None.ensures.steps)) in
    runs-all a words g.Q.Predicate.keeps m moment c.args.inputs.items (into_iter_items c.loop-input.input-iterator) c.loop-input.answers.items c.loop-input.self nothing
    (c.loop-input.invariant.took m moment matched)

pub returns-then-stops-clause-runs : goal.returns-then-stops-clause-runs
returns-then-stops-clause-runs g c = λ m moment matched.
    let a = parties g.K.Ord.cmp g.S.Ord.cmp g.P.Ord.cmp in
    let words = codec g.K.Span.SIZE g.K.Span.bytes_of g.K.Span.read_from in
    took-well a words g.Q.Predicate.keeps (alike g) (keys g) g.met.S.Ord.total m moment c.args.inputs.items _ _ (returns-then-stops-clause-took g c m moment matched)

pub returns-clause-runs : goal.returns-clause-runs
returns-clause-runs g c = λ m moment matched.
    let a = parties g.K.Ord.cmp g.S.Ord.cmp g.P.Ord.cmp in
    let words = codec g.K.Span.SIZE g.K.Span.bytes_of g.K.Span.read_from in
    took-well a words g.Q.Predicate.keeps (alike g) (keys g) g.met.S.Ord.total m moment c.args.inputs.items _ _ (returns-clause-took g c m moment matched)
