use Rattle.std.proofs.Common.{sym, ◌∙◌, true, false}
use Rattle.resolver_model_peer.specs.Parties.{parties}
use Rattle.resolver_peer_step.specs.Said.{codec, fed_of}
use Rattle.resolver_core.proofs.Asked.{stepped-answerable}
use Rattle.resolver_core.proofs.Stepped.{final-becomes, refused-becomes, refused-same, still-tied, taken-becomes, was-running, was-tied}
use Rattle.resolver_core.proofs.p2p.stepping.Core.step.Goals as goal
use Rattle.resolver_core.proofs.p2p.stepping.Core.step.Goals.{else-ends, else-is_final, then-ends, then-is_final}

pub invariant_of-self : goal.invariant_of-self
invariant_of-self g c =
    let a = parties g.K.Ord.cmp g.S.Ord.cmp g.P.Ord.cmp in
    let tied = was-tied a c.self.inside.parts c.self.inside.status c.in-Running.is c.self.invariant in
    let stepped = c.in-Ok.ensures.takes tied.0 0 tied.1 in
    (stepped.machine, stepped.agrees)

pub invariant_of-self-else-ends : goal.invariant_of-self-else-ends
invariant_of-self-else-ends g c =
    let a = parties g.K.Ord.cmp g.S.Ord.cmp g.P.Ord.cmp in
    let tied = was-tied a c.self.inside.parts c.self.inside.status c.in-Running.is c.self.invariant in
    let stepped = c.in-Ok.ensures.takes tied.0 0 tied.1 in
    still-tied a c.take.new.self c.self.inside.status c.in-Running.is (stepped.machine, stepped.agrees)

pub invariant_of-self-else-is_final : goal.invariant_of-self-else-is_final
invariant_of-self-else-is_final g c =
    let a = parties g.K.Ord.cmp g.S.Ord.cmp g.P.Ord.cmp in
    let words = codec g.K.Span.SIZE g.K.Span.bytes_of g.K.Span.read_from in
    let tied = was-tied a c.self.inside.parts c.self.inside.status c.in-Running.is c.self.invariant in
    let same = refused-same a words tied.0 (fed_of words g.Q.Predicate.keeps 0 c.args.input) c.new-effects.result.items c.take.new.effects.items c.take.new.self c.in-Err.fault
    (sym c.is_final.ensures ∙ c.if-is_final.false) (c.in-Err.ensures.takes tied.0 0 tied.1) in
    still-tied a c.take.new.self c.self.inside.status c.in-Running.is (tied.0, same.1)

pub returns-after-ends-clause-takes : goal.returns-after-ends-clause-takes
returns-after-ends-clause-takes g c = λ m moment matched.
    let a = parties g.K.Ord.cmp g.S.Ord.cmp g.P.Ord.cmp in
    let words = codec g.K.Span.SIZE g.K.Span.bytes_of g.K.Span.read_from in
    let was = was-running a c.self.inside.parts c.self.inside.status c.args.self.now m c.self.view_is c.in-Running.is matched in
    let becomes = taken-becomes a words g.Q.Predicate.keeps m moment c.args.input c.new-effects.result.items c.take.new.effects.items c.take.new.self was.1 c.new-effects.ensures.items (c.in-Ok.ensures.takes m moment was.0) in
    elim c.if-ends.branch [
      | then-ends w ↦ let at = becomes true (sym w.if-ends.true ∙ c.is_end-ends.ensures) in rw w.self-is at
      | else-ends w ↦ let at = becomes false (sym w.if-ends.false ∙ c.is_end-ends.ensures) in rw (w.self-is, c.in-Running.is) at
    ]

pub returns-after-is_final-clause-takes : goal.returns-after-is_final-clause-takes
returns-after-is_final-clause-takes g c = λ m moment matched.
    let a = parties g.K.Ord.cmp g.S.Ord.cmp g.P.Ord.cmp in
    let words = codec g.K.Span.SIZE g.K.Span.bytes_of g.K.Span.read_from in
    let was = was-running a c.self.inside.parts c.self.inside.status c.args.self.now m c.self.view_is c.in-Running.is matched in
    let fed = fed_of words g.Q.Predicate.keeps moment c.args.input in
    let taken = c.in-Err.ensures.takes m moment was.0 in
    elim c.if-is_final.branch [
      | then-is_final w ↦ rw w.self-is (final-becomes a words m fed c.new-effects.result.items c.take.new.effects.items c.take.new.self was.1 c.in-Err.fault (sym c.is_final.ensures ∙ w.if-is_final.true) taken)
      | else-is_final w ↦
          rw (w.self-is, c.in-Running.is) (refused-becomes a words m fed c.new-effects.result.items c.take.new.effects.items c.take.new.self was.1 c.in-Err.fault (sym c.is_final.ensures ∙ w.if-is_final.false) taken)
    ]

pub returns-after-ends-clause-answerable : goal.returns-after-ends-clause-answerable
returns-after-ends-clause-answerable g c =
    let a = parties g.K.Ord.cmp g.S.Ord.cmp g.P.Ord.cmp in
    let words = codec g.K.Span.SIZE g.K.Span.bytes_of g.K.Span.read_from in
    let tied = was-tied a c.self.inside.parts c.self.inside.status c.in-Running.is c.self.invariant in
    stepped-answerable a words tied.0 (fed_of words g.Q.Predicate.keeps 0 c.args.input) c.new-effects.result.items c.take.new.effects.items c.take.new.self c.new-effects.ensures.items
    (c.in-Ok.ensures.takes tied.0 0 tied.1)
