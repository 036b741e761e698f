use Rattle.std.proofs.Common.{◌≡◌, ◌∙◌, sym, true, false, [], rules}
use Rattle.resolver_priority_set.proofs.Forgotten.{Forgets-drop, Forgets-end, Forgets-keep, Forgets-start}
use Rattle.resolver_priority_set.proofs.priority_set.forget.Goals as goal

pub loop-pair-init : goal.loop-pair-init
loop-pair-init g c =
    let all : c.into_iter-pair-iterator.result ≡ c.args.ordered.now.keys = search rules in
    rw all (Forgets-start g.met.I.Ord.total g.F.Fn c.args.keep.now c.args.ordered.now.keys c.args.priorities.now.entries c.requires.before)

pub loop-pair-preserved-then-not-keeps : goal.loop-pair-preserved-then-not-keeps
loop-pair-preserved-then-not-keeps g c =
    let no : c.keeps.result ≡ false = search rules in
    Forgets-drop g.met.I.Ord.total g.F.Fn c.args.keep.now c.args.ordered.now.keys c.next.new.self c.in-Some.pair.now c.loop-pair.priorities.entries c.remove.new.self.entries
    (rw c.in-Some.ensures.steps at c.loop-pair.invariant) c.remove.ensures.updates.0 (λ test answers. sym (answers.by c.in-Some.pair.now.1 c.keeps.result c.keeps.ensures) ∙ no)

pub loop-pair-preserved-then-not-keeps-2 : goal.loop-pair-preserved-then-not-keeps-2
loop-pair-preserved-then-not-keeps-2 g c =
    let no : c.keeps.result ≡ false = search rules in
    Forgets-drop g.met.I.Ord.total g.F.Fn c.args.keep.now c.args.ordered.now.keys c.next.new.self c.in-Some.pair.now c.loop-pair.priorities.entries c.remove.new.self.entries
    (rw c.in-Some.ensures.steps at c.loop-pair.invariant) c.remove.ensures.updates.0 (λ test answers. sym (answers.by c.in-Some.pair.now.1 c.keeps.result c.keeps.ensures) ∙ no)

pub loop-pair-preserved : goal.loop-pair-preserved
loop-pair-preserved g c =
    let yes : c.keeps.result ≡ true = search rules in
    Forgets-keep g.met.I.Ord.total g.F.Fn c.args.keep.now c.args.ordered.now.keys c.next.new.self c.in-Some.pair.now c.loop-pair.priorities.entries
    (rw c.in-Some.ensures.steps at c.loop-pair.invariant) (λ test answers. sym (answers.by c.in-Some.pair.now.1 c.keeps.result c.keeps.ensures) ∙ yes)

pub returns : goal.returns
returns g c =
    let none : c.loop-pair.pair-iterator ≡ [] = search rules in
    let all = Forgets-end g.met.I.Ord.total g.F.Fn c.args.keep.now c.args.ordered.now.keys c.loop-pair.priorities.entries (rw none at c.loop-pair.invariant) in
    record { after = all.0; kept = all.1 }
