use Rattle.std.proofs.Common.{◌≡◌, ◌∙◌, ap, sym, subst, rules, Err, IfSome}
use Rattle.std.proofs.lemmas.Cmp.{eq_by_cmp_equiv}
use Rattle.resolver_types.specs.Names.{names}
use Rattle.resolver_model_opaque.specs.Opaque.{row_of, start_again, start_all, waiting_by_due}
use Rattle.resolver_model_opaque.specs.OpaqueSteps.{onto, Goes}
use Rattle.resolver_model_opaque.proofs.OpaqueGoing.{quiet_goes}
use Rattle.resolver_model_opaque.proofs.ByDue.{found-first, found-none, one-started, refused-goes, shorter, some-left}
use Rattle.resolver_opaque_actor.proofs.actor.Actor.start_due.Goals as goal

pub start_again-requires-clause-own : goal.start_again-requires-clause-own
start_again-requires-clause-own g c =
    let n = names g.K.Ord.cmp g.S.Ord.cmp in
    let f = found-first n (eq_by_cmp_equiv g.met.K.Ord.total) c.args.now c.self.inside.demand c.self.inside.stages.entries.keys c.self.invariant.agree c.loop-first.self (ap (λ m. m.rows) c.self.view_is) c.in-Some.first.now c.in-Some.ensures in
    rw (c.requires.keys_clone _ _ c.in_ok-key.ensures.cases) f.1.own

pub start_again-requires-clause-idle : goal.start_again-requires-clause-idle
start_again-requires-clause-idle g c =
    let n = names g.K.Ord.cmp g.S.Ord.cmp in
    let f = found-first n (eq_by_cmp_equiv g.met.K.Ord.total) c.args.now c.self.inside.demand c.self.inside.stages.entries.keys c.self.invariant.agree c.loop-first.self (ap (λ m. m.rows) c.self.view_is) c.in-Some.first.now c.in-Some.ensures in
    rw (c.requires.keys_clone _ _ c.in_ok-key.ensures.cases) f.1.idle

pub loop-first-smaller : goal.loop-first-smaller
loop-first-smaller g c =
    let n = names g.K.Ord.cmp g.S.Ord.cmp in
    let f = found-first n (eq_by_cmp_equiv g.met.K.Ord.total) c.args.now c.self.inside.demand c.self.inside.stages.entries.keys c.self.invariant.agree c.loop-first.self (ap (λ m. m.rows) c.self.view_is) c.in-Some.first.now c.in-Some.ensures in
    let goes = rw (c.requires.keys_clone _ _ c.in_ok-key.ensures.cases) at c.in_ok-start_again.ensures in
    let s = one-started n (eq_by_cmp_equiv g.met.K.Ord.total) c.args.now c.loop-first.self c.start_again.new.self f.0 c.in-Some.first.now c.loop-first.effects.items c.start_again.new.effects.items f.1 goes in
    shorter (waiting_by_due c.args.now c.start_again.new.self.rows) (waiting_by_due c.args.now c.loop-first.self.rows) f.1.rest f.1.first s.1 f.1.list

pub loop-first-preserved : goal.loop-first-preserved
loop-first-preserved g c =
    let n = names g.K.Ord.cmp g.S.Ord.cmp in
    let f = found-first n (eq_by_cmp_equiv g.met.K.Ord.total) c.args.now c.self.inside.demand c.self.inside.stages.entries.keys c.self.invariant.agree c.loop-first.self (ap (λ m. m.rows) c.self.view_is) c.in-Some.first.now c.in-Some.ensures in
    let goes = rw (c.requires.keys_clone _ _ c.in_ok-key.ensures.cases) at c.in_ok-start_again.ensures in
    let s = one-started n (eq_by_cmp_equiv g.met.K.Ord.total) c.args.now c.loop-first.self c.start_again.new.self f.0 c.in-Some.first.now c.loop-first.effects.items c.start_again.new.effects.items f.1 goes in
    record {
      rest = s.0 ∙ c.loop-first.invariant.rest;
      some = λ more. c.loop-first.invariant.some (some-left n (eq_by_cmp_equiv g.met.K.Ord.total) c.args.now c.loop-first.self c.in-Some.first.now f.1);
    }

pub returns-in_err-key-clause-memory : goal.returns-in_err-key-clause-memory
returns-in_err-key-clause-memory g c = λ is.
    let n = names g.K.Ord.cmp g.S.Ord.cmp in
    let f = found-first n (eq_by_cmp_equiv g.met.K.Ord.total) c.args.now c.self.inside.demand c.self.inside.stages.entries.keys c.self.invariant.agree c.loop-first.self (ap (λ m. m.rows) c.self.view_is) c.in-Some.first.now c.in-Some.ensures in
    c.loop-first.invariant.some (some-left n (eq_by_cmp_equiv g.met.K.Ord.total) c.args.now c.loop-first.self c.in-Some.first.now f.1)

pub returns-in_err-start_again-clause-goes : goal.returns-in_err-start_again-clause-goes
returns-in_err-start_again-clause-goes g c =
    let n = names g.K.Ord.cmp g.S.Ord.cmp in
    let f = found-first n (eq_by_cmp_equiv g.met.K.Ord.total) c.args.now c.self.inside.demand c.self.inside.stages.entries.keys c.self.invariant.agree c.loop-first.self (ap (λ m. m.rows) c.self.view_is) c.in-Some.first.now c.in-Some.ensures in
    let refused : c.from_residual-in_err-start_again.result ≡ Err c.in_err-start_again.field-0.0 = search rules in
    let goes = subst (λ k. IfSome (row_of n c.loop-first.self k) (λ row. Goes (start_again n c.loop-first.self k row.subscribers) c.loop-first.effects.items c.start_again.new.effects.items c.start_again.new.self (Err c.in_err-start_again.field-0.0))) (c.requires.keys_clone _ _ c.in_ok-key.ensures.cases) c.in_err-start_again.ensures in
    rw refused
    (refused-goes n (eq_by_cmp_equiv g.met.K.Ord.total) c.args.now c.loop-first.self c.in-Some.first.now f.1 c.loop-first.effects.items c.start_again.new.effects.items c.args.effects.now.items c.start_again.new.effects.items c.start_again.new.self c.start_again.new.self _ c.in_err-start_again.field-0.0 c.loop-first.invariant.rest goes)

pub returns-in_err-start_again-clause-memory : goal.returns-in_err-start_again-clause-memory
returns-in_err-start_again-clause-memory g c = λ is.
    let n = names g.K.Ord.cmp g.S.Ord.cmp in
    let f = found-first n (eq_by_cmp_equiv g.met.K.Ord.total) c.args.now c.self.inside.demand c.self.inside.stages.entries.keys c.self.invariant.agree c.loop-first.self (ap (λ m. m.rows) c.self.view_is) c.in-Some.first.now c.in-Some.ensures in
    c.loop-first.invariant.some (some-left n (eq_by_cmp_equiv g.met.K.Ord.total) c.args.now c.loop-first.self c.in-Some.first.now f.1)

pub returns-clause-goes : goal.returns-clause-goes
returns-clause-goes g c =
    let n = names g.K.Ord.cmp g.S.Ord.cmp in
    let none = found-none n (eq_by_cmp_equiv g.met.K.Ord.total) c.args.now c.self.inside.demand c.self.inside.stages.entries.keys c.self.invariant.agree c.loop-first.self (ap (λ m. m.rows) c.self.view_is) c.in_default.ensures in
    sym c.loop-first.invariant.rest
    ∙ (ap (λ qs. onto c.loop-first.effects.items (start_all n c.loop-first.self qs)) none ∙ quiet_goes c.loop-first.self c.loop-first.effects.items)
