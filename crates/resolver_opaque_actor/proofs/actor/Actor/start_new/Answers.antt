use Rattle.std.proofs.Common.{None, ◌≡◌, ap, sym, refl, rules, subst}
use Rattle.std.proofs.lemmas.Cmp.{eq_by_cmp_equiv}
use Rattle.resolver_types.specs.Names.{names}
use Rattle.resolver_model_opaque.specs.Opaque.{row_of}
use Rattle.resolver_model_opaque.proofs.OpaqueGoing.{absent-first, absent-second, start_new_goes, agree-started, agree-undone, goes-told}
use Rattle.resolver_opaque_actor.proofs.actor.Actor.start_new.Goals as goal

pub ask-requires-clause-absent : goal.ask-requires-clause-absent
ask-requires-clause-absent g c =
    let none = absent-second (names g.K.Ord.cmp g.S.Ord.cmp) c.self.inside.demand c.self.inside.stages.entries c.self.invariant.agree c.self.inside.stages.next_attempt c.self.inside.delay c.self.inside.status c.args.key (subst (λ m. row_of (names g.K.Ord.cmp g.S.Ord.cmp) m c.args.key ≡ None) (sym c.self.view_is) c.requires.absent) in
    rw (c.requires.clones _ _ c.in_ok-tracked.ensures.cases, none) refl

pub insert_new-requires-clause-absent : goal.insert_new-requires-clause-absent
insert_new-requires-clause-absent g c =
    let none = absent-first (names g.K.Ord.cmp g.S.Ord.cmp) c.self.inside.demand c.self.inside.stages.entries c.self.invariant.agree c.self.inside.stages.next_attempt c.self.inside.delay c.self.inside.status c.args.key (subst (λ m. row_of (names g.K.Ord.cmp g.S.Ord.cmp) m c.args.key ≡ None) (sym c.self.view_is) c.requires.absent) in
    rw (c.requires.clones _ _ c.in_ok-wanted.ensures.cases, none) refl

pub invariant_of-self-in-Ok : goal.invariant_of-self-in-Ok
invariant_of-self-in-Ok g c =
    let wanted = rw (c.requires.clones _ _ c.in_ok-wanted.ensures.cases) at c.in_ok-insert_new.ensures.ok in
    let tracked = rw (c.requires.clones _ _ c.in_ok-tracked.ensures.cases) at (ap (λ s. s.entries) c.in-Ok.ensures.ok) in
    record {
      delay = c.self.invariant.delay;
      agree = agree-started (names g.K.Ord.cmp g.S.Ord.cmp) c.self.inside.demand c.self.inside.stages.entries c.self.invariant.agree c.self.inside.stages.next_attempt c.self.inside.delay c.self.inside.status (eq_by_cmp_equiv g.met.K.Ord.total) c.args.key c.args.subscribers _ c.insert_new.new.self c.ask.new.self.entries (subst (λ m. row_of (names g.K.Ord.cmp g.S.Ord.cmp) m c.args.key ≡ None) (sym c.self.view_is) c.requires.absent) wanted tracked;
    }

pub invariant_of-self-in-Err-1 : goal.invariant_of-self-in-Err-1
invariant_of-self-in-Err-1 g c =
    let wanted = rw (c.requires.clones _ _ c.in_ok-wanted.ensures.cases) at c.in_ok-insert_new.ensures.ok in
    record {
      delay = c.self.invariant.delay;
      agree = agree-undone (names g.K.Ord.cmp g.S.Ord.cmp) c.self.inside.demand c.self.inside.stages.entries c.self.invariant.agree c.self.inside.stages.next_attempt c.self.inside.delay c.self.inside.status (eq_by_cmp_equiv g.met.K.Ord.total) c.args.key c.args.subscribers c.insert_new.new.self c.remove.new.self c.ask.new.self.entries (subst (λ m. row_of (names g.K.Ord.cmp g.S.Ord.cmp) m c.args.key ≡ None) (sym c.self.view_is) c.requires.absent) wanted c.remove.ensures.after (ap (λ s. s.entries) c.in-Err.ensures.err);
    }

pub returns-in-Ok : goal.returns-in-Ok
returns-in-Ok g c =
    let wanted = rw (c.requires.clones _ _ c.in_ok-wanted.ensures.cases) at c.in_ok-insert_new.ensures.ok in
    let tracked = rw (c.requires.clones _ _ c.in_ok-tracked.ensures.cases) at (ap (λ s. s.entries) c.in-Ok.ensures.ok) in
    rw (← c.self.view_is)
    (goes-told _ c.args.effects.now.items c.tell.new.effects.items _ c.tell.result _ c.tell.ensures.told c.tell.ensures.only (λ told.
    start_new_goes (names g.K.Ord.cmp g.S.Ord.cmp) c.self.inside.demand c.self.inside.stages.entries c.self.invariant.agree c.self.inside.stages.next_attempt c.self.inside.delay c.self.inside.status c.args.key c.args.subscribers c.args.effects.now.items c.tell.new.effects.items c.insert_new.new.self c.ask.new.self.entries c.in-Ok.attempt c.ask.new.self.next_attempt
    (subst (λ m. row_of (names g.K.Ord.cmp g.S.Ord.cmp) m c.args.key ≡ None) (sym c.self.view_is) c.requires.absent) c.in-Ok.ensures.attempt (search rules) (ap (λ s. s.next_attempt) c.in-Ok.ensures.ok) wanted (rw c.in-Ok.ensures.attempt tracked) told))
