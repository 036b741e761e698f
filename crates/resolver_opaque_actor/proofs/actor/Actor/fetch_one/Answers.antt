use Rattle.std.proofs.Common.{sym, subst}
use Rattle.resolver_types.specs.Names.{names}
use Rattle.resolver_model_opaque.specs.OpaqueTables.{machine_with}
use Rattle.resolver_model_opaque.specs.Opaque.{fetch_one}
use Rattle.resolver_model_opaque.specs.OpaqueInputs.{item_of}
use Rattle.resolver_model_opaque.specs.OpaqueSteps.{Goes}
use Rattle.resolver_model_opaque.proofs.OpaqueGoing.{fetch_present_goes, agree-attached, absent-row}
use Rattle.resolver_opaque_actor.proofs.actor.Actor.fetch_one.Goals as goal

pub invariant_of-self-in_default : goal.invariant_of-self-in_default
invariant_of-self-in_default g c = record {
  delay = c.self.invariant.delay;
  agree = agree-attached (names g.K.Ord.cmp g.S.Ord.cmp) c.self.inside.demand c.self.inside.stages.entries c.self.invariant.agree c.self.inside.stages.next_attempt c.self.inside.delay c.self.inside.status (c.args.item.key, c.args.item.subscribers) c.attach.new.self (sym (rw c.in_default.is at c.in_ok-subscribers.ensures.there)) (rw c.in_default.is at c.in_ok-subscribers.ensures.ok);
}

pub returns-in_default : goal.returns-in_default
returns-in_default g c =
    rw (← c.self.view_is, rw c.in_default.is at c.in_ok-subscribers.ensures.ok)
    (fetch_present_goes (names g.K.Ord.cmp g.S.Ord.cmp) c.self.inside.demand c.self.inside.stages.entries c.self.invariant.agree c.self.inside.stages.next_attempt c.self.inside.delay c.self.inside.status (item_of c.args.item) c.args.effects.now.items (sym (rw c.in_default.is at c.in_ok-subscribers.ensures.there)))

pub start_new-requires-clause-absent : goal.start_new-requires-clause-absent
start_new-requires-clause-absent g c =
    let back = rw c.in-Some.is at c.in_ok-subscribers.ensures.ok in
    rw back.1 (absent-row (names g.K.Ord.cmp g.S.Ord.cmp) c.self.inside.demand c.self.inside.stages.entries c.self.invariant.agree c.self.inside.stages.next_attempt c.self.inside.delay c.self.inside.status c.args.item.key (sym (rw c.in-Some.is at c.in_ok-subscribers.ensures.there)))

pub returns : goal.returns
returns g c =
    let back = rw c.in-Some.is at c.in_ok-subscribers.ensures.ok in
    let absent = absent-row (names g.K.Ord.cmp g.S.Ord.cmp) c.self.inside.demand c.self.inside.stages.entries c.self.invariant.agree c.self.inside.stages.next_attempt c.self.inside.delay c.self.inside.status c.args.item.key (sym (rw c.in-Some.is at c.in_ok-subscribers.ensures.there)) in
    let started = rw (back.1, back.0) at c.start_new.ensures in
    rw (← c.self.view_is)
    (subst (λ row. Goes (fetch_one (names g.K.Ord.cmp g.S.Ord.cmp) (machine_with c.self.inside.demand c.self.inside.stages.entries c.self.inside.stages.next_attempt c.self.inside.delay c.self.inside.status) (item_of c.args.item) row) c.args.effects.now.items c.start_new.new.effects.items c.start_new.new.self c.start_new.result) (sym absent) started)
