use Rattle.std.proofs.Common.{◌∙◌, ap, refl, Some}
use Rattle.std.proofs.lemmas.Cmp.{eq_by_cmp_equiv}
use Rattle.resolver_types.specs.Names.{names}
use Rattle.resolver_model_opaque.specs.Opaque.{quiet, retry}
use Rattle.resolver_opaque_actor.specs.OpaqueActor.{machine_of}
use Rattle.resolver_model_opaque.proofs.OpaqueGoing.{quiet_goes, nothing-found, found-key, retry_goes, agree-waited, asked-row, asked-stage, idle-free_number, idle-row, row-found, waited_goes}
use Rattle.resolver_opaque_actor.proofs.actor.Actor.fetched.Goals as goal

pub returns-in_default : goal.returns-in_default
returns-in_default g c =
    let none = nothing-found (names g.K.Ord.cmp g.S.Ord.cmp) c.self.inside.demand c.self.inside.stages.entries c.self.invariant.agree c.self.inside.stages.next_attempt c.self.inside.delay c.self.inside.status c.args.attempt c.in_default.ensures in
    rw (← c.self.view_is, none) (quiet_goes _ c.args.effects.now.items)

pub wait-requires-clause-asked : goal.wait-requires-clause-asked
wait-requires-clause-asked g c =
    let f = found-key (names g.K.Ord.cmp g.S.Ord.cmp) c.self.inside.demand c.self.inside.stages.entries c.self.invariant.agree c.self.inside.stages.next_attempt c.self.inside.delay c.self.inside.status (eq_by_cmp_equiv g.met.K.Ord.total) c.args.attempt c.in_ok-key.key (ap Some (c.requires.keys_clone _ _ c.in_ok-key.ensures.cases) ∙ c.in-Some.ensures) in
    asked-stage (names g.K.Ord.cmp g.S.Ord.cmp) c.self.inside.demand c.self.inside.stages.entries.keys c.self.invariant.agree c.in_ok-key.key (asked-row _ f.row f.at_key f.asked)

pub wait-requires-clause-idle : goal.wait-requires-clause-idle
wait-requires-clause-idle g c =
    let f = found-key (names g.K.Ord.cmp g.S.Ord.cmp) c.self.inside.demand c.self.inside.stages.entries c.self.invariant.agree c.self.inside.stages.next_attempt c.self.inside.delay c.self.inside.status (eq_by_cmp_equiv g.met.K.Ord.total) c.args.attempt c.in_ok-key.key (ap Some (c.requires.keys_clone _ _ c.in_ok-key.ensures.cases) ∙ c.in-Some.ensures) in
    idle-free_number (names g.K.Ord.cmp g.S.Ord.cmp) c.self.inside.demand c.self.inside.stages.entries.keys c.self.invariant.agree c.in_ok-key.key (idle-row _ f.row f.at_key f.idle)

pub invariant_of-self : goal.invariant_of-self
invariant_of-self g c = record {
  delay = c.self.invariant.delay;
  agree = agree-waited (names g.K.Ord.cmp g.S.Ord.cmp) c.self.inside.demand c.self.inside.stages c.wait.new.self c.in_ok-key.key _ c.wait.result c.wait.ensures.ok c.wait.ensures.err c.self.invariant.agree;
}

pub hand_out-requires-clause-asked : goal.hand_out-requires-clause-asked
hand_out-requires-clause-asked g c =
    let f = found-key (names g.K.Ord.cmp g.S.Ord.cmp) c.self.inside.demand c.self.inside.stages.entries c.self.invariant.agree c.self.inside.stages.next_attempt c.self.inside.delay c.self.inside.status (eq_by_cmp_equiv g.met.K.Ord.total) c.args.attempt c.in_ok-key.key (ap Some (c.requires.keys_clone _ _ c.in_ok-key.ensures.cases) ∙ c.in-Some.ensures) in
    rw (← c.self.view_is) (asked-row _ f.row f.at_key f.asked)

pub returns-in-None : goal.returns-in-None
returns-in-None g c =
    let f = found-key (names g.K.Ord.cmp g.S.Ord.cmp) c.self.inside.demand c.self.inside.stages.entries c.self.invariant.agree c.self.inside.stages.next_attempt c.self.inside.delay c.self.inside.status (eq_by_cmp_equiv g.met.K.Ord.total) c.args.attempt c.in_ok-key.key (ap Some (c.requires.keys_clone _ _ c.in_ok-key.ensures.cases) ∙ c.in-Some.ensures) in
    rw (← c.self.view_is, c.in-None.is, f.at_attempt)
    (waited_goes (names g.K.Ord.cmp g.S.Ord.cmp) c.self.inside.demand c.self.inside.stages c.wait.new.self c.in_ok-key.key _ c.wait.result c.wait.ensures.ok (quiet (retry (names g.K.Ord.cmp g.S.Ord.cmp) (machine_of c.self.inside) c.args.now c.in_ok-key.key f.row.subscribers)) c.args.effects.now.items c.self.inside.delay c.self.inside.status c.wait.ensures.only
    (retry_goes (names g.K.Ord.cmp g.S.Ord.cmp) c.self.inside.demand c.self.inside.stages.entries c.self.invariant.agree c.self.inside.stages.next_attempt c.self.inside.delay c.self.inside.status c.in_ok-key.key f.row c.args.now _ c.args.effects.now.items _ f.at_key refl refl))

pub returns-in-Some-value : goal.returns-in-Some-value
returns-in-Some-value g c =
    let f = found-key (names g.K.Ord.cmp g.S.Ord.cmp) c.self.inside.demand c.self.inside.stages.entries c.self.invariant.agree c.self.inside.stages.next_attempt c.self.inside.delay c.self.inside.status (eq_by_cmp_equiv g.met.K.Ord.total) c.args.attempt c.in_ok-key.key (ap Some (c.requires.keys_clone _ _ c.in_ok-key.ensures.cases) ∙ c.in-Some.ensures) in
    let goes = rw (← c.self.view_is) at c.hand_out.ensures in
    rw (← c.self.view_is, c.in-Some-value.is, f.at_attempt) (row-found _ f.row _ f.at_key goes)
