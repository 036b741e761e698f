use Rattle.std.proofs.Common.{Some, ap, ◌++◌, ◌≡◌}
use Rattle.std.proofs.lemmas.Cmp.{eq_by_cmp_equiv}
use Rattle.resolver_types.specs.Names.{names}
use Rattle.resolver_model_opaque.specs.Opaque.{retain}
use Rattle.resolver_model_opaque.specs.OpaqueTables.{machine_with}
use Rattle.resolver_opaque_actor.specs.OpaqueActor.{machine_of}
use Rattle.resolver_model_opaque.specs.OpaqueFound.{each_called_off}
use Rattle.resolver_model_opaque.proofs.Agrees.{agree-kept}
use Rattle.resolver_model_opaque.proofs.OpaqueGoing.{retain_goes, goes-told}
use Rattle.resolver_opaque_actor.proofs.actor.Actor.retain.Goals as goal

pub invariant_of-self-2 : goal.invariant_of-self-2
invariant_of-self-2 g c =
    let keep = g.Q.Predicate.keeps c.args.keep.now in
    record {
      delay = c.self.invariant.delay;
      agree = rw (c.forget_each.ensures, c.in_ok-emptied.ensures.ok, c.in_ok-emptied.ensures.emptied) (agree-kept (names g.K.Ord.cmp g.S.Ord.cmp) (eq_by_cmp_equiv g.met.K.Ord.total) keep c.self.inside.demand c.self.inside.stages.entries.keys c.self.invariant.agree);
    }

pub returns : goal.returns
returns g c =
    let keep = g.Q.Predicate.keeps c.args.keep.now in
    rw (← c.self.view_is, ap (λ s. s.next_attempt) c.forget_each.ensures)
    (goes-told (Some (retain (machine_of c.self.inside) keep)) c.args.effects.now.items c.call_off_each-called_off.new.effects.items (machine_with c.retain.new.self c.forget_each.new.stages.entries c.self.inside.stages.next_attempt c.self.inside.delay c.self.inside.status) c.call_off_each-called_off.result (c.call_off_each-called_off.new.effects.items ≡ c.args.effects.now.items ++ each_called_off g.K.Ord.cmp c.self.inside.stages.entries.keys c.as_slice.result.now) (rw c.entries.ensures at c.call_off_each-called_off.ensures.told) c.call_off_each-called_off.ensures.only
    (λ told. retain_goes (names g.K.Ord.cmp g.S.Ord.cmp) c.self.inside.demand c.self.inside.stages.entries c.self.invariant.agree c.self.inside.stages.next_attempt c.self.inside.delay c.self.inside.status (eq_by_cmp_equiv g.met.K.Ord.total) keep c.args.effects.now.items c.call_off_each-called_off.new.effects.items c.retain.new.self c.forget_each.new.stages.entries c.in_ok-emptied.emptied.items
    c.in_ok-emptied.ensures.ok c.in_ok-emptied.ensures.emptied (ap (λ s. s.entries) c.forget_each.ensures) (rw c.as_slice.ensures.value at told)))
