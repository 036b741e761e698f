use Rattle.resolver_types.specs.Names.{names}
use Rattle.resolver_model_opaque.proofs.Agrees.{agree-none}
use Rattle.resolver_model_opaque.proofs.OpaqueGoing.{end_goes}
use Rattle.resolver_opaque_actor.proofs.actor.Actor.end.Goals as goal

pub invariant_of-self : goal.invariant_of-self
invariant_of-self g c = record { delay = c.self.invariant.delay; agree = rw (c.clear.ensures, c.clear-2.ensures) (agree-none g.K.Ord.cmp) }

pub returns : goal.returns
returns g c =
    rw (← c.self.view_is, c.clear.ensures, c.clear-2.ensures)
    (end_goes (names g.K.Ord.cmp g.S.Ord.cmp) c.self.inside.demand c.self.inside.stages.entries c.self.invariant.agree c.self.inside.stages.next_attempt c.self.inside.delay c.self.inside.status c.args.effects.now.items c.call_off_all.new.effects.items (rw c.entries.ensures at c.in_ok-call_off_all.ensures.told))
