-- What an actor is as a machine.
use Rattle.std.specs.Prelude.{◌<◌, ◌^◌}
use Rattle.std.specs.declared.cmp.Ordering.{Ordering}
use Rattle.resolver_opaque_actor.specs.declared.actor.Actor.TheInside.{Inside}
use Rattle.resolver_model_opaque.specs.Opaque.{Machine}
use Rattle.resolver_model_opaque.specs.OpaqueTables.{Agree, machine_with}

abbrev pub machine_of : {K V S Q : Type 0} → Inside K V S Q → Machine K V S
machine_of a = machine_with a.demand a.stages.entries a.stages.next_attempt a.delay a.status

pub record IsSound {K V S Q : Type 0} (cmp : K → K → Ordering) (a : Inside K V S Q) : Type 0 where
  pub delay : a.delay < 2 ^ 94
  pub agree : Agree cmp a.demand a.stages.entries.keys
