use Rattle.std.proofs.Common.{◌≡◌, ◌==◌, false, length}
use Rattle.resolver_types.specs.Names.{names}
use Rattle.resolver_model_opaque.specs.Opaque.{start_all, waiting_by_due}
use Rattle.resolver_model_opaque.specs.OpaqueSteps.{onto}
use Rattle.resolver_opaque_actor.proofs.actor.Actor.start_due.Given as goal

-- what is due now, behind the effects so far, does what all that was due does behind the first effects
abbrev pub invariant-loop-first : goal.invariant-loop-first
invariant-loop-first g l =
    let n = names g.K.Ord.cmp g.S.Ord.cmp in
    record {
      rest : onto l.effects.items (start_all n l.self (waiting_by_due l.now l.self.rows)) ≡ onto l.fn.effects.items (start_all n l.fn.self (waiting_by_due l.now l.fn.self.rows));
      some : (length (waiting_by_due l.now l.self.rows) == 0) ≡ false → (length (waiting_by_due l.now l.fn.self.rows) == 0) ≡ false;
    }

abbrev pub decreases-loop-first : goal.decreases-loop-first
decreases-loop-first g l = length (waiting_by_due l.now l.self.rows)
