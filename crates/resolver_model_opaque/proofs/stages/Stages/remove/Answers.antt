use Rattle.std.proofs.lemmas.Cmp.{eq_by_cmp_equiv}
use Rattle.resolver_model_opaque.proofs.Led.{led-removed}
use Rattle.resolver_model_opaque.proofs.Dues.{due-removed}
use Rattle.resolver_model_opaque.proofs.stages.Stages.remove.Goals as goal

pub invariant_of-self : goal.invariant_of-self
invariant_of-self g c =
    rw c.take-taken.ensures.after (
      led-removed g.met.K.Ord.total (eq_by_cmp_equiv g.met.K.Ord.total) c.args.key.now c.self.inside.attempts c.self.inside.asked c.leave_taken.new.asked c.self.inside.entries.keys c.self.invariant.0 (rw c.take-taken.ensures.entry at c.leave_taken.ensures.attempts),
      due-removed g.met.K.Ord.total (eq_by_cmp_equiv g.met.K.Ord.total) c.args.key.now c.self.inside.retries c.self.inside.entries.keys c.self.invariant.1 c.leave_taken.new.waiting c.self.invariant.0.ordered (rw c.take-taken.ensures.entry at c.leave_taken.ensures.dues),
    )
