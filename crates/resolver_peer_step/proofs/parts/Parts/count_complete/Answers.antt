use Rattle.std.proofs.Common.{ap, sym, ◌∙◌, Some}
use Rattle.resolver_peer_step.proofs.Settled.{settled-same}
use Rattle.resolver_peer_step.proofs.parts.Parts.count_complete.Goals as goal

pub returns-then-measure_complete : goal.returns-then-measure_complete
returns-then-measure_complete g c =
    let same = settled-same g.K.Ord.cmp c.args.self.now.entries c.args.key.now c.counted-counted.result (sym c.in-Some.ensures ∙ ap Some (sym c.counted-counted.ensures)) in
    ap (λ entries. record c.args.self.now { entries = entries }) (c.set_state.ensures ∙ same)
