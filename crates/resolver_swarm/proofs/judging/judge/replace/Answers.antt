use Rattle.std.proofs.Common.{ℕ, ◌≡◌, ◌||◌, eqb, take, get_or, arith}
use Rattle.std.proofs.lemmas.Grind.{common_steps}
use Rattle.std.proofs.lemmas.List.Folds.{list_any_more}
use Rattle.std.specs.Bool.{◌==◌}
use Rattle.resolver_swarm.proofs.judging.judge.replace.Goals as goal

pub loop-peer-preserved : goal.loop-peer-preserved
loop-peer-preserved c = λ peer.
    let more = list_any_more (λ other. other == peer) c.args.peers.now c.loop-peer.peer-index 0 (omega arith) in
    grind (arith, common_steps, more, c.loop-peer.invariant peer, c.in_ok-insert.ensures.updates.0 peer)
