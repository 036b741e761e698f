use Rattle.std.proofs.Common.{rules, ◌≡◌}
use Rattle.resolver_sampling.specs.Scores.{averaged}
use Rattle.resolver_sampling.specs.Bounded.{IsBounded}
use Rattle.resolver_sampling.proofs.IdleScores.{idle-lowers}
use Rattle.resolver_sampling.proofs.score.Score.record.Goals as goal

pub returns-clause-idle : goal.returns-clause-idle
returns-clause-idle c = λ none.
    let after : c.match-self.self ≡ averaged c.args.self.now (record { elapsed = c.args.elapsed; bytes = c.args.bytes }) = search rules in
    let bounded : IsBounded c.args.self.now = rw (← c.self.view_is) c.self.invariant in
    rw after (idle-lowers _ _ _ bounded none)
