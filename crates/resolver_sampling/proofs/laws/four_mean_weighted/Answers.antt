use Rattle.resolver_sampling.proofs.Modes.{four_mean_weighted}
use Rattle.resolver_sampling.proofs.laws.four_mean_weighted.Goals as goal

pub returns : goal.returns
returns c = four_mean_weighted
