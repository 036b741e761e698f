use Rattle.resolver_sampling.proofs.ChoiceCounts.{chooses_by_weight}
use Rattle.resolver_sampling.proofs.laws.chooses_by_weight.Goals as goal

pub returns : goal.returns
returns c = chooses_by_weight
