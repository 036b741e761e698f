use Rattle.resolver_sampling.proofs.Choices.{chooses_one}
use Rattle.resolver_sampling.proofs.laws.chooses_one.Goals as goal

pub returns : goal.returns
returns c = chooses_one
