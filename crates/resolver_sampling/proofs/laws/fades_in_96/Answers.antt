use Rattle.resolver_sampling.proofs.Fades.{fades}
use Rattle.resolver_sampling.proofs.laws.fades_in_96.Goals as goal

pub returns : goal.returns
returns c = fades
