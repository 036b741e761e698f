use Rattle.resolver_fetch_scan.proofs.ChoosesBelow.{chooses_below}
use Rattle.resolver_fetch_scan.proofs.laws.chooses_below.Goals as goal

pub returns : goal.returns
returns g c = chooses_below
