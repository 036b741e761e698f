use Rattle.std.proofs.Common.{refl}
use Rattle.resolver_model_peer.proofs.laws.limit_one_peer.Goals as goal

pub returns : goal.returns
returns c = record { waits = λ some. refl; rows = λ some. refl; wakes = λ some. refl; answered = λ some. refl }
