use Rattle.std.proofs.Common.{refl}
use Rattle.resolver_model_peer.proofs.laws.limit_timeout.Goals as goal

pub returns : goal.returns
returns c = record { answered = λ some. refl }
