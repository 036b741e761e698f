use Rattle.std.proofs.Common.{refl}
use Rattle.resolver_flat.specs.Reading.{nothing_at}
use Rattle.resolver_flat.proofs.Items.{item_read}
use Rattle.resolver_flat.proofs.reading.FetchKeyU64UnitSpelled.read.Goals as goal

pub returns : goal.returns
returns g c = item_read _ nothing_at _ _ _ _ _ _ _ _ c.in_ok-key.ensures c.in_ok-subscribers.ensures refl
